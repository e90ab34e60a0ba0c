-- Each level comes from its own events alone. Assumes nothing.
use Prim.Native.Nat.{ℕ, zero, suc, ◌/◌}
use mathlib.Core.Path.{◌≡◌, refl, ap}
use mathlib.Core.Bool.{Bool, true, false}
use mathlib.Core.List.{List}
use lib.Dec.{eqb, ltb}
use lib.ListN.{length}
use Rattle.laws.specs.Choice.{pick}
use Rattle.machine.specs.declared.record.Lines.{Lines}
use Rattle.machine.specs.declared.record.Machine.{Machine}
use Rattle.machine.specs.Record.{with_lines}
use Rattle.schedule.specs.Events.{state_number_of, line_of, value_of}
use Rattle.schedule.specs.Levels.{act_of, once_of, levels_at}
use Rattle.run.specs.Run.{eventful_of}
use Rattle.demands.specs.Outside.{int_in}

-- one event
once_ready : (b : Bool) (line value : ℕ) (l l' : Lines) → l.ready ≡ l'.ready
    → (pick b (act_of line value l) l).ready ≡ (pick b (act_of line value l') l').ready
unfolding act_of
once_ready true line value l l' e = ap (pick (eqb line 0) value) e
once_ready false line value l l' e = e

once_hold : (b : Bool) (line value : ℕ) (l l' : Lines) → l.hold ≡ l'.hold
    → (pick b (act_of line value l) l).hold ≡ (pick b (act_of line value l') l').hold
unfolding act_of
once_hold true line value l l' e = ap (pick (eqb line 1) value) e
once_hold false line value l l' e = e

once_int : (b : Bool) (line value : ℕ) (l l' : Lines) → l.int ≡ l'.int
    → (pick b (act_of line value l) l).int ≡ (pick b (act_of line value l') l').int
unfolding act_of
once_int true line value l l' e = ap (λ (x : ℕ). pick (ltb line 2) x value) e
once_int false line value l l' e = e

module _ (s : List ℕ) (t : ℕ) where
  pub ready_only : (n : ℕ) (l l' : Lines) → l.ready ≡ l'.ready → (levels_at s n t l).ready ≡ (levels_at s n t l').ready
  unfolding levels_at once_of
  ready_only zero l l' e = e
  ready_only (suc n) l l' e =
      once_ready (eqb (state_number_of s n) t) (line_of s n) (value_of s n) (levels_at s n t l) (levels_at s n t l') (ready_only n l l' e)

  pub hold_only : (n : ℕ) (l l' : Lines) → l.hold ≡ l'.hold → (levels_at s n t l).hold ≡ (levels_at s n t l').hold
  unfolding levels_at once_of
  hold_only zero l l' e = e
  hold_only (suc n) l l' e =
      once_hold (eqb (state_number_of s n) t) (line_of s n) (value_of s n) (levels_at s n t l) (levels_at s n t l') (hold_only n l l' e)

  pub int_only : (n : ℕ) (l l' : Lines) → l.int ≡ l'.int → (levels_at s n t l).int ≡ (levels_at s n t l').int
  unfolding levels_at once_of
  int_only zero l l' e = e
  int_only (suc n) l l' e =
      once_int (eqb (state_number_of s n) t) (line_of s n) (value_of s n) (levels_at s n t l) (levels_at s n t l') (int_only n l l' e)

-- what the events of a state make of INT
pub event_int : (s : List ℕ) (m : Machine) → (eventful_of s m).lines.int ≡ int_in s m.clock m.lines.int
unfolding eventful_of with_lines int_in
event_int s m = int_only s m.clock (length s / 6) m.lines (record { ready = 0; hold = 0; int = m.lines.int }) refl
