-- The run of the contracts is a run over levels that are functions of the state's number, as long as the clock does not wrap.
-- Assumes nothing.
use Prim.Native.Nat.{ℕ, zero, suc, ◌+◌, ◌-◌, ◌/◌, ◌≤◌, ◌<◌}
use mathlib.Core.Path.{◌≡◌, refl, sym, ap, ap₂, ◌∙◌}
use mathlib.Core.Bool.{Bool, true, false}
use mathlib.Core.List.{List}
use native.Mathlib.Omega.{arith}
use lib.ListN.{length}
use Rattle.laws.specs.Choice.{pick}
use Rattle.machine.specs.declared.record.Lines.{Lines}
use Rattle.machine.specs.declared.record.Position.{Position}
use Rattle.machine.specs.declared.record.Machine.{Machine}
use Rattle.machine.specs.Record.{with_lines, with_clock, stopped_of, ticked_of}
use Rattle.machine.specs.Step.{moved_of, step_of}
use Rattle.machine.proofs.Levels.{levels_kept}
use Rattle.schedule.specs.Levels.{levels_at}
use Rattle.run.specs.State.{asked, heard, memory_after, outputs_after}
use Rattle.run.specs.Run.{World, eventful_of, state_of, run_of}
use Rattle.demands.specs.Outside.{Outside, levels_from, outside_of}
use Rattle.demands.specs.Board.{Board, board_of}
use Rattle.demands.proofs.Steps.{driven, state_from, step, run}
use Rattle.demands.proofs.Lines.{ready_only, hold_only, event_int}

-- the clock of a machine that has not stopped counts one state
ticked : (p : Position) (t : ℕ) → stopped_of p ≡ false → t < 4294967295 → ticked_of p t ≡ t + 1
unfolding ticked_of
ticked p t f h = rw f (omega arith)

module _ (s inputs : List ℕ) (m₀ : Machine) where
  abbrev E : Outside
  E = outside_of s inputs m₀

  -- READY and HOLD before the state j
  abbrev levels_before : ℕ → Lines
  levels_before zero = m₀.lines
  levels_before (suc j) = levels_from s m₀.clock m₀.lines j

  -- the machine m is j states on
  pub record Tracks (j : ℕ) (m : Machine) : Type 0 where
    pub clock : m.clock ≡ m₀.clock + j
    pub ready : m.lines.ready ≡ (levels_before j).ready
    pub hold : m.lines.hold ≡ (levels_before j).hold

  level_step : (j : ℕ) → levels_from s m₀.clock m₀.lines j ≡ levels_at s (length s / 6) (m₀.clock + j) (levels_before j)
  unfolding levels_from
  level_step zero = ap (λ (u : ℕ). levels_at s (length s / 6) u m₀.lines) (let e : m₀.clock ≡ m₀.clock + 0 = omega arith in e)
  level_step (suc j) = refl

  -- the events give the levels of the state
  module _ (j : ℕ) (m : Machine) (k : Tracks j m) where
    -- a level that comes from its own events alone
    level_is : (f : Lines → ℕ)
        → ((l : Lines) → f m.lines ≡ f l
        → f (levels_at s (length s / 6) m.clock m.lines) ≡ f (levels_at s (length s / 6) m.clock l))
        → f m.lines ≡ f (levels_before j) → f (eventful_of s m).lines ≡ f (levels_from s m₀.clock m₀.lines j)
    unfolding eventful_of with_lines
    level_is f only e =
        only (levels_before j) e
        ∙ ap (λ (u : ℕ). f (levels_at s (length s / 6) u (levels_before j))) k.clock
        ∙ ap f (sym (level_step j))

    ready_is : (eventful_of s m).lines.ready ≡ (levels_from s m₀.clock m₀.lines j).ready
    ready_is = level_is (λ l. l.ready) (ready_only s m.clock (length s / 6) m.lines) k.ready

    hold_is : (eventful_of s m).lines.hold ≡ (levels_from s m₀.clock m₀.lines j).hold
    hold_is = level_is (λ l. l.hold) (hold_only s m.clock (length s / 6) m.lines) k.hold

    -- the state j by its number
    from : levels_from s m₀.clock m₀.lines j ≡ levels_from s m₀.clock m₀.lines (m.clock - m₀.clock)
    from = ap (levels_from s m₀.clock m₀.lines) (let e : j ≡ m.clock - m₀.clock = omega (arith, k.clock) in e)

    pub same_levels : eventful_of s m ≡ driven E m
    unfolding eventful_of driven with_lines outside_of
    same_levels =
        λ i.
        with_lines
        (record {
          ready = (ready_is ∙ ap (λ (l : Lines). l.ready) from) i;
          hold = (hold_is ∙ ap (λ (l : Lines). l.hold) from) i;
          int = event_int s m i;
        })
        m

    -- one state more
    tracks_on : (v : ℕ) → stopped_of m.next ≡ false → m.clock < 4294967295 → Tracks (suc j) (step_of v (eventful_of s m))
    unfolding step_of eventful_of with_lines with_clock
    tracks_on v f h =
        record {
          clock = ticked m.next m.clock f h ∙ omega (arith, k.clock);
          ready = (levels_kept v (eventful_of s m)).0 ∙ ready_is;
          hold = (levels_kept v (eventful_of s m)).1 ∙ hold_is;
        }

  state_as : (w : World) (m : Machine) → m.clock ≡ w.machine.clock → m.next ≡ w.machine.next
      → stopped_of w.machine.next ≡ false → w.machine.clock < 4294967295
      → board_of (state_of inputs m w) ≡ state_from E m (board_of w)
  unfolding state_of step_of with_clock outside_of
  state_as w m e p f h =
      ap
      (λ (u : ℕ).
      record {
        machine = with_clock u (moved_of m.next (heard m w.memory inputs) m);
        memory = memory_after (asked m) w.memory;
        outputs = outputs_after (asked m) w.outputs;
      })
      (ap₂ ticked_of p e ∙ ticked w.machine.next w.machine.clock f h ∙ ap (λ (u : ℕ). u + 1) (sym e))

  same_state : (j : ℕ) (w : World) → Tracks j w.machine → stopped_of w.machine.next ≡ false → w.machine.clock < 4294967295
      → board_of (state_of inputs (eventful_of s w.machine) w) ≡ step E (board_of w)
  unfolding step eventful_of with_lines
  same_state j w k f h =
      state_as w (eventful_of s w.machine) refl refl f h
      ∙ ap (λ (m : Machine). state_from E m (board_of w)) (same_levels j w.machine k)

  pub tracks_next : (j : ℕ) (w : World) → Tracks j w.machine → stopped_of w.machine.next ≡ false → w.machine.clock < 4294967295
      → Tracks (suc j) (state_of inputs (eventful_of s w.machine) w).machine
  unfolding state_of
  tracks_next j w k f h = tracks_on j w.machine k (heard (eventful_of s w.machine) w.memory inputs) f h

  either : (b : Bool) (w x : World) (y : Board) → (b ≡ false → board_of x ≡ y) → board_of (pick b w x) ≡ pick b (board_of w) y
  either true w x y f = refl
  either false w x y f = f refl

  -- n states of the contracts' run, from the state j on
  bridge_from : (n j : ℕ) (w : World) → Tracks j w.machine → w.machine.clock + n ≤ 4294967295
      → board_of (run_of s inputs n w) ≡ run E n (board_of w)
  unfolding run_of run
  bridge_from zero j w k h = refl
  bridge_from (suc n) j w k h =
      either (stopped_of w.machine.next) w (run_of s inputs n (state_of inputs (eventful_of s w.machine) w))
      (run E n (step E (board_of w)))
      (λ (f : stopped_of w.machine.next ≡ false).
      let l : w.machine.clock < 4294967295 = omega arith in
      let k' = tracks_next j w k f l in
      bridge_from n (suc j) (state_of inputs (eventful_of s w.machine) w) k' (omega (arith, k'.clock, k.clock))
      ∙ ap (run E n) (same_state j w k f l))

-- the bridge: n states of the contracts' run from the world w
pub bridge : (s inputs : List ℕ) (n : ℕ) (w : World) → w.machine.clock + n ≤ 4294967295
    → board_of (run_of s inputs n w) ≡ run (outside_of s inputs w.machine) n (board_of w)
bridge s inputs n w h =
    bridge_from s inputs w.machine n 0 w (record { clock = omega arith; ready = refl; hold = refl }) h
