-- What comes from outside a run, by the number of the state: the levels of READY and HOLD as the starting levels and the
-- schedule give them, and what the events make of INT. Source: document 01, "Schedule". Cited by the statements of the demands.
use Rattle.std.specs.Prelude.{ℕ, zero, suc, ◌+◌, ◌-◌, ◌/◌, Bool, List, eqb, length}
use Rattle.machine.specs.declared.record.Lines.{Lines}
use Rattle.machine.specs.declared.record.Machine.{Machine}
use Rattle.schedule.specs.Levels.{levels_at}

-- READY and HOLD in the state of a number, what the events of a state make of INT, and the input ports
pub record Outside : Type 0 where
  pub ready : ℕ → ℕ
  pub hold : ℕ → ℕ
  pub int : ℕ → ℕ → ℕ
  pub inputs : List ℕ

-- the levels in the nth state after the state t, which begins with the levels l: the events of each state, one after the other
unfoldable pub levels_from : List ℕ → ℕ → Lines → ℕ → Lines
levels_from s t l zero = levels_at s (length s / 6) t l
levels_from s t l (suc n) = levels_at s (length s / 6) (t + suc n) (levels_from s t l n)

-- what the events of the state t make of the level v of INT
unfoldable pub int_in : List ℕ → ℕ → ℕ → ℕ
int_in s t v = (levels_at s (length s / 6) t (record { ready = 0; hold = 0; int = v })).int

-- what comes from outside a run of the machine m with the schedule s and the input ports
unfoldable pub outside_of : List ℕ → List ℕ → Machine → Outside
outside_of s inputs m =
    record {
      ready = λ u. (levels_from s m.clock m.lines (u - m.clock)).ready;
      hold = λ u. (levels_from s m.clock m.lines (u - m.clock)).hold;
      int = int_in s;
      inputs = inputs;
    }

-- in the state u READY is down, and HOLD is up
abbrev pub down : Outside → ℕ → Bool
down E u = eqb (E.ready u) 0

abbrev pub up : Outside → ℕ → Bool
up E u = eqb (E.hold u) 1

-- the levels and the clock between two states
pub record Moment : Type 0 where
  pub lines : Lines
  pub clock : ℕ

-- one state later, and n states later, where no interrupt is taken
abbrev pub did : Outside → Moment → Moment
did E t =
    record {
      lines =
          record {
            ready = E.ready t.clock;
            hold = E.hold t.clock;
            int = E.int t.clock t.lines.int;
          };
      clock = t.clock + 1;
    }

abbrev pub did_times : Outside → ℕ → Moment → Moment
did_times E zero t = t
did_times E (suc n) t = did E (did_times E n t)
