-- The levels at a state. Source: document 01, "Schedule". Cited by `schedule::levels` and by a run.
use Rattle.std.specs.Prelude.{ℕ, zero, suc, ◌*◌, ◌≤◌, ◌<◌, ◌≡◌, List, length, ltb, eqb}
use Rattle.laws.specs.Choice.{pick}
use Rattle.machine.specs.declared.record.Lines.{Lines}
use Rattle.schedule.specs.Events.{state_number_of, line_of, value_of}

-- the levels l with one of them set: line 0 READY, 1 HOLD, 2 INT
unfoldable pub act_of : ℕ → ℕ → Lines → Lines
act_of line value l =
    record {
      ready = pick (eqb line 0) value l.ready;
      hold = pick (eqb line 1) value l.hold;
      int = pick (ltb line 2) l.int value;
    }

-- "An event acts at the start of the state whose number equals its own"
unfoldable pub once_of : List ℕ → ℕ → ℕ → Lines → Lines
once_of s i t l = pick (eqb (state_number_of s i) t) (act_of (line_of s i) (value_of s i) l) l

-- the levels at state t after the first n events, in their order
unfoldable pub levels_at : List ℕ → ℕ → ℕ → Lines → Lines
levels_at s zero t l = l
levels_at s (suc n) t l = once_of s n t (levels_at s n t l)

-- what a cursor at `from` asks: n events that are there, their numbers in order, and those before it lie before t
pub record Asks (s : List ℕ) (n from t : ℕ) : Type 0 where
  pub room : 6 * n ≤ length s
  pub within : from ≤ n
  pub sorted : (i j : ℕ) → i ≤ j → j < n → state_number_of s i ≤ state_number_of s j
  pub past : (j : ℕ) → j < from → state_number_of s j < t

-- and what it gives: the levels r at state t, and a place up to which no event lies past t
pub record Gives (s : List ℕ) (n t : ℕ) (l r : Lines) (at : ℕ) : Type 0 where
  pub lines : r ≡ levels_at s n t l
  pub within : at ≤ n
  pub done : (j : ℕ) → j < at → state_number_of s j ≤ t
