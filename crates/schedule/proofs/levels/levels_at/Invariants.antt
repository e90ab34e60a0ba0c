-- `schedule::levels::levels_at` meets its contract. The loop has done the events behind it.
-- Assumes nothing.
use Prim.Native.Nat.{ℕ, ◌≤◌, ◌<◌}
use mathlib.Core.Path.{◌≡◌}
use Rattle.schedule.specs.Events.{state_number_of}
use Rattle.schedule.specs.Levels.{levels_at}
use Rattle.schedule.proofs.levels.levels_at.Given as goal

abbrev pub invariant-loop-i : goal.invariant-loop-i
invariant-loop-i l =
    (l.lines ≡ levels_at l.s l.i l.t l.initial.lines) × ((j : ℕ) → j < l.i → state_number_of l.s j ≤ l.t)
