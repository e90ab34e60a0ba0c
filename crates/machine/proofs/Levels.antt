-- No state changes READY or HOLD: only events do.
-- Assumes nothing.
use Rattle.std.proofs.Common.{◌≡◌, ℕ, ◌+◌, Bool, ◌&&◌, eqb, refl}
use Rattle.laws.specs.Choice.{pick}
use Rattle.laws.proofs.Tests.{pick_both}
use Rattle.opcodes.specs.Cycles.{defined_of}
use Rattle.opcodes.specs.declared.cycle.Acknowledge.TheVariants.{Running, Halted}
use Rattle.effect.specs.Kept.{keep_of}
use Rattle.effect.specs.Effect.{effect_of}
use Rattle.machine.specs.declared.cycle.Cycle.{Cycle}
use Rattle.machine.specs.declared.record.Position.{Position}
use Rattle.machine.specs.declared.record.Position.TheVariants.{Fetch, Later, Wait, Hold, Halt, Stop}
use Rattle.machine.specs.declared.record.Machine.{Machine}
use Rattle.machine.specs.Record.{with_next, with_regs, with_kept, with_clock}
use Rattle.machine.specs.Cycle.{cycle_of}
use Rattle.machine.specs.Ending.{takes_of, acknowledge_of, clear_of, is_hlt, ended_of, follow_of, holds, hold_of, end_of}
use Rattle.machine.specs.Step.{wait_of, second_of, fetched_of, onward_of, took_of, from_third, later_of, halted_of, moved_of, step_of}

-- the machine n has the READY and HOLD of m
abbrev pub Level : Machine → Machine → Type 0
Level m n = (n.lines.ready ≡ m.lines.ready) × (n.lines.hold ≡ m.lines.hold)

-- the instruction is over
ended_level : (m : Machine) → Level m (ended_of m)
unfolding ended_of acknowledge_of clear_of
ended_level m =
    pick_both (Level m) (takes_of m) (acknowledge_of (pick (is_hlt m) Halted Running) m) (clear_of (pick (is_hlt m) Halt Fetch) m)
    (λ e. (refl, refl)) (λ e. (refl, refl))

-- the cycle and its holds are over
follow_level : (n : ℕ) (m : Machine) → Level m (follow_of n m)
unfolding follow_of with_next
follow_level n m =
    pick_both (Level m) (eqb n 0) (ended_of m) (with_next (Later n 1) m) (λ e. ended_level m) (λ e. (refl, refl))

-- all changes of the cycle are made
hold_level : (c n : ℕ) (m : Machine) → Level m (hold_of c n m)
unfolding hold_of with_next
hold_level c n m =
    pick_both (Level m) (holds m) (with_next (Hold c) m) (follow_of n m) (λ e. (refl, refl)) (λ e. follow_level n m)

-- the last state of the cycle
end_level : (c n : ℕ) (m : Machine) → Level m (end_of c n m)
unfolding end_of with_regs
end_level c n m = hold_level c n (with_regs (pick (eqb n 0) (effect_of m.kept m.regs) m.regs) m)

-- after state s
onward_level : (y : Cycle) (c s : ℕ) (m : Machine) → Level m (onward_of y c s m)
unfolding onward_of with_next
onward_level y c s m =
    pick_both (Level m) (eqb y.states s) (end_of c y.after m) (with_next (Later c (s + 1)) m)
    (λ e. end_level c y.after m) (λ e. (refl, refl))

-- T3 of a fetch
fetched_level : (b : Bool) (v : ℕ) (m : Machine) → Level m (fetched_of b v m)
unfolding fetched_of with_next with_kept clear_of
fetched_level b v m =
    pick_both (Level m) b (with_next (Later 1 4) (with_kept (keep_of 1 v m.kept) m)) (clear_of Stop m)
    (λ e. (refl, refl)) (λ e. (refl, refl))

-- any other state from T3 on
third_level : (y : Cycle) (c s v : ℕ) (m : Machine) → Level m (from_third y c s v m)
unfolding from_third took_of with_kept
third_level y c s v m =
    let fourth : Machine = pick (eqb s 4) (onward_of y c 4 m) (end_of c y.after m) in
    pick_both (Level m) (eqb s 3) (onward_of y c 3 (took_of y.code c v m)) fourth
    (λ e. onward_level y c 3 (took_of y.code c v m))
    (λ e.
    pick_both (Level m) (eqb s 4) (onward_of y c 4 m) (end_of c y.after m) (λ e. onward_level y c 4 m)
    (λ e. end_level c y.after m))

-- state s of a cycle
later_level : (y : Cycle) (c s : ℕ) (b : Bool) (v : ℕ) (m : Machine) → Level m (later_of y c s b v m)
unfolding later_of second_of wait_of with_next with_regs
later_level y c s b v m =
    let third : Machine = pick (eqb s 3 && eqb c 1) (fetched_of b v m) (from_third y c s v m) in
    let second : Machine = pick (eqb s 2) (second_of y.code c m) third in
    pick_both (Level m) (eqb s 1) (with_next (Later c 2) m) second (λ e. (refl, refl))
    (λ e.
    pick_both (Level m) (eqb s 2) (second_of y.code c m) third (λ e. (refl, refl))
    (λ e.
    pick_both (Level m) (eqb s 3 && eqb c 1) (fetched_of b v m) (from_third y c s v m) (λ e. fetched_level b v m)
    (λ e. third_level y c s v m)))

-- the state at a position
moved_level : (p : Position) (v : ℕ) (m : Machine) → Level m (moved_of p v m)
unfolding moved_of halted_of wait_of with_next with_kept
moved_level Fetch v m = (refl, refl)
moved_level (Later c s) v m = later_level (cycle_of m.kept.opcode m.regs.f c) c s (defined_of v) v m
moved_level (Wait c) v m = (refl, refl)
moved_level (Hold c) v m = hold_level c (cycle_of m.kept.opcode m.regs.f c).after m
moved_level Halt v m = hold_level 2 0 (with_kept (keep_of 1 0x76 m.kept) m)
moved_level Stop v m = (refl, refl)

-- one state leaves READY and HOLD as they were
pub levels_kept : (v : ℕ) (m : Machine) → Level m (step_of v m)
unfolding step_of with_clock
levels_kept v m = moved_level m.next v m
