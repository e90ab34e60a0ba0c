-- The states keep a record well formed, position by position.
-- Assumes nothing.
use Rattle.std.proofs.Common.{◌≡◌, ℕ, ◌-◌, ◌≤◌, true, false, ◌&&◌, T, eqb, subst, ⊎_elim, true≢false, arith, eqb-true, le-leb}
use borrow.Author.Tests.{eqb-false, lt-leb}
use Rattle.laws.specs.Choice.{pick}
use Rattle.laws.proofs.Every.{and_left, and_right}
use Rattle.laws.proofs.Tests.{or_left, or_either, pick_both}
use Rattle.opcodes.specs.Condition.{met_of}
use Rattle.opcodes.specs.Cycles.{code_of, defined_of, cycling}
use Rattle.opcodes.specs.Kinds.{waits_of, is_none}
use Rattle.opcodes.proofs.Counts.{count_some}
use Rattle.effect.specs.Kept.{keep_of}
use Rattle.machine.specs.declared.record.Position.{Position}
use Rattle.machine.specs.declared.record.Position.TheVariants.{Fetch, Later, Wait, Hold, Halt, Stop}
use Rattle.machine.specs.declared.record.Machine.{Machine}
use Rattle.machine.specs.Record.{with_next, with_kept}
use Rattle.machine.specs.Cycle.{cycles_of, cycle_of}
use Rattle.machine.specs.Ending.{end_of}
use Rattle.machine.specs.Step.{second_of, fetched_of, onward_of, took_of, from_third, later_of, halted_of, moved_of}
use Rattle.machine.specs.Request.{restart_of}
use Rattle.machine.specs.Well.{one_of, there_of, cycles_done, idle_of}
use Rattle.machine.proofs.Onward.{fetch_third}
use Rattle.machine.proofs.Parts.{Well, ReadyAt, cycles_in, There, Parts, next_well}
use Rattle.machine.proofs.Ready.{Names, ready_first}
use Rattle.machine.proofs.Exists.{one_each, later_each, second_there, after_follows}
use Rattle.machine.proofs.Ends.{hold_well, end_well}
use Rattle.machine.proofs.States.{three_in, wait_well, second_well, onward_well, fetched_well, took_well}

-- how many cycles have read before T4, and from T4 on
early : (c s : ℕ) → s ≤ 3 → cycles_done (Later c s) ≡ c - 1
unfolding cycles_done
early c s l = rw (le-leb s 3 l)

late : (c s : ℕ) → 4 ≤ s → cycles_done (Later c s) ≡ c
unfolding cycles_done
late c s l = rw (lt-leb s 3 l)

-- state s of cycle c from T3 on, T3 of a fetch apart
third_well : (v c s : ℕ) (m : Machine) → ReadyAt m (cycles_done (Later c s)) → There m (Later c s) → 3 ≤ s
    → eqb s 3 && eqb c 1 ≡ false → Well (from_third (cycle_of m.kept.opcode m.regs.f c) c s v m)
unfolding from_third cycle_of
third_well v c s m r t h e =
    let y = cycle_of m.kept.opcode m.regs.f c in
    let (l, o, f, g) = later_each m.kept.opcode (cycles_in m) c s t in
    let last : Machine = end_of c y.after m in
    let fourth : Machine = pick (eqb s 4) (onward_of y c 4 m) last in
    pick_both Well (eqb s 3) (onward_of y c 3 (took_of y.code c v m)) fourth
    (λ (z : eqb s 3 ≡ true).
    let q = eqb-true s 3 z in
    took_well v c m l o (subst (ReadyAt m) (early c s (omega arith)) r) (rw z at e))
    (λ (z : eqb s 3 ≡ false).
    let ne = eqb-false s 3 z in
    let done = subst (ReadyAt m) (late c s (omega arith)) r in
    pick_both Well (eqb s 4) (onward_of y c 4 m) last
    (λ (z : eqb s 4 ≡ true). let q = eqb-true s 4 z in onward_well c 4 m l o done (omega arith) (omega arith))
    (λ z. end_well c y.after m l o done (after_follows (cycles_in m) c)))

-- state s of cycle c
later_well : (v c s : ℕ) (m : Machine) → ReadyAt m (cycles_done (Later c s)) → There m (Later c s)
    → (c ≡ 1 → s ≡ 3 → Names v m.kept)
    → Well (later_of (cycle_of m.kept.opcode m.regs.f c) c s (defined_of v) v m)
unfolding later_of cycle_of cycles_done idle_of
later_well v c s m r t a =
    let op = m.kept.opcode in
    let y = cycle_of op m.regs.f c in
    let n = cycles_in m in
    let (l, o, g, h) = later_each op n c s t in
    let three = three_in m c (cycles_done (Later c s)) r o in
    let before : s ≤ 3 → ReadyAt m (c - 1) = λ z. subst (ReadyAt m) (early c s z) r in
    let third : Machine = pick (eqb s 3 && eqb c 1) (fetched_of (defined_of v) v m) (from_third y c s v m) in
    let second : Machine = pick (eqb s 2) (second_of y.code c m) third in
    pick_both Well (eqb s 1) (with_next (Later c 2) m) second
    (λ (e : eqb s 1 ≡ true).
    let q = eqb-true s 1 e in
    next_well m (Later c 2) (before (omega arith)) (second_there op n c 2 l o (omega arith) (omega arith)) tt)
    (λ (e1 : eqb s 1 ≡ false).
    pick_both Well (eqb s 2) (second_of y.code c m) third
    (λ (e : eqb s 2 ≡ true). let q = eqb-true s 2 e in second_well c m l o (before (omega arith)))
    (λ (e2 : eqb s 2 ≡ false).
    let n1 = eqb-false s 1 e1 in
    let n2 = eqb-false s 2 e2 in
    pick_both Well (eqb s 3 && eqb c 1) (fetched_of (defined_of v) v m) (from_third y c s v m)
    (λ (e : eqb s 3 && eqb c 1 ≡ true).
    let (q, z) = fetch_third c s e in
    fetched_well v m (subst (ReadyAt m) (omega arith) (before (omega arith))) (a z q))
    (λ e. third_well v c s m r t (omega arith) e)))

-- a halt state
halted_well : (m : Machine) → ReadyAt m 0 → T (is_none m.kept.ack) → Well (halted_of m)
unfolding halted_of with_kept keep_of cycles_of cycling
halted_well m r a =
    hold_well 2 0 (with_kept (keep_of 1 0x76 m.kept) m) (omega arith) (omega arith)
    (ready_first m.regs.f m.lines m.kept 0x76 2 (omega arith) tt
    (or_left (is_none m.kept.ack) (eqb 0x76 (restart_of m.kept)) a) r)
    (λ e. absurd (true≢false e))

-- the state at a position, the clock apart
pub moved_well : (p : Position) (v : ℕ) (m : Machine) → Well m → Parts m p → (p ≡ Later 1 3 → Names v m.kept)
    → Well (moved_of p v m)
unfolding moved_of cycle_of there_of cycles_done idle_of cycles_of
moved_well Fetch v m w p a =
    let op = m.kept.opcode in
    let some = count_some op p.ready.defined (met_of op m.regs.f) in
    let three = three_in m 1 0 p.ready some in
    next_well m (Later 1 2) p.ready (second_there op (cycles_in m) 1 2 (omega arith) some (omega arith) (omega arith)) tt
moved_well (Later c s) v m w p a = later_well v c s m p.ready p.there (λ q z. a (λ i. Later (q i) (z i)))
moved_well (Wait c) v m w p a =
    let code = code_of m.kept.opcode c in
    let (l, o) = one_each (cycles_in m) c (and_left (one_of (cycles_in m) c) (waits_of code) p.there) in
    wait_well true c m l o p.ready (λ e. and_right (one_of (cycles_in m) c) (waits_of code) p.there)
moved_well (Hold c) v m w p a =
    let (l, o) = one_each (cycles_in m) c p.there in
    hold_well c (cycle_of m.kept.opcode m.regs.f c).after m l o p.ready (after_follows (cycles_in m) c)
moved_well Halt v m w p a =
    halted_well m p.ready
    (⊎_elim (λ (z : T (is_none m.kept.ack)). z) (λ z. absurd z) (or_either (is_none m.kept.ack) false p.awake))
moved_well Stop v m w p a = w
