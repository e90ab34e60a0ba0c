-- The states inside a cycle keep a record well formed.
-- Assumes nothing.
use Rattle.std.proofs.Common.{◌≡◌, ℕ, ◌+◌, ◌-◌, ◌≤◌, Bool, true, false, ◌&&◌, T, eqb, refl, subst, arith}
use borrow.Author.Tests.{eqb-false, lt-leb}
use Rattle.laws.proofs.Every.{and_left}
use Rattle.laws.proofs.Tests.{true→T, and_both, pick_both}
use Rattle.opcodes.specs.Condition.{met_of}
use Rattle.opcodes.specs.Cycles.{code_of, defined_of}
use Rattle.opcodes.specs.Kinds.{states_of, waits_of, reads_of}
use Rattle.opcodes.proofs.Counts.{count_some, states_three, states_four}
use Rattle.effect.specs.declared.kept.Kept.{Kept}
use Rattle.effect.specs.Kept.{keep_of}
use Rattle.machine.specs.declared.record.Position.{Position}
use Rattle.machine.specs.declared.record.Position.TheVariants.{Later, Wait, Stop}
use Rattle.machine.specs.declared.record.Machine.{Machine}
use Rattle.machine.specs.Record.{with_next, with_regs, with_kept}
use Rattle.machine.specs.Cycle.{cycles_of, cycle_of}
use Rattle.machine.specs.Ending.{clear_of, end_of}
use Rattle.machine.specs.Step.{risen_of, wait_of, second_of, fetched_of, onward_of, took_of}
use Rattle.machine.specs.Well.{one_of, there_of, cycles_done, idle_of}
use Rattle.machine.proofs.Parts.{Well, ReadyAt, cycles_in, next_well}
use Rattle.machine.proofs.Ready.{Names, ready_more, ready_took, ready_first}
use Rattle.machine.proofs.Exists.{one_all, second_there, after_follows}
use Rattle.machine.proofs.Ends.{clear_well, end_well}

-- cycle c of the machine's opcode, which exists, has three states or more
pub three_in : (m : Machine) (c d : ℕ) → ReadyAt m d → c ≤ cycles_in m → 3 ≤ states_of (code_of m.kept.opcode c)
unfolding cycles_of
three_in m c d r l = states_three m.kept.opcode r.defined (met_of m.kept.opcode m.regs.f) c l

-- after T2 or a wait, where c - 1 cycles have read; READY counts only where the cycle waits
pub wait_well : (b : Bool) (c : ℕ) (m : Machine) → 1 ≤ c → c ≤ cycles_in m → ReadyAt m (c - 1)
    → (T b → T (waits_of (code_of m.kept.opcode c))) → Well (wait_of b c m)
unfolding wait_of there_of cycles_done idle_of
wait_well b c m l o r w =
    pick_both (λ (p : Position). Well (with_next p m)) (b && eqb m.lines.ready 0) (Wait c) (Later c 3)
    (λ (e : (b && eqb m.lines.ready 0) ≡ true).
    let t = and_left b (eqb m.lines.ready 0) (true→T (b && eqb m.lines.ready 0) e) in
    next_well m (Wait c) r
    (and_both (one_of (cycles_in m) c) (waits_of (code_of m.kept.opcode c)) (one_all (cycles_in m) c l o) (w t)) tt)
    (λ e.
    next_well m (Later c 3) r
    (second_there m.kept.opcode (cycles_in m) c 3 l o (omega arith) (three_in m c (c - 1) r o)) tt)

-- T2
pub second_well : (c : ℕ) (m : Machine) → 1 ≤ c → c ≤ cycles_in m → ReadyAt m (c - 1)
    → Well (second_of (code_of m.kept.opcode c) c m)
unfolding second_of with_regs risen_of
second_well c m l o r =
    wait_well (waits_of (code_of m.kept.opcode c)) c
    (with_regs (risen_of (code_of m.kept.opcode c) m.kept m.regs) m) l o r
    (λ t. t)

-- after state s, from T3 on, whose changes are made
pub onward_well : (c s : ℕ) (m : Machine) → 1 ≤ c → c ≤ cycles_in m → ReadyAt m c
    → 3 ≤ s → s ≤ states_of (code_of m.kept.opcode c)
    → Well (onward_of (cycle_of m.kept.opcode m.regs.f c) c s m)
unfolding onward_of cycle_of cycles_done idle_of
onward_well c s m l o r h g =
    let code = code_of m.kept.opcode c in
    pick_both Well (eqb (states_of code) s) (end_of c (cycle_of m.kept.opcode m.regs.f c).after m)
    (with_next (Later c (s + 1)) m)
    (λ e. end_well c (cycle_of m.kept.opcode m.regs.f c).after m l o r (after_follows (cycles_in m) c))
    (λ (e : eqb (states_of code) s ≡ false).
    let ne = eqb-false (states_of code) s e in
    next_well m (Later c (s + 1)) (rw (lt-leb (s + 1) 3 (omega arith)) r)
    (second_there m.kept.opcode (cycles_in m) c (s + 1) l o (omega arith) (omega arith)) tt)

-- T3 of a fetch
pub fetched_well : (v : ℕ) (m : Machine) → ReadyAt m 0 → Names v m.kept → Well (fetched_of (defined_of v) v m)
unfolding fetched_of with_kept keep_of cycles_of there_of cycles_done idle_of
fetched_well v m r a =
    pick_both Well (defined_of v) (with_next (Later 1 4) (with_kept (keep_of 1 v m.kept) m)) (clear_of Stop m)
    (λ (e : defined_of v ≡ true).
    let d = true→T (defined_of v) e in
    next_well (with_kept (keep_of 1 v m.kept) m) (Later 1 4)
    (ready_first m.regs.f m.lines m.kept v 1 (omega arith) d a r)
    (second_there v (cycles_of v m.regs.f) 1 4 (omega arith) (count_some v d (met_of v m.regs.f)) (omega arith)
    (states_four v d)) tt)
    (λ e. clear_well m Stop r.fixed r.listed tt)

-- the same as onward_well, where the opcode is known to be op
onward_as : (op c s : ℕ) (m : Machine) → m.kept.opcode ≡ op → 1 ≤ c → c ≤ cycles_of op m.regs.f → ReadyAt m c
    → 3 ≤ s → s ≤ states_of (code_of op c) → Well (onward_of (cycle_of op m.regs.f c) c s m)
onward_as op c s m e l o r h g =
    subst
    (λ (x : ℕ). c ≤ cycles_of x m.regs.f → s ≤ states_of (code_of x c) → Well (onward_of (cycle_of x m.regs.f c) c s m))
    e (λ o g. onward_well c s m l o r h g) o g

-- T3 of a later cycle
pub took_well : (v c : ℕ) (m : Machine) → 1 ≤ c → c ≤ cycles_in m → ReadyAt m (c - 1) → eqb c 1 ≡ false
    → let y = cycle_of m.kept.opcode m.regs.f c in Well (onward_of y c 3 (took_of y.code c v m))
unfolding took_of with_kept keep_of cycle_of
took_well v c m l o r e =
    let y = cycle_of m.kept.opcode m.regs.f c in
    let three = three_in m c (c - 1) r o in
    let ne = eqb-false c 1 e in
    pick_both (λ (k : Kept). Well (onward_of y c 3 (with_kept k m))) (reads_of y.code) (keep_of c v m.kept) m.kept
    (λ (t : reads_of y.code ≡ true).
    onward_as m.kept.opcode c 3 (with_kept (keep_of c v m.kept) m) (rw e) l o
    (ready_took m.regs.f m.lines m.kept c v (omega arith) (true→T (reads_of (code_of m.kept.opcode c)) t) r)
    (omega arith) three)
    (λ t.
    onward_as m.kept.opcode c 3 (with_kept m.kept m) refl l o
    (ready_more m.regs.f m.lines m.kept c (omega arith) r) (omega arith) three)
