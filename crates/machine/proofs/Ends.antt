-- The end of a cycle and of an instruction keeps a record well formed: holds, interrupts, halting.
-- Assumes nothing.
use Rattle.std.proofs.Common.{◌≡◌, ℕ, ◌<◌, ◌≤◌, Bool, true, false, ◌&&◌, T, eqb, leb, length, refl, ap, subst, arith, le→leb, ltb→lt}
use Rattle.laws.specs.Choice.{pick}
use Rattle.laws.proofs.Every.{and_left}
use Rattle.laws.proofs.Tests.{true→T, and_both, or_right, pick_both}
use Rattle.alu.specs.declared.flags.Flags.{Flags}
use Rattle.alu.specs.Flags.{flag_byte_of}
use Rattle.alu.proofs.Laws.{flags_fixed}
use Rattle.opcodes.specs.Condition.{met_of}
use Rattle.opcodes.specs.Instructions.{Instruction, decode}
use Rattle.opcodes.specs.Cycles.{cycles, count_of, cycling}
use Rattle.opcodes.specs.Kinds.{is_none}
use Rattle.opcodes.specs.declared.cycle.Acknowledge.{Acknowledge}
use Rattle.opcodes.specs.declared.cycle.Acknowledge.TheVariants.{Running, Halted}
use Rattle.opcodes.proofs.Counts.{states_three}
use Rattle.effect.specs.declared.registers.Registers.{Registers}
use Rattle.effect.specs.declared.kept.Kept.{Kept}
use Rattle.effect.specs.Kept.{kept_for}
use Rattle.effect.specs.Effect.{effect_of}
use Rattle.effect.proofs.After.{After, kept, changed, after_is}
use Rattle.machine.specs.declared.record.Lines.{Lines}
use Rattle.machine.specs.declared.record.Position.{Position}
use Rattle.machine.specs.declared.record.Position.TheVariants.{Fetch, Later, Hold, Halt}
use Rattle.machine.specs.declared.record.Machine.{Machine}
use Rattle.machine.specs.Record.{with_next, with_regs}
use Rattle.machine.specs.Cycle.{cycles_of}
use Rattle.machine.specs.Ending.{takes_of, acknowledge_of, clear_of, is_hlt, ended_of, follow_of, holds, hold_of, end_of}
use Rattle.machine.specs.Well.{fixed_of, levels_listed, there_of, cycles_done, idle_of, zero_or_read, bytes_of}
use Rattle.machine.proofs.Parts.{Well, ReadyAt, cycles_in, well_of_lem, next_well}
use Rattle.machine.proofs.Exists.{Follows, one_all, start_there}

-- nothing is kept, and p is next, which exists for opcode 0
pub clear_well : (m : Machine) (p : Position) → T (fixed_of m.regs.f) → T (levels_listed m.lines)
    → T (there_of 0 (cycles_of 0 m.regs.f) p) → Well (clear_of p m)
unfolding clear_of kept_for bytes_of zero_or_read cycling
clear_well m p f l t =
    well_of_lem (clear_of p m)
    record { ready = record { fixed = f; listed = l; defined = tt; named = tt; bytes = tt }; there = t; awake = tt }

-- the lines with INT down
lowered : (l : Lines) → T (levels_listed l) → T (leb l.ready 1 && leb l.hold 1 && true)
unfolding levels_listed
lowered l t = search (and_both, and_left)

-- an acknowledge is next, of the number that INT had
acknowledge_well : (m : Machine) (a : Acknowledge) → is_none a ≡ false → T (fixed_of m.regs.f) → T (levels_listed m.lines)
    → m.lines.int < 8 → Well (acknowledge_of a m)
unfolding acknowledge_of kept_for levels_listed there_of idle_of cycles_done bytes_of zero_or_read cycling
acknowledge_well m a e f l i =
    well_of_lem (acknowledge_of a m)
    record {
      ready =
          record {
            fixed = f;
            listed = lowered m.lines l;
            defined = tt;
            named =
                rw e (and_both (leb m.lines.int 7) true (le→leb m.lines.int 7 (omega arith)) tt);
            bytes = tt;
          };
      there = tt;
      awake = or_right (is_none a) true tt;
    }

-- an interrupt is taken where INT is up
taken_up : (m : Machine) → takes_of m ≡ true → m.lines.int < 8
unfolding takes_of
taken_up m e = let t = true→T (takes_of m) e in search (ltb→lt, and_left)

-- the instruction is over
ended_well : (m : Machine) → T (fixed_of m.regs.f) → T (levels_listed m.lines) → Well (ended_of m)
unfolding ended_of there_of
ended_well m f l =
    pick_both Well (takes_of m) (acknowledge_of (pick (is_hlt m) Halted Running) m) (clear_of (pick (is_hlt m) Halt Fetch) m)
    (λ (e : takes_of m ≡ true).
    let i : m.lines.int < 8 = taken_up m e in
    acknowledge_well m (pick (is_hlt m) Halted Running)
    (pick_both (λ (a : Acknowledge). is_none a ≡ false) (is_hlt m) Halted Running (λ z. refl) (λ z. refl)) f l i)
    (λ e.
    clear_well m (pick (is_hlt m) Halt Fetch) f l
    (pick_both (λ (p : Position). T (there_of 0 (cycles_of 0 m.regs.f) p)) (is_hlt m) Halt Fetch (λ z. tt) (λ z. tt)))

-- the cycle c and its holds are over; n is the cycle after it
follow_well : (c n : ℕ) (m : Machine) → 1 ≤ c → ReadyAt m c → Follows (cycles_in m) c n → Well (follow_of n m)
unfolding follow_of cycles_done idle_of cycles_of
follow_well c n m l r s =
    pick_both Well (eqb n 0) (ended_of m) (with_next (Later n 1) m) (λ e. ended_well m r.fixed r.listed)
    (λ (e : eqb n 0 ≡ false).
    let q = s e in
    let three = states_three m.kept.opcode r.defined (met_of m.kept.opcode m.regs.f) n q.1 in
    next_well m (Later n 1) (subst (ReadyAt m) (omega arith) r)
    (start_there m.kept.opcode (cycles_in m) n (omega arith) q.1 (omega arith)) tt)

-- all changes of the cycle are made
pub hold_well : (c n : ℕ) (m : Machine) → 1 ≤ c → c ≤ cycles_in m → ReadyAt m c → Follows (cycles_in m) c n
    → Well (hold_of c n m)
unfolding hold_of there_of cycles_done idle_of
hold_well c n m l o r s =
    pick_both Well (holds m) (with_next (Hold c) m) (follow_of n m)
    (λ e. next_well m (Hold c) r (one_all (cycles_in m) c l o) tt)
    (λ e. follow_well c n m l r s)

-- the byte of any flags has the right fixed bits
byte_fixed : (x : Flags) → T (fixed_of (flag_byte_of x))
unfolding fixed_of
byte_fixed x = rw ((flags_fixed x).0, (flags_fixed x).1, (flags_fixed x).2) tt

-- the flag byte g that an instruction leaves is right, and the instruction has as many cycles under it as under f
after_flags : (i : Instruction) (f g : ℕ) (met : ℕ → Bool) → T (fixed_of f) → After i f g
    → T (fixed_of g) × (length (cycles i (met g)) ≡ length (cycles i (met f)))
after_flags i f g met h (kept e) = (rw e h, ap (λ (x : ℕ). length (cycles i (met x))) e)
after_flags i f g met h (changed x e s) = (rw e (byte_fixed x), ap length (s (met g) (met f)))

-- the same of the opcode kept and its effect
effect_flags : (k : Kept) (r : Registers) → T (fixed_of r.f)
    → T (fixed_of (effect_of k r).f) × (cycles_of k.opcode (effect_of k r).f ≡ cycles_of k.opcode r.f)
unfolding effect_of cycles_of count_of
effect_flags k r h =
    after_flags (decode k.opcode) r.f (effect_of k r).f (met_of k.opcode) h
    (after_is (decode k.opcode) (met_of k.opcode r.f) k r)

-- the last state of the cycle c
pub end_well : (c n : ℕ) (m : Machine) → 1 ≤ c → c ≤ cycles_in m → ReadyAt m c → Follows (cycles_in m) c n
    → Well (end_of c n m)
unfolding end_of with_regs
end_well c n m l o r s =
    let new = pick (eqb n 0) (effect_of m.kept m.regs) m.regs in
    let q : T (fixed_of new.f) × (cycles_of m.kept.opcode new.f ≡ cycles_in m) =
    pick_both
    (λ (x : Registers). T (fixed_of x.f) × (cycles_of m.kept.opcode x.f ≡ cycles_in m))
    (eqb n 0) (effect_of m.kept m.regs) m.regs
    (λ e. effect_flags m.kept m.regs r.fixed)
    (λ e. (r.fixed, refl)) in
    hold_well c n (with_regs new m) l (rw q.1 o)
    record { fixed = q.0; listed = r.listed; defined = r.defined; named = r.named; bytes = r.bytes }
    (rw q.1 s)
