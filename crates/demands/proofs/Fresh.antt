-- A well-formed record between instructions keeps nothing, so a leg begins there. Assumes nothing.
use Prim.Native.Nat.{ℕ}
use mathlib.Core.Path.{◌≡◌, refl, subst}
use mathlib.Core.Bool.{Bool, true, false, not, ◌||◌, false≢true}
use mathlib.Core.Logic.{◌⊎◌, inl, inr, ⊎_elim}
use lib.Dec.{T, eqb, eqb→eq}
use Rattle.laws.proofs.Every.{and_left, and_right}
use Rattle.opcodes.specs.Kinds.{is_none}
use Rattle.opcodes.specs.declared.cycle.Acknowledge.{Acknowledge}
use Rattle.opcodes.specs.declared.cycle.Acknowledge.TheVariants.{None, Running, Halted}
use Rattle.effect.specs.Kept.{kept_for}
use Rattle.machine.specs.declared.record.Position.{Position}
use Rattle.machine.specs.declared.record.Position.TheVariants.{Fetch, Later, Wait, Hold, Halt, Stop}
use Rattle.machine.specs.declared.record.Machine.{Machine}
use Rattle.machine.specs.Well.{cycles_done, zero_or_read, well_of}
use Rattle.machine.proofs.Parts.{ReadyAt, parts_of}
use Rattle.machine.proofs.Bytes.{bytes_each}
use Rattle.demands.specs.Board.{Board}
use Rattle.demands.specs.Begins.{begins, Beginning}
use Rattle.demands.proofs.Openings.{Start, fetching, halting}

or_first : (a : Bool) → T (a || false) → T a
or_first true t = t
or_first false t = t

none_named : (a : Acknowledge) → is_none a ≡ true → a ≡ None
none_named None e = refl
none_named Running e = absurd (false≢true e)
none_named Halted e = absurd (false≢true e)

no_number : (a : Acknowledge) (r : ℕ) → is_none a ≡ true → T (not (is_none a) || eqb r 0) → r ≡ 0
no_number a r e t = eqb→eq r 0 (subst (λ (x : Bool). T (not x || eqb r 0)) e t)

-- nothing is kept where no cycle has read and no acknowledge is named
kept_none : (m : Machine) → ReadyAt m 0 → is_none m.kept.ack ≡ true → m.kept ≡ kept_for None 0
unfolding kept_for zero_or_read
kept_none m r e =
    let k = m.kept in
    let f = bytes_each k 0 r.bytes in
    let opcode : k.opcode ≡ 0 = eqb→eq k.opcode 0 (or_first (eqb k.opcode 0) f.0) in
    let b1 : k.b1 ≡ 0 = eqb→eq k.b1 0 (or_first (eqb k.b1 0) f.1) in
    let b2 : k.b2 ≡ 0 = eqb→eq k.b2 0 (or_first (eqb k.b2 0) f.2) in
    let b3 : k.b3 ≡ 0 = eqb→eq k.b3 0 (or_first (eqb k.b3 0) f.3) in
    let b4 : k.b4 ≡ 0 = eqb→eq k.b4 0 (or_first (eqb k.b4 0) f.4) in
    let ack : k.ack ≡ None = none_named k.ack e in
    let all = r.named in
    let named : T (not (is_none k.ack) || eqb k.rst 0) = search (and_left, and_right) in
    let rst : k.rst ≡ 0 = no_number k.ack k.rst e named in
    λ i. record { opcode = opcode i; ack = ack i; rst = rst i; b1 = b1 i; b2 = b2 i; b3 = b3 i; b4 = b4 i }

place : (p : Position) → begins p ≡ true → (p ≡ Fetch) ⊎ (p ≡ Halt)
place Fetch e = inl refl
place (Later c s) e = absurd (false≢true e)
place (Wait c) e = absurd (false≢true e)
place (Hold c) e = absurd (false≢true e)
place Halt e = inr refl
place Stop e = absurd (false≢true e)

-- a leg begins
pub beginning_start : (b : Board) → T (well_of b.machine) → Beginning b.machine → Start b
unfolding cycles_done
beginning_start b w (e, n) =
    ⊎_elim
    (λ (f : b.machine.next ≡ Fetch).
    fetching f (kept_none b.machine (subst (λ p. ReadyAt b.machine (cycles_done p)) f (parts_of b.machine w).ready) n))
    (λ (f : b.machine.next ≡ Halt). halting f)
    (place b.machine.next e)
