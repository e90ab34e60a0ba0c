-- The bytes kept are right one by one: where more cycles have read, where one has just read, and where none has.
-- Assumes nothing.
use Rattle.std.proofs.Common.{◌≡◌, ℕ, ◌≤◌, true, false, ◌&&◌, ◌||◌, T, eqb, leb, subst, ⊎_elim, arith, le→leb, leb→le, eqb-true}
use Rattle.laws.specs.Choice.{pick}
use Rattle.laws.proofs.Every.{and_left, and_right}
use Rattle.laws.proofs.Tests.{and_both, or_left, or_right, or_either, pick_both}
use Rattle.opcodes.specs.Cycles.{code_of}
use Rattle.opcodes.specs.Kinds.{reads_of}
use Rattle.effect.specs.declared.kept.Kept.{Kept}
use Rattle.machine.specs.Well.{zero_or_read, bytes_of}

-- a byte that is right where d cycles have read is right where more have
pub read_more : (op d e c b : ℕ) → d ≤ e → T (zero_or_read op d c b) → T (zero_or_read op e c b)
unfolding zero_or_read
read_more op d e c b l t =
    ⊎_elim (λ (z : T (eqb b 0)). search or_left)
    (λ (z : T (leb c d && reads_of (code_of op c))).
    let o = leb→le c d (and_left (leb c d) (reads_of (code_of op c)) z) in
    let s : c ≤ e = omega arith in
    search (or_right, and_both, and_right, le→leb))
    (or_either (eqb b 0) (leb c d && reads_of (code_of op c)) t)

-- the byte i, where cycle c has read v
pub read_took : (op d c v i b : ℕ) → d ≤ c → T (reads_of (code_of op c)) → T (zero_or_read op d i b)
    → T (zero_or_read op c i (pick (eqb c i) v b))
unfolding zero_or_read
read_took op d c v i b l h t =
    pick_both (λ (x : ℕ). T (zero_or_read op c i x)) (eqb c i) v b
    (λ (e : eqb c i ≡ true).
    let q = eqb-true c i e in
    let o = subst (λ (j : ℕ). T (reads_of (code_of op j))) q h in
    let s : i ≤ c = omega arith in
    search (or_right, and_both, le→leb))
    (λ (e : eqb c i ≡ false). read_more op d c i b l t)

-- a byte of a later cycle is 0 where none has read
none_read : (op i b : ℕ) → 1 ≤ i → T (zero_or_read op 0 i b) → T (eqb b 0)
unfolding zero_or_read
none_read op i b l t =
    ⊎_elim (λ (z : T (eqb b 0)). z)
    (λ (z : T (leb i 0 && reads_of (code_of op i))).
    let o = leb→le i 0 (and_left (leb i 0) (reads_of (code_of op i)) z) in
    absurd (let no : ⊥ = omega arith in no))
    (or_either (eqb b 0) (leb i 0 && reads_of (code_of op i)) t)

-- so it is right for any opcode o and any number e of cycles that have read
pub zero_read : (op o i e b : ℕ) → 1 ≤ i → T (zero_or_read op 0 i b) → T (zero_or_read o e i b)
unfolding zero_or_read
zero_read op o i e b l t = or_left (eqb b 0) (leb i e && reads_of (code_of o i)) (none_read op i b l t)

-- the tests of the five bytes kept, where d cycles have read
abbrev pub Five : Kept → ℕ → Type 0
Five k d =
    T (eqb k.opcode 0 || leb 1 d)
    × T (zero_or_read k.opcode d 2 k.b1)
    × T (zero_or_read k.opcode d 3 k.b2)
    × T (zero_or_read k.opcode d 4 k.b3)
    × T (zero_or_read k.opcode d 5 k.b4)

-- what is kept passes these tests, and what passes them is kept right
pub bytes_each : (k : Kept) (d : ℕ) → T (bytes_of k d) → Five k d
unfolding bytes_of
bytes_each k d t = search (and_left, and_right)

pub bytes_all : (k : Kept) (d : ℕ) → Five k d → T (bytes_of k d)
unfolding bytes_of
bytes_all k d f = search and_both depth 8
