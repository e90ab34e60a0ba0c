-- What is kept stays right when a cycle has read, or has nothing to read.
-- Assumes nothing.
use Rattle.std.proofs.Common.{◌≡◌, ℕ, ◌-◌, ◌≤◌, false, ◌||◌, T, eqb, leb, ⊎_elim, arith, le→leb, ne_eqb}
use Rattle.laws.proofs.Every.{and_left, and_right}
use Rattle.laws.proofs.Tests.{and_both, or_left, or_right, or_either}
use Rattle.opcodes.specs.Cycles.{code_of, defined_of}
use Rattle.opcodes.specs.Kinds.{reads_of, is_none}
use Rattle.effect.specs.declared.kept.Kept.{Kept}
use Rattle.effect.specs.Kept.{keep_of}
use Rattle.machine.specs.declared.record.Lines.{Lines}
use Rattle.machine.specs.Request.{restart_of}
use Rattle.machine.proofs.Parts.{name_of, Ready}
use Rattle.machine.proofs.Bytes.{read_more, read_took, zero_read, bytes_each, bytes_all}

-- the acknowledge named stays right once a cycle has read
named_more : (k : Kept) (d e : ℕ) → 1 ≤ d → 1 ≤ e → T (name_of k d) → T (name_of k e)
named_more k d e l j t =
    rw (ne_eqb e 0 (λ q. omega arith)) (rw (ne_eqb d 0 (λ q. omega arith)) at t)

-- cycle c, which is not the first, reads nothing
pub ready_more : (f : ℕ) (l : Lines) (k : Kept) (c : ℕ) → 2 ≤ c → Ready f l k (c - 1) → Ready f l k c
ready_more f l k c h r =
    let b = bytes_each k (c - 1) r.bytes in
    record {
      fixed = r.fixed;
      listed = r.listed;
      defined = r.defined;
      named = named_more k (c - 1) c (omega arith) (omega arith) r.named;
      bytes =
          bytes_all k c (
            or_right (eqb k.opcode 0) (leb 1 c) (le→leb 1 c (omega arith)),
            read_more k.opcode (c - 1) c 2 k.b1 (omega arith) b.1,
            read_more k.opcode (c - 1) c 3 k.b2 (omega arith) b.2,
            read_more k.opcode (c - 1) c 4 k.b3 (omega arith) b.3,
            read_more k.opcode (c - 1) c 5 k.b4 (omega arith) b.4,
          );
    }

-- cycle c, which is not the first, reads v
module _ (f : ℕ) (l : Lines) (k : Kept) (c v : ℕ) (h : 2 ≤ c) where
  later : eqb c 1 ≡ false
  later = ne_eqb c 1 (λ q. omega arith)

  pub ready_took : T (reads_of (code_of k.opcode c)) → Ready f l k (c - 1) → Ready f l (keep_of c v k) c
  unfolding keep_of restart_of
  ready_took o r =
      let b = bytes_each k (c - 1) r.bytes in
      record {
        fixed = r.fixed;
        listed = r.listed;
        defined = rw later r.defined;
        named = rw later (named_more k (c - 1) c (omega arith) (omega arith) r.named);
        bytes =
            bytes_all (keep_of c v k) c (
              or_right (eqb (keep_of c v k).opcode 0) (leb 1 c) (le→leb 1 c (omega arith)),
              rw later (read_took k.opcode (c - 1) c v 2 k.b1 (omega arith) o b.1),
              rw later (read_took k.opcode (c - 1) c v 3 k.b2 (omega arith) o b.2),
              rw later (read_took k.opcode (c - 1) c v 4 k.b3 (omega arith) o b.3),
              rw later (read_took k.opcode (c - 1) c v 5 k.b4 (omega arith) o b.4),
            );
      }

-- of an acknowledge named, the opcode v is the RST of the number taken
abbrev pub Names : ℕ → Kept → Type 0
Names v k = T (is_none k.ack || eqb v (restart_of k))

-- the acknowledge named is right with that opcode
named_first : (k : Kept) (v e : ℕ) → Names v k → T (name_of k 0) → T (name_of (keep_of 1 v k) e)
unfolding keep_of restart_of
named_first k v e a t =
    ⊎_elim (λ (z : T (is_none k.ack)). search (and_both, or_left, and_left, and_right))
    (λ (z : T (eqb v (restart_of k))). search (and_both, or_right, and_left, and_right))
    (or_either (is_none k.ack) (eqb v (restart_of k)) a)

-- the first cycle has read the opcode v, and no later one has read
pub ready_first : (f : ℕ) (l : Lines) (k : Kept) (v e : ℕ) → 1 ≤ e → T (defined_of v) → Names v k → Ready f l k 0
    → Ready f l (keep_of 1 v k) e
unfolding keep_of
ready_first f l k v e h d a r =
    let b = bytes_each k 0 r.bytes in
    record {
      fixed = r.fixed;
      listed = r.listed;
      defined = d;
      named = named_first k v e a r.named;
      bytes =
          bytes_all (keep_of 1 v k) e (
            or_right (eqb v 0) (leb 1 e) (le→leb 1 e h),
            zero_read k.opcode v 2 e k.b1 (omega arith) b.1,
            zero_read k.opcode v 3 e k.b2 (omega arith) b.2,
            zero_read k.opcode v 4 e k.b3 (omega arith) b.3,
            zero_read k.opcode v 5 e k.b4 (omega arith) b.4,
          );
    }
