-- Which positions exist for an opcode: the test of a later state taken apart and put together, and the cycle after one.
-- Assumes nothing.
use Rattle.std.proofs.Common.{◌≡◌, ℕ, suc, ◌+◌, ◌≤◌, Bool, true, false, not, ◌&&◌, T, eqb, leb, true≢false, arith, le→leb, leb→le, ne_eqb, leb-false}
use Rattle.laws.proofs.Every.{and_left, and_right}
use Rattle.laws.proofs.Tests.{and_both, pick_both}
use Rattle.opcodes.specs.Cycles.{code_of}
use Rattle.opcodes.specs.Kinds.{states_of}
use Rattle.machine.specs.declared.record.Position.TheVariants.{Later}
use Rattle.machine.specs.Cycle.{after_of}
use Rattle.machine.specs.Well.{one_of, is_state, there_of}

-- cycle c is one of n
pub one_all : (n c : ℕ) → 1 ≤ c → c ≤ n → T (one_of n c)
unfolding one_of
one_all n c l h = search (and_both, le→leb)

pub one_each : (n c : ℕ) → T (one_of n c) → (1 ≤ c) × (c ≤ n)
unfolding one_of
one_each n c t = search (leb→le, and_left, and_right)

-- a test with a part that fails
no_first : (a b : Bool) → b ≡ false → T (not (a && b))
no_first true b e = rw e tt
no_first false b e = tt

-- state s of cycle c exists; T1 of the first cycle is no later state
module _ (op n c s : ℕ) where
  later_there : 1 ≤ c → c ≤ n → 1 ≤ s → s ≤ states_of (code_of op c) → T (not (eqb c 1 && eqb s 1))
      → T (there_of op n (Later c s))
  unfolding there_of one_of is_state
  later_there a b d e g = search (and_both, le→leb)

  pub second_there : 1 ≤ c → c ≤ n → 2 ≤ s → s ≤ states_of (code_of op c) → T (there_of op n (Later c s))
  second_there a b d e =
      later_there a b (omega arith) e (no_first (eqb c 1) (eqb s 1) (ne_eqb s 1 (λ q. omega arith)))

  pub later_each : T (there_of op n (Later c s)) → (1 ≤ c) × (c ≤ n) × (1 ≤ s) × (s ≤ states_of (code_of op c))
  unfolding there_of one_of is_state
  later_each t = search (leb→le, and_left, and_right)

-- T1 of a cycle after the first exists
pub start_there : (op n c : ℕ) → 2 ≤ c → c ≤ n → 1 ≤ states_of (code_of op c) → T (there_of op n (Later c 1))
start_there op n c a b d =
    later_there op n c 1 (omega arith) b (omega arith) d
    (rw (ne_eqb c 1 (λ q. omega arith)) tt)

-- m is the number of the cycle after c, of n, or 0
abbrev pub Follows : ℕ → ℕ → ℕ → Type 0
Follows n c m = eqb m 0 ≡ false → (m ≡ suc c) × (m ≤ n)

pub after_follows : (n c : ℕ) → Follows n c (after_of n c)
unfolding after_of
after_follows n c =
    pick_both (Follows n c) (leb n c) 0 (c + 1) (λ e z. absurd (true≢false z))
    (λ e z. let l = leb-false n c e in (omega arith, omega arith))
