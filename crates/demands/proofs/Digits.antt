-- What the digits of an opcode stand for is the same in the manual and in the rules. Assumes nothing.
use Prim.Native.Nat.{ℕ, zero, suc, ◌+◌, ◌/◌, ◌%◌, ◌<◌}
use mathlib.Core.Path.{◌≡◌, refl}
use mathlib.Core.Bool.{Bool, not}
use mathlib.Core.List.{[], ◌∷◌}
use native.Mathlib.Omega.{arith}
use lib.Dec.{eqb}
use lib.ListN.{get_or}
use Rattle.alu.specs.Flags.{flags_of, result_of}
use Rattle.alu.specs.Sums.{sum_of, add_of, sub_of, keep_cy, inr_of, dcr_of}
use Rattle.opcodes.specs.Condition.{met_of}
use Rattle.effect.specs.declared.registers.Registers.{Registers}
use Rattle.effect.specs.Registers.{reg_of, with_reg, with_sp}
use Rattle.effect.specs.Pairs.{pair_of, with_pair, pop_pair, pair_high_of, pair_low_of}
use Rattle.demands.specs.Symbols.{register, to_register, pair, to_pair, first, second, to_both, condition}

-- what holds of 0 to 3, or of 0 to 7, holds of each number below 4, or below 8
pub four : (P : ℕ → Type 0) → P 0 → P 1 → P 2 → P 3 → (n : ℕ) → n < 4 → P n
four P a b c d zero h = a
four P a b c d (suc zero) h = b
four P a b c d (suc (suc zero)) h = c
four P a b c d (suc (suc (suc zero))) h = d
four P a b c d (suc (suc (suc (suc n)))) h = absurd (let no : ⊥ = omega arith in no)

pub eight : (P : ℕ → Type 0) → P 0 → P 1 → P 2 → P 3 → P 4 → P 5 → P 6 → P 7 → (n : ℕ) → n < 8 → P n
eight P a b c d e f g i zero h = a
eight P a b c d e f g i (suc zero) h = b
eight P a b c d e f g i (suc (suc zero)) h = c
eight P a b c d e f g i (suc (suc (suc zero))) h = d
eight P a b c d e f g i (suc (suc (suc (suc n)))) h = four (λ k. P (suc (suc (suc (suc k))))) e f g i n (omega arith)

-- the registers
pub register_is : (r : Registers) (n : ℕ) → n < 8 → register n r ≡ reg_of n r
unfolding register reg_of
register_is r n h = eight (λ k. register k r ≡ reg_of k r) refl refl refl refl refl refl refl refl n h

pub to_register_lem : (v : ℕ) (r : Registers) (n : ℕ) → n < 8 → to_register n v r ≡ with_reg n v r
unfolding to_register with_reg
to_register_lem v r n h = eight (λ k. to_register k v r ≡ with_reg k v r) refl refl refl refl refl refl refl refl n h

-- the pairs
pub pair_is : (r : Registers) (p : ℕ) → p < 4 → pair p r ≡ pair_of p r
unfolding pair pair_of
pair_is r p h = four (λ k. pair k r ≡ pair_of k r) refl refl refl refl p h

pub to_pair_lem : (v : ℕ) (r : Registers) (p : ℕ) → p < 4 → to_pair p v r ≡ with_pair p v r
unfolding to_pair with_pair
to_pair_lem v r p h = four (λ k. to_pair k v r ≡ with_pair k v r) refl refl refl refl p h

pub to_both_lem : (x y : ℕ) (r : Registers) (p : ℕ) → p < 4 → to_both p x y r ≡ with_sp r.sp (pop_pair p x y r)
unfolding to_both pop_pair
to_both_lem x y r p h = four (λ k. to_both k x y r ≡ with_sp r.sp (pop_pair k x y r)) refl refl refl refl p h

-- where a cycle looks them up by the opcode
pub register_in : (r : Registers) (op n : ℕ) → op % 8 ≡ n → reg_of op r ≡ register n r
unfolding register reg_of
register_in r op n e = rw e

pub pair_in : (r : Registers) (op p : ℕ) → op / 16 % 4 ≡ p → pair_of (op / 16) r ≡ pair p r
unfolding pair pair_of
pair_in r op p e = rw e

pub first_in : (r : Registers) (op p : ℕ) → op / 16 % 4 ≡ p → pair_high_of (op / 16) r ≡ first p r
unfolding first pair_high_of
first_in r op p e = rw e

pub second_in : (r : Registers) (op p : ℕ) → op / 16 % 4 ≡ p → pair_low_of (op / 16) r ≡ second p r
unfolding second pair_low_of
second_in r op p e = rw e

-- the byte that INR M and DCR M write
pub more_is : (v : ℕ) (cy : Bool) → (inr_of v cy).value ≡ (v + 1) % 256
unfolding inr_of keep_cy add_of result_of sum_of
more_is v cy = omega arith

pub less_is : (v : ℕ) (cy : Bool) → (dcr_of v cy).value ≡ (v + 255) % 256
unfolding dcr_of keep_cy sub_of result_of sum_of
less_is v cy = omega arith

-- a bit is 0 where it is not 1
bit_not : (n : ℕ) → n < 2 → not (eqb n 1) ≡ eqb n 0
bit_not zero h = refl
bit_not (suc zero) h = refl
bit_not (suc (suc n)) h = absurd (let no : ⊥ = omega arith in no)

-- the conditions: digit c of the opcode, and the flag byte f
met_digit : (f c : ℕ) → c < 8 → (op : ℕ) → op / 16 % 4 ≡ c / 2 → op / 8 % 2 ≡ c % 2 → condition c (flags_of f) ≡ met_of op f
unfolding condition flags_of met_of
met_digit f c h op p q =
    rw (p, q)
    (eight
    (λ k. condition k (flags_of f) ≡ eqb (get_or (f / 64 % 2 ∷ f % 2 ∷ f / 4 % 2 ∷ f / 128 % 2 ∷ []) (k / 2) 0) (k % 2))
    (bit_not (f / 64 % 2) (omega arith)) refl
    (bit_not (f % 2) (omega arith)) refl
    (bit_not (f / 4 % 2) (omega arith)) refl
    (bit_not (f / 128 % 2) (omega arith)) refl
    c h)

pub met_is : (op f : ℕ) → condition (op / 8 % 8) (flags_of f) ≡ met_of op f
met_is op f = met_digit f (op / 8 % 8) (omega arith) op (omega arith) (omega arith)
