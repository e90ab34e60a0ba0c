-- Addition, subtraction, comparison, counting, decimal adjusting. Source: document 01, "Arithmetic points".
-- Cited by `alu::sums`.
use Rattle.std.specs.Prelude.{ℕ, ◌+◌, ◌-◌, ◌*◌, ◌%◌, Bool, false, not, ◌||◌, nat_lt}
use Rattle.alu.specs.declared.flags.Flagged.{Flagged}
use Rattle.alu.specs.Flags.{bit_of, result_of, with_cy}

-- the whole sum of the bytes a and b and the carry c
unfoldable pub sum_of : ℕ → ℕ → Bool → ℕ
sum_of a b c = a + b + bit_of c

-- the carry out of bit 3 of that sum
unfoldable pub half_carry_of : ℕ → ℕ → Bool → Bool
half_carry_of a b c = nat_lt 15 (a % 16 + b % 16 + bit_of c)

-- ADD, ADC: the sum of a, b and the carry c
unfoldable pub add_of : ℕ → ℕ → Bool → Flagged
add_of a b c = result_of (sum_of a b c % 256) (half_carry_of a b c) (nat_lt 255 (sum_of a b c))

-- SUB, SBB: "add the complement and 1 (SBB and SBI: 1 less CY): AC is the carry out of bit 3 of that sum, CY is the borrow"
unfoldable pub sub_of : ℕ → ℕ → Bool → Flagged
sub_of a b c =
    result_of (sum_of a (255 - b) (not c) % 256) (half_carry_of a (255 - b) (not c)) (nat_lt a (b + bit_of c))

-- CMP: the flags of a less b; the byte a stays
unfoldable pub cmp_of : ℕ → ℕ → Flagged
cmp_of a b = record { value = a; flags = (sub_of a b false).flags }

-- the result x with the CY from before
unfoldable pub keep_cy : Bool → Flagged → Flagged
keep_cy cy x = record { value = x.value; flags = with_cy cy x.flags }

-- "INR and DCR keep CY"
unfoldable pub inr_of : ℕ → Bool → Flagged
inr_of v cy = keep_cy cy (add_of v 1 false)

unfoldable pub dcr_of : ℕ → Bool → Flagged
dcr_of v cy = keep_cy cy (sub_of v 1 false)

-- what DAA adds for the low digit of a: "6 if the low digit exceeds 9 or AC is set"
abbrev pub daa_six : ℕ → Bool → ℕ
daa_six a ac = 6 * bit_of (nat_lt 9 (a % 16) || ac)

-- whether it adds 96 too: "if the old A exceeds hex 99 or CY was set"
abbrev pub daa_high : ℕ → Bool → Bool
daa_high a cy = nat_lt 0x99 a || cy

-- DAA: "adds 6 .., then 96 ..; CY then is set exactly in the second case, AC is the carry out of bit 3"
unfoldable pub daa_of : ℕ → Bool → Bool → Flagged
daa_of a ac cy =
    result_of (((a + daa_six a ac) % 256 + 96 * bit_of (daa_high a cy)) % 256)
    (half_carry_of a (daa_six a ac) false)
    (daa_high a cy)
