-- Digits, pair by pair: what the loops that read them go on.
-- Assumes nothing.
use Prim.Native.Nat.{ℕ, zero, suc, ◌+◌, ◌*◌, ◌/◌, ◌%◌, ◌<◌}
use mathlib.Core.Path.{◌≡◌, refl}
use mathlib.Core.Bool.{Bool, true, ◌&&◌, ◌||◌, not}
use mathlib.Core.List.{List, [], ◌∷◌, ◌++◌}
use native.Mathlib.Omega.{arith}
use native.Mathlib.Numerals.{add-one}
use lib.Dec.{T, eqb, ltb, eqb→eq, ltb→lt}
use lib.ListN.{length, get_or, take, drop, set}
use lib.Seq.{sets}
use Rattle.laws.proofs.Every.{and_left, and_right, below}
use Rattle.laws.proofs.Tests.{true→T, T→true}
use Rattle.intel_hex.specs.Digits.{is_hex, digit_value, all_hex, PairAt, byte_at, bytes_in}

-- what a hex digit counts, computed for every byte
pub value_bits : (c : ℕ) → c < 256 → is_hex c ≡ true → (c % 16 + 9 * (c / 64) ≡ digit_value c) × (c % 16 + 9 * (c / 64) < 16)
unfolding is_hex digit_value
value_bits c h e =
    let counts : ℕ → Bool = λ i. eqb (i % 16 + 9 * (i / 64)) (digit_value i) in
    let small : ℕ → Bool = λ i. ltb (i % 16 + 9 * (i / 64)) 16 in
    let both : T (counts c && small c) = rw e at (below (λ i. not (is_hex i) || (counts i && small i)) 256 tt c h) in
    (eqb→eq _ _ (and_left (counts c) (small c) both), ltb→lt _ _ (and_right (counts c) (small c) both))

-- where all are hex digits, each is
pub hex_at : (s : List ℕ) (i : ℕ) → all_hex s ≡ true → i < length s → is_hex (get_or s i 0) ≡ true
hex_at [] i e h = absurd (let no : ⊥ = omega arith in no)
hex_at (c ∷ s) zero e h = T→true (is_hex c) (and_left (is_hex c) (all_hex s) (true→T _ e))
hex_at (c ∷ s) (suc i) e h = hex_at s i (T→true (all_hex s) (and_right (is_hex c) (all_hex s) (true→T _ e))) (omega arith)

-- so any two after the colon of a line are a pair
pub pair_after : (l : List ℕ) (i : ℕ) → all_hex (drop 1 l) ≡ true → i + 2 < length l → PairAt l (i + 1)
pair_after [] i e h = absurd (let no : ⊥ = omega arith in no)
pair_after (c ∷ l) i e h =
    let next : i + 1 + 1 ≡ suc (i + 1) = omega arith in
    (omega arith, rw (add-one i) (hex_at l i e (omega arith)), rw next (hex_at l (i + 1) e (omega arith)))

-- and so each part of them
pub hex_front : (n : ℕ) (s : List ℕ) → all_hex s ≡ true → all_hex (take n s) ≡ true
hex_front zero s e = refl
hex_front (suc n) [] e = refl
hex_front (suc n) (c ∷ s) e =
    let both = true→T (all_hex (c ∷ s)) e in
    rw (T→true (is_hex c) (and_left (is_hex c) (all_hex s) both)) (hex_front n s (T→true (all_hex s) (and_right (is_hex c) (all_hex s) both)))

pub hex_rest : (s : List ℕ) (n : ℕ) → all_hex s ≡ true → all_hex (drop n s) ≡ true
hex_rest s zero e = e
hex_rest [] (suc n) e = e
hex_rest (c ∷ s) (suc n) e = hex_rest s n (T→true (all_hex s) (and_right (is_hex c) (all_hex s) (true→T _ e)))

pub hex_left : (s x t : List ℕ) → s ≡ x ++ t → all_hex s ≡ true → all_hex t ≡ true
hex_left s [] t e h = rw e at h
hex_left s (c ∷ x) t e h = hex_left (x ++ t) x t refl (T→true (all_hex (x ++ t)) (and_right (is_hex c) (all_hex (x ++ t)) (true→T _ (rw e at h))))

-- two digits are a byte; fewer are none
pub bytes_pair : (s x t : List ℕ) → s ≡ x ++ t → length x ≡ 2 → bytes_in s ≡ byte_at x 0 ∷ bytes_in t
unfolding bytes_in byte_at
bytes_pair s [] t e h = cc
bytes_pair s (c ∷ []) t e h = cc
bytes_pair s (c ∷ b ∷ []) t e h = rw e
bytes_pair s (c ∷ b ∷ a ∷ x) t e h = absurd (let no : ⊥ = omega (arith, h) in no)

pub bytes_none : (s : List ℕ) → length s < 2 → bytes_in s ≡ []
unfolding bytes_in
bytes_none [] h = refl
bytes_none (c ∷ []) h = refl
bytes_none (c ∷ b ∷ s) h = absurd (let no : ⊥ = omega arith in no)

-- a byte put, and the others after it
pub sets_more : (l : List ℕ) (i j b : ℕ) (x : List ℕ) → j ≡ i + 1 → sets (set l i b) j x ≡ sets l i (b ∷ x)
sets_more l i j b x e = rw (e, add-one i)
