-- Numbers of two and four bytes, taken apart and put together. Assumes nothing.
use Prim.Native.Nat.{ℕ, ◌+◌, ◌*◌, ◌/◌, ◌%◌, ◌<◌}
use mathlib.Core.Path.{◌≡◌}
use native.Mathlib.Omega.{arith}

pub word_back : (v : ℕ) → v % 256 + 256 * (v / 256) ≡ v
word_back v = omega arith

pub long_back : (v : ℕ)
    → v % 256 + 256 * (v / 256 % 256) + 65536 * (v / 65536 % 256) + 16777216 * (v / 16777216) ≡ v
long_back v = omega arith

-- a number that is put together from two bytes, a the low one, and from four
module _ (a b : ℕ) (e : a < 256) where
  pub word_low : (a + 256 * b) % 256 ≡ a
  word_low = omega arith

  pub word_high : (a + 256 * b) / 256 ≡ b
  word_high = omega arith

module _ (a b c d : ℕ) (e : a < 256) (f : b < 256) (g : c < 256) where
  pub long_first : (a + 256 * b + 65536 * c + 16777216 * d) % 256 ≡ a
  long_first = omega arith

  pub long_second : (a + 256 * b + 65536 * c + 16777216 * d) / 256 % 256 ≡ b
  long_second = omega arith

  pub long_third : (a + 256 * b + 65536 * c + 16777216 * d) / 65536 % 256 ≡ c
  long_third = omega arith

  pub long_last : (a + 256 * b + 65536 * c + 16777216 * d) / 16777216 ≡ d
  long_last = omega arith
