-- Lists of bytes, put together and taken apart.
-- Assumes nothing.
use Prim.Native.Nat.{ℕ, zero, suc, ◌+◌, ◌<◌}
use mathlib.Core.List.{List, [], ◌∷◌, ◌++◌}
use native.Mathlib.Omega.{arith}
use lib.ListN.{take, drop}
use lib.Seq.{get_or-drop}
use Rattle.text.specs.Bytes.{Bytes}

pub bytes_cons : (b : ℕ) (s : List ℕ) → b < 256 → Bytes s → Bytes (b ∷ s)
bytes_cons b s p q zero = p
bytes_cons b s p q (suc j) = q j

pub bytes_both : (s u : List ℕ) → Bytes s → Bytes u → Bytes (s ++ u)
bytes_both [] u p q = q
bytes_both (b ∷ s) u p q = bytes_cons b (s ++ u) (p 0) (bytes_both s u (λ j. p (suc j)) q)

pub bytes_take : (n : ℕ) (s : List ℕ) → Bytes s → Bytes (take n s)
bytes_take zero s p = λ j. omega arith
bytes_take (suc n) [] p = p
bytes_take (suc n) (b ∷ s) p = bytes_cons b (take n s) (p 0) (bytes_take n s (λ j. p (suc j)))

pub bytes_drop : (n : ℕ) (s : List ℕ) → Bytes s → Bytes (drop n s)
bytes_drop n s p j = rw get_or-drop (p (n + j))
