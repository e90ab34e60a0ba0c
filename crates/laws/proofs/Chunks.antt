-- A list in chunks of one size: how many there are, and where the next begins. Assumes nothing.
use Prim.Native.Nat.{ℕ, zero, suc, ◌+◌, ◌*◌}
use mathlib.Core.Path.{◌≡◌, refl, ap, ◌∙◌}
use mathlib.Core.List.{List}
use native.Mathlib.Omega.{arith}
use lib.ListN.{length, drop}
use lib.Seq.{drop-drop}
use Rattle.std.specs.Simd.{first_chunks}

pub chunks_length : (n k : ℕ) (s : List ℕ) → length (first_chunks n k s) ≡ k
chunks_length n zero s = refl
chunks_length n (suc k) s = ap (λ m. suc m) (chunks_length n k (drop n s))

pub chunk_further : (n i : ℕ) (s : List ℕ) → drop n (drop (n * i) s) ≡ drop (n * (i + 1)) s
chunk_further n i s =
    let e : n * i + n ≡ n * (i + 1) = grind arith in
    drop-drop n (n * i) s ∙ ap (λ m. drop m s) e
