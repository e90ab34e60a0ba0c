-- Lists that are copied into parts of a list. Assumes nothing.
use Prim.Native.Nat.{ℕ, ◌+◌, ◌-◌, ◌≤◌}
use mathlib.Core.Path.{◌≡◌, sym, ap, ◌∙◌}
use mathlib.Core.List.{List, ◌++◌, append_assoc, append-nil}
use native.Mathlib.Omega.{arith}
use lib.ListN.{length, take, drop, length-append, length-drop, drop_of_length-le}
use lib.Seq.{take_at, drop_at, take_all}
use borrow.Rule.Slice.PartMut.{put_mid, post_of, Post-is}
use Rattle.saved.specs.Fields.{memory_in}

-- the list z with the list s in it, from the place a on
unfoldable pub put_at : List ℕ → ℕ → List ℕ → List ℕ
put_at z a s = take a z ++ (s ++ drop (a + length s) z)

-- s over the part of z that begins at a and is as long
pub put_part : (z s y : List ℕ) (a : ℕ) → y ≡ s → put_mid a (a + length s - a) z y ≡ put_at z a s
unfolding put_at
put_part z s y a e =
    ap (λ (l : List ℕ). put_mid a (a + length s - a) z l) e
    ∙ ap (λ (l : List ℕ). take a z ++ (s ++ l)) (Post-is a (a + length s) z (omega arith))

-- s goes behind p, over the k elements that stand there
behind : (p q s : List ℕ) (a k : ℕ) → length p ≡ a → put_mid a k (p ++ q) s ≡ (p ++ s) ++ drop k q
behind p q s a k e = rw (take_at p q a e, drop_at p q a e) (sym (append_assoc p s (drop k q)))

-- three lists one behind the other fill z
pub written : (h o x z : List ℕ) (n : ℕ) → length h ≡ 24 → length o ≡ 256 → length z - 280 ≤ n
    → put_mid 280 n (put_mid 24 256 (h ++ post_of 0 24 z) o) x ≡ h ++ o ++ x
written h o x z n e f g =
    ap (λ (l : List ℕ). put_mid 280 n l x) (behind h (drop 24 z) o 24 256 e)
    ∙ behind (h ++ o) (drop 256 (drop 24 z)) x 280 n (simp length-append (omega arith))
    ∙ rw (drop_of_length-le (drop 256 (drop 24 z)) {i = n} (simp length-drop (omega arith)), append-nil)

-- memory is the rest of a form s
pub memory_part : (s : List ℕ) → length s ≡ 65816 → take 65536 (drop 280 s) ≡ memory_in s
memory_part s e = take_all 65536 (drop 280 s) (simp length-drop (omega arith))
