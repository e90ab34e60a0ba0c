-- Texts that a writer writes one after the other.
-- Assumes nothing.
use Prim.Native.Nat.{ℕ, ◌+◌, ◌<◌}
use mathlib.Core.Path.{refl, sym, ap, ◌∙◌}
use mathlib.Core.List.{List, [], ◌∷◌, ◌++◌}
use lib.ListN.{length, get_or, take}
use Rattle.std.proofs.lemmas.List.{take_more}
use Rattle.text.specs.Text.{written_of}
use Rattle.text.specs.Writer.{Adds}
use Rattle.text.specs.declared.Text.{Text}
use Rattle.text.proofs.Written.{written_both}

-- nothing, a text and what is written after it, and a character and what is written after it
pub writes_none : (t : Text) → Adds [] t t
unfolding written_of
writes_none t = record { same = refl; text = refl }

pub writes_both : {x y : List ℕ} {t u v : Text} → Adds x t u → Adds y u v → Adds (x ++ y) t v
writes_both {x} {y} p q =
    record { same = q.same ∙ p.same; text = q.text ∙ ap (written_of y) p.text ∙ sym (written_both x y _) }

pub writes_more : (c : ℕ) {s : List ℕ} {t u v : Text} → Adds (c ∷ []) t u → Adds s u v → Adds (c ∷ s) t v
writes_more c p q = writes_both p q

-- a turn of the loop over the characters of s
pub writes_turn : (s : List ℕ) (i : ℕ) {t u v : Text} → i < length s → Adds (take i s) t u → Adds (get_or s i 0 ∷ []) u v → Adds (take (i + 1) s) t v
writes_turn s i h p q = rw (take_more s i 0 h) (writes_both p q)
