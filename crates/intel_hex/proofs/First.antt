-- The first line of a text, by its length, and the lines of the rest.
-- Assumes nothing.
use Prim.Native.Nat.{ℕ, suc, ◌+◌, ◌-◌, ◌≤◌, ◌<◌}
use mathlib.Core.Path.{◌≡◌, refl, ap, ◌∙◌}
use mathlib.Core.Bool.{Bool, true, false}
use mathlib.Core.List.{List, [], ◌∷◌}
use native.Mathlib.Omega.{arith}
use lib.Dec.{eqb}
use lib.ListN.{length, take, drop, length-drop}
use lib.Seq.{drop-drop}
use Rattle.laws.specs.Choice.{pick}
use Rattle.laws.proofs.Tests.{pick_both}
use Rattle.text.specs.Text.{feed}
use Rattle.intel_hex.specs.Lines.{in_front, text_lines}

-- the length of the first line, with its ending
unfoldable pub first_length : List ℕ → ℕ
first_length [] = 0
first_length (c ∷ text) = pick (eqb c feed) 1 (suc (first_length text))

-- the first line is not empty, and lies in the text
pub first_some : (t : List ℕ) → 0 < length t → 0 < first_length t
unfolding first_length
first_some [] h = absurd (let no : ⊥ = omega arith in no)
first_some (c ∷ t) h = pick_both (λ k. 0 < k) (eqb c 10) 1 (suc (first_length t)) (λ e. omega arith) (λ e. omega arith)

pub first_within : (t : List ℕ) → first_length t ≤ length t
unfolding first_length
first_within [] = omega arith
first_within (c ∷ t) =
    pick_both (λ k. k ≤ suc (length t)) (eqb c 10) 1 (suc (first_length t)) (λ e. omega arith) (λ e. omega (arith, first_within t))

-- the lines of a text are its first line and those of the rest
by_test : (c : ℕ) (t : List ℕ) (b : Bool)
    → in_front c (text_lines t) ≡ (c ∷ take (first_length t) t) ∷ text_lines (drop (first_length t) t)
    → pick b ((c ∷ []) ∷ text_lines t) (in_front c (text_lines t))
    ≡ take (pick b 1 (suc (first_length t))) (c ∷ t) ∷ text_lines (drop (pick b 1 (suc (first_length t))) (c ∷ t))
by_test c t true h = refl
by_test c t false h = h

pub lines_first : (t : List ℕ) → 0 < length t → text_lines t ≡ take (first_length t) t ∷ text_lines (drop (first_length t) t)
unfolding text_lines first_length
lines_first [] h = absurd (let no : ⊥ = omega arith in no)
lines_first (c ∷ []) h = by_test c [] (eqb c 10) refl
lines_first (c ∷ b ∷ t) h = by_test c (b ∷ t) (eqb c 10) (ap (in_front c) (lines_first (b ∷ t) (omega arith)))

-- the line from a place on, which ends at another
module _ (t : List ℕ) (at end : ℕ) (h : at < length t) (e : end ≡ at + first_length (drop at t)) where
  pub line_on : at < end
  line_on = omega (arith, e, first_some (drop at t) (rw length-drop (omega arith)))

  pub line_in : end ≤ length t
  line_in = omega (arith, e, first_within (drop at t), length-drop at t)

  -- so what is left behind it is less
  pub line_less : length t - end < length t - at
  line_less = omega (arith, line_on, line_in)

  pub line_at : text_lines (drop at t) ≡ take (end - at) (drop at t) ∷ text_lines (drop end t)
  line_at =
      let size : end - at ≡ first_length (drop at t) = omega (arith, e) in
      lines_first (drop at t) (rw length-drop (omega arith)) ∙ rw (size, drop-drop, ← e)
