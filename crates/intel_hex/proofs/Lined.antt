-- The lines of a text are its first line and those of the rest, as the text is cut after each LF.
-- Assumes nothing.
use Prim.Native.Nat.{ℕ, zero, suc, ◌+◌, ◌<◌, min}
use mathlib.Core.Path.{◌≡◌, refl}
use mathlib.Core.Bool.{Bool, true, false}
use mathlib.Core.List.{List, [], ◌∷◌, ◌++◌}
use native.Mathlib.Omega.{arith}
use denote.Param.Members.{Mut}
use denote.Ref.{Bor}
use lib.Dec.{eqb}
use lib.ListN.{length, get_or}
use Rattle.std.specs.Fn.{ComputesKey, Called}
use Rattle.std.specs.List.{IsFirstMatchOrLen}
use Rattle.std.proofs.lemmas.Fn.{always_returns_same}
use Rattle.intel_hex.specs.Lines.{text_lines}

-- x goes up to the first LF of x and t, at i, or up to the end
lines_cut : (x t : List ℕ) (i : ℕ) → length x ≡ min (i + 1) (length (x ++ t)) → 0 < length (x ++ t)
    → ((k : ℕ) → k < i → eqb (get_or (x ++ t) k 0) 10 ≡ false)
    → (i < length (x ++ t) → eqb (get_or (x ++ t) i 0) 10 ≡ true)
    → text_lines (x ++ t) ≡ x ∷ text_lines t
unfolding text_lines
lines_cut [] t i n some other feed = absurd (let none : ⊥ = omega (arith, n, some) in none)
lines_cut (c ∷ []) t zero n some other feed = rw (feed (omega arith))
lines_cut (c ∷ []) [] (suc i) n some other feed = rw (other 0 (omega arith))
lines_cut (c ∷ []) (b ∷ t) (suc i) n some other feed = absurd (let none : ⊥ = omega (arith, n) in none)
lines_cut (c ∷ b ∷ x) t zero n some other feed = absurd (let none : ⊥ = omega (arith, n) in none)
lines_cut (c ∷ b ∷ x) t (suc i) n some other feed =
    rw (other 0 (omega arith), lines_cut (b ∷ x) t i (omega (arith, n)) (omega arith) (λ k l. other (suc k) (omega (arith, l))) (λ l. feed (omega (arith, l))))

-- what `split_inclusive` says of a part x, where its closure tests for an LF
pub line_first : {F : Type 0} {g : Mut F (Bor ℕ × Unit {0}) Bool} {f f' : F} {s x : List ℕ} (t : List ℕ)
    → (s ≡ x ++ t) × ((i : ℕ) × (length x ≡ min (i + 1) (length s)) × ((p : ℕ → Bool) → ComputesKey g p f → ComputesKey g p f' × IsFirstMatchOrLen p s i)) × (0 < length s)
    → ((a : Bor ℕ × Unit {0}) (r : Bool) (q : F) → Called g f a r q → (r ≡ eqb a.0.now 10) × (q ≡ f))
    → text_lines s ≡ x ∷ text_lines t
line_first {g = g} {f = f} {s = s} {x = x} t h k =
    let cut = (h.1.2 (λ c. eqb c 10) (always_returns_same g _ f k)).1 in
    let n = h.1.1 in
    rw h.0
    (lines_cut x t h.1.0 (rw h.0 at n) (rw h.0 at h.2) (λ j l. rw h.0 at (cut.0 j 0 (omega arith) l)) (λ l. rw h.0 at (cut.1 (rw h.0 l) 0)))

pub lines_none : (s : List ℕ) → length s ≡ 0 → text_lines s ≡ []
unfolding text_lines
lines_none [] h = refl
lines_none (c ∷ s) h = absurd (let none : ⊥ = omega (arith, h) in none)
