-- Laws of unbroken rows, and of the moments between states. Assumes nothing.
use Prim.Native.Nat.{ℕ, zero, suc, ◌+◌, ◌<◌}
use mathlib.Core.Path.{◌≡◌, refl, sym, ap, ◌∙◌}
use mathlib.Core.Bool.{Bool, true, false, false≢true}
use mathlib.Core.Logic.{◌⊎◌, inl, inr, ⊎_elim}
use native.Mathlib.Omega.{arith}
use native.Mathlib.Nat.{eq-or-lt_of_le, le_of_suc-le-suc}
use Rattle.laws.proofs.Order.{lt_or_le}
use Rattle.demands.specs.Outside.{Outside, Moment, did, did_times, down}
use Rattle.demands.specs.Rows.{Through, Unbroken, Waits}

pub bool : (b : Bool) → (b ≡ true) ⊎ (b ≡ false)
bool true = inl refl
bool false = inr refl

-- the clock n states later
pub clock_pass : (E : Outside) (n : ℕ) (t : Moment) → (did_times E n t).clock ≡ t.clock + n
clock_pass E zero t = omega arith
clock_pass E (suc n) t = let e = clock_pass E n t in omega arith

pub pass_add : (E : Outside) (a b : ℕ) (t : Moment) → did_times E (a + b) t ≡ did_times E b (did_times E a t)
pass_add E a zero t = ap (λ (i : ℕ). did_times E i t) (let e : a + 0 ≡ a = omega arith in e)
pass_add E a (suc b) t =
    ap (λ (i : ℕ). did_times E i t) (let e : a + suc b ≡ suc (a + b) = omega arith in e) ∙ ap (did E) (pass_add E a b t)

module _ (f : ℕ → Bool) where
  -- one state more
  through_more : (t n u : ℕ) → Through f t n → u ≡ t + n → f u ≡ true → Through f t (suc n)
  through_more t n u h e p i l =
      ⊎_elim (λ (q : i ≡ n). ap f (let z : t + i ≡ u = omega arith in z) ∙ p) (λ (q : i < n). h i q)
      (eq-or-lt_of_le (le_of_suc-le-suc l))

  pub through_none : (t : ℕ) → Through f t 0
  through_none t i l = absurd (let no : ⊥ = omega arith in no)

  -- and the end of a row
  row_end : (t n u : ℕ) → Through f t n → u ≡ t + n → f u ≡ false → Unbroken f t n
  row_end t n u h e p = (h, ap f (sym e) ∙ p)

  -- in the state u after a stretch the row goes on or is over
  pub row_next : {A : Type 0} (t n u : ℕ) → Through f t n → u ≡ t + n → (f u ≡ true → Through f t (suc n) → A)
      → (f u ≡ false → Unbroken f t n → A) → A
  row_next t n u h e on off =
      ⊎_elim (λ p. on p (through_more t n u h e p)) (λ p. off p (row_end t n u h e p)) (bool (f u))

  -- a row has one length
  shorter : (t n m : ℕ) → Unbroken f t n → Unbroken f t m → n < m → ⊥
  shorter t n m a b l = false≢true (sym a.1 ∙ b.0 n l)

  pub row_one : (t n m : ℕ) → Unbroken f t n → Unbroken f t m → n ≡ m
  row_one t n m a b =
      ⊎_elim (λ (l : n < m). absurd (shorter t n m a b l))
      (λ l.
      ⊎_elim (λ (q : m < n). absurd (shorter t m n b a q)) (λ q. let e : n ≡ m = omega arith in e) (lt_or_le m n))
      (lt_or_le n m)

pub waits_one : (b : Bool) (E : Outside) (t n m : ℕ) → Waits b E t n → Waits b E t m → n ≡ m
waits_one true E t n m p q = row_one (down E) t n m p q
waits_one false E t n m p q = omega arith
