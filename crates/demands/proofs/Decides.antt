-- A test that passes exactly where a condition does not hold, and one that passes exactly where it does; and how they are put
-- together. Assumes nothing.
use Prim.Native.Nat.{ℕ, zero, suc, ◌+◌, ◌≤◌, ◌<◌}
use mathlib.Core.Path.{◌≡◌, refl, sym, subst}
use mathlib.Core.Bool.{Bool, true, false, not, ◌&&◌, ◌||◌, false≢true}
use mathlib.Core.Logic.{◌⊎◌, inl, inr, ⊎_elim}
use native.Mathlib.Omega.{arith}
use borrow.Author.Tests.{ltb-true, ltb-false, leb-true, leb-false, eqb-true, eqb-false}
use lib.Dec.{eqb, ltb, leb}
use Rattle.laws.specs.Choice.{pick}
use Rattle.schedule.specs.Events.{all}
use Rattle.schedule.proofs.Sorted.{all_at}
use Rattle.demands.specs.IllFormed.{Not}

-- the test b passes exactly where P does not hold
pub record Bars (b : Bool) (P : Type 0) : Type 0 where
  pub pass : b ≡ true → Not P
  pub fail : b ≡ false → P

-- the test b passes exactly where P holds
pub record Shows (b : Bool) (P : Type 0) : Type 0 where
  pub pass : b ≡ true → P
  pub fail : b ≡ false → Not P

pub bars_not : {b : Bool} {P : Type 0} → Shows b P → Bars b (Not P)
bars_not s = record { pass = λ e f. f (s.pass e); fail = s.fail }

-- comparisons
pub shows_eqb : (a b : ℕ) → Shows (eqb a b) (a ≡ b)
shows_eqb a b = record { pass = eqb-true a b; fail = eqb-false a b }

pub shows_ltb : (a b : ℕ) → Shows (ltb a b) (a < b)
shows_ltb a b =
    record {
      pass = ltb-true a b;
      fail = λ e l. let h = ltb-false a b e in let no : ⊥ = omega arith in no;
    }

pub shows_leb : (a b : ℕ) → Shows (leb a b) (a ≤ b)
shows_leb a b =
    record {
      pass = leb-true a b;
      fail = λ e l. let h = leb-false a b e in let no : ⊥ = omega arith in no;
    }

pub bars_leb : (a b : ℕ) → Bars (leb a b) (b < a)
bars_leb a b =
    record {
      pass = λ e l. let h = leb-true a b e in let no : ⊥ = omega arith in no;
      fail = leb-false a b;
    }

pub shows_true : (b : Bool) → Shows b (b ≡ true)
shows_true b = record { pass = λ e. e; fail = λ e f. false≢true (subst (λ (x : Bool). x ≡ true) e f) }

pub bars_true : (b : Bool) → Bars b (b ≡ false)
bars_true b = record { pass = λ e f. false≢true (subst (λ (x : Bool). x ≡ true) f e); fail = λ e. e }

-- a test that always passes, and one that never does
pub always : Shows true (Unit {0})
always = record { pass = λ e. tt; fail = λ e. absurd (false≢true (sym e)) }

pub never : Shows false ⊥
never = record { pass = λ e. false≢true e; fail = λ e x. x }

-- where the condition holds, the test passes
pub shows_sure : (b : Bool) {P : Type 0} → Shows b P → P → b ≡ true
shows_sure true d x = refl
shows_sure false d x = absurd (d.fail refl x)

-- the same condition in other words
pub shows_so : {b : Bool} {P Q : Type 0} → Shows b P → (P → Q) → (Q → P) → Shows b Q
shows_so d f g = record { pass = λ e. f (d.pass e); fail = λ e q. d.fail e (g q) }

-- a test turned round
pub shows_turned : (b : Bool) {P : Type 0} → Shows b P → Shows (not b) (Not P)
shows_turned true d = record { pass = λ e. absurd (false≢true e); fail = λ e f. f (d.pass refl) }
shows_turned false d = record { pass = λ e. d.fail refl; fail = λ e. absurd (false≢true (sym e)) }

pub bars_turned : (b : Bool) {P : Type 0} → Shows b P → Bars (not b) P
bars_turned true d = record { pass = λ e. absurd (false≢true e); fail = λ e. d.pass refl }
bars_turned false d = record { pass = λ e. d.fail refl; fail = λ e. absurd (false≢true (sym e)) }

-- two tests in one
pub bars_and : (a b : Bool) {P Q : Type 0} → Bars a P → Bars b Q → Bars (a && b) (P ⊎ Q)
bars_and true b p q =
    record { pass = λ e. ⊎_elim (p.pass refl) (q.pass e); fail = λ e. inr (q.fail e) }
bars_and false b p q =
    record { pass = λ e. absurd (false≢true e); fail = λ e. inl (p.fail refl) }

pub shows_and : (a b : Bool) {P Q : Type 0} → Shows a P → Shows b Q → Shows (a && b) (P × Q)
shows_and true b p q =
    record { pass = λ e. (p.pass refl, q.pass e); fail = λ e x. q.fail e x.1 }
shows_and false b p q =
    record { pass = λ e. absurd (false≢true e); fail = λ e x. p.fail refl x.0 }

pub bars_or : (a b : Bool) {P Q : Type 0} → Bars a P → Bars b Q → Bars (a || b) (P × Q)
bars_or true b p q = record { pass = λ e x. p.pass refl x.0; fail = λ e. absurd (false≢true (sym e)) }
bars_or false b p q = record { pass = λ e x. q.pass e x.1; fail = λ e. (p.fail refl, q.fail e) }

pub shows_or : (a b : Bool) {P Q : Type 0} → Shows a P → Shows b Q → Shows (a || b) (P ⊎ Q)
shows_or true b p q =
    record { pass = λ e. inl (p.pass refl); fail = λ e. absurd (false≢true (sym e)) }
shows_or false b p q =
    record { pass = λ e. inr (q.pass e); fail = λ e. ⊎_elim (p.fail refl) (q.fail e) }

-- a test of each of n numbers from i on fails at one of them
module _ (test : ℕ → Bool) where
  fails_step : (b : Bool) (n i : ℕ) → (b ≡ false → test i ≡ false)
      → (all test n (i + 1) ≡ false → (j : ℕ) × (i + 1 ≤ j) × (j < i + 1 + n) × (test j ≡ false))
      → pick b (all test n (i + 1)) false ≡ false → (j : ℕ) × (i ≤ j) × (j < i + suc n) × (test j ≡ false)
  fails_step true n i f g e = let x = g e in (x.0, omega (arith, x.1), omega (arith, x.2), x.3)
  fails_step false n i f g e = (i, omega arith, omega arith, f refl)

  fails_at : (n i : ℕ) → all test n i ≡ false → (j : ℕ) × (i ≤ j) × (j < i + n) × (test j ≡ false)
  unfolding all
  fails_at zero i e = absurd (false≢true (sym e))
  fails_at (suc n) i e = fails_step (test i) n i (λ x. x) (fails_at n (i + 1)) e

-- so it passes exactly where the condition holds of none
pub bars_all : (test : ℕ → Bool) (P : ℕ → Type 0) → ((i : ℕ) → Bars (test i) (P i)) → (n : ℕ)
    → Bars (all test n 0) ((i : ℕ) × (i < n) × P i)
bars_all test P d n =
    record {
      pass = λ e x. (d x.0).pass (all_at test n 0 x.0 e (omega arith) (omega (arith, x.1))) x.2;
      fail = λ e. let y = fails_at test n 0 e in (y.0, omega (arith, y.2), (d y.0).fail y.3);
    }
