-- What the tests of a schedule say of its events: each has a line and a value of the list, and their numbers never fall.
-- Assumes nothing.
use Prim.Native.Nat.{ℕ, zero, suc, ◌+◌, ◌-◌, ◌/◌, ◌%◌, ◌≤◌, ◌<◌}
use mathlib.Core.Path.{◌≡◌, refl}
use mathlib.Core.Bool.{Bool, true, false, ◌&&◌, false≢true}
use mathlib.Core.List.{List}
use mathlib.Core.Logic.{⊎_elim}
use native.Mathlib.Omega.{arith}
use native.Mathlib.Nat.{eq-or-lt_of_le, le_of_lt, le_refl, le_trans, add-zero}
use borrow.Author.Tests.{le-ltb, ne_eqb}
use lib.Dec.{eqb, leb}
use lib.ListN.{length}
use Rattle.std.specs.Prelude.{Result, Ok, Err}
use Rattle.laws.specs.Choice.{pick}
use Rattle.laws.proofs.Order.{lt_or_le}
use Rattle.schedule.specs.Events.{state_number_of, listed_at, follows_of, all, ordered_of, checked_of}
use Rattle.schedule.specs.declared.order.Fault.{Fault}
use Rattle.schedule.specs.declared.order.Fault.TheVariants.{Length, Value, Order}

both_left : (b c : Bool) → pick b c false ≡ true → b ≡ true
both_left true c e = refl
both_left false c e = e

both_right : (b c : Bool) → pick b c false ≡ true → c ≡ true
both_right true c e = e
both_right false c e = absurd (false≢true e)

-- a test that holds of a stretch of numbers holds of each
pub all_at : (test : ℕ → Bool) (n i j : ℕ) → all test n i ≡ true → i ≤ j → j < i + n → test j ≡ true
unfolding all
all_at test zero i j e h l = absurd (let no : ⊥ = omega arith in no)
all_at test (suc n) i j e h l =
    ⊎_elim (λ (q : i ≡ j). rw (← q) (both_left (test i) (all test n (i + 1)) e))
    (λ (q : i < j).
    all_at test n (i + 1) j (both_right (test i) (all test n (i + 1)) e) (omega arith) (omega arith))
    (eq-or-lt_of_le h)

good : (a b c : Bool)
    → ◌≡◌ {A = Result (Unit {0}) Fault} (pick a (pick b (pick c (Ok tt) (Err Order)) (Err Value)) (Err Length)) (Ok tt)
    → (a ≡ true) × (b ≡ true) × (c ≡ true)
good true true true e = (refl, refl, refl)
good true true false e = absurd cc
good true false c e = absurd cc
good false b c e = absurd cc

module _ (s : List ℕ) where
  -- a good schedule has passed all three tests
  pub checked_good :
      checked_of s ≡ Ok tt
      → ((eqb (length s % 6) 0 && leb (length s) 6000) ≡ true)
      × (all (listed_at s) (length s / 6) 0 ≡ true)
      × (ordered_of s (length s / 6) ≡ true)
  unfolding checked_of
  checked_good e = good _ _ _ e

  -- an event that may follow has no lower number
  follows_le : (i : ℕ) → follows_of s i ≡ true → state_number_of s i ≤ state_number_of s (i + 1)
  unfolding follows_of
  follows_le i e =
      ⊎_elim
      (λ (h : state_number_of s (i + 1) < state_number_of s i).
      absurd
      (false≢true
      (simp (le-ltb _ _ (le_of_lt h), ne_eqb (state_number_of s i) (state_number_of s (i + 1)) (λ q. omega arith)) at e)))
      (λ (h : state_number_of s i ≤ state_number_of s (i + 1)). h)
      (lt_or_le (state_number_of s (i + 1)) (state_number_of s i))

  climbs : (n i d : ℕ) → ordered_of s n ≡ true → i + d < n → state_number_of s i ≤ state_number_of s (i + d)
  unfolding ordered_of
  climbs n i zero o h = rw add-zero (le_refl _)
  climbs n i (suc d) o h =
      let a : state_number_of s i ≤ state_number_of s (i + d) = climbs n i d o (omega arith) in
      let b : state_number_of s (i + d) ≤ state_number_of s (i + d + 1) =
      follows_le (i + d) (all_at (follows_of s) (n - 1) 0 (i + d) o (omega arith) (omega arith))
      in
      let q : i + d + 1 ≡ i + suc d = omega arith in
      le_trans a (rw q at b)

  -- the numbers of events in order never fall
  pub ordered_sorted : (n : ℕ) → ordered_of s n ≡ true → (i j : ℕ) → i ≤ j → j < n → state_number_of s i ≤ state_number_of s j
  ordered_sorted n o i j h l =
      let q : i + (j - i) ≡ j = omega arith in
      rw q at (climbs n i (j - i) o (omega arith))
