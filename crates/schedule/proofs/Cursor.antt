-- Events before the state and past it have no effect, so a cursor may leave them out. Assumes nothing.
use Prim.Native.Nat.{ℕ, zero, suc, ◌+◌, ◌-◌, ◌≤◌, ◌<◌}
use mathlib.Core.Path.{◌≡◌, refl, ◌∙◌}
use mathlib.Core.List.{List}
use native.Mathlib.Omega.{arith}
use native.Mathlib.Numerals.{add-one}
use native.Mathlib.Nat.{add-suc, add-zero}
use borrow.Author.Count.{below_more}
use borrow.Author.Tests.{ne_eqb}
use Rattle.machine.specs.declared.record.Lines.{Lines}
use Rattle.schedule.specs.Events.{state_number_of}
use Rattle.schedule.specs.Levels.{once_of, levels_at}

module _ (s : List ℕ) (t : ℕ) (l : Lines) where
  -- an event of another number leaves the levels
  event_idle : (i : ℕ) (x : Lines) → (state_number_of s i ≡ t → ⊥) → once_of s i t x ≡ x
  unfolding once_of
  event_idle i x h = simp (ne_eqb _ _ h)

  -- so do events that all lie before the state
  pub levels_before_lem : (i : ℕ) → ((j : ℕ) → j < i → state_number_of s j < t) → levels_at s i t l ≡ l
  unfolding levels_at
  levels_before_lem zero h = refl
  levels_before_lem (suc i) h =
      event_idle i (levels_at s i t l) (λ e. omega (arith, h i (omega arith), e))
      ∙ levels_before_lem i (λ j p. h j (omega arith))

  -- and events that all lie past it
  levels_past : (i d : ℕ) → ((j : ℕ) → i ≤ j → j < i + d → t < state_number_of s j) → levels_at s (i + d) t l ≡ levels_at s i t l
  unfolding levels_at
  levels_past i zero h = rw add-zero
  levels_past i (suc d) h =
      rw add-suc
      (event_idle (i + d) (levels_at s (i + d) t l) (λ e. omega (arith, h (i + d) (omega arith) (omega arith), e))
      ∙ levels_past i d (λ j p q. h j p (omega arith)))

  pub levels_rest : (i n : ℕ) → i ≤ n → ((j : ℕ) → i ≤ j → j < n → t < state_number_of s j) → levels_at s n t l ≡ levels_at s i t l
  levels_rest i n le h =
      let e : i + (n - i) ≡ n = omega arith in
      rw e at (levels_past i (n - i) (λ j p q. h j p (omega arith)))

  -- one event more
  pub levels_next : (i : ℕ) → levels_at s (i + 1) t l ≡ once_of s i t (levels_at s i t l)
  unfolding levels_at
  levels_next i = rw add-one

pub ruleset cursor = (levels_before_lem, levels_rest, levels_next, below_more)
