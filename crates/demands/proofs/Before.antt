-- An instruction that is under way has states left. Here cycles count from 0. Assumes nothing.
use Prim.Native.Nat.{ℕ, suc, ◌+◌, ◌-◌, ◌≤◌, ◌<◌}
use mathlib.Core.Path.{◌≡◌, refl, sym, ap₂, ◌∙◌, subst}
use mathlib.Core.Bool.{Bool, true, true≢false}
use mathlib.Core.List.{List, [], ◌∷◌}
use mathlib.Core.Logic.{◌⊎◌, inl, inr, ⊎_elim}
use native.Mathlib.Omega.{arith}
use lib.Dec.{T}
use Rattle.laws.proofs.Order.{lt_or_le}
use Rattle.opcodes.specs.Codes.{fetch4}
use Rattle.opcodes.specs.Cycles.{defined_of}
use Rattle.opcodes.specs.Kinds.{states_of, waits_of}
use Rattle.opcodes.specs.Totals.{total_of, shape}
use Rattle.demands.specs.Outside.{Outside, Moment, down, up}
use Rattle.demands.specs.Rows.{Through, Unbroken, Waits, Forced, one}
use Rattle.demands.proofs.Work.{Work, use_cycle}
use Rattle.demands.specs.Board.{Board}
use Rattle.demands.proofs.Stretches.{waits_one}
use Rattle.demands.proofs.Steps.{size}
use Rattle.demands.proofs.Courses.{shape_parts, later_size, course_shape, shape_some}
use Rattle.demands.proofs.Phases.{Early, Late, second, waiting, third, fourth, fifth, holding}
use Rattle.demands.proofs.Fetches.{fetch_waits}
use Rattle.demands.proofs.Overs.{first_states}
use Rattle.demands.proofs.Going.{op, cs, after_fetch, Going, begin, reading, read, first, early, late}

-- a stretch is not longer than its row
pub row_longer : (f : ℕ → Bool) (t j n : ℕ) → Through f t (suc j) → Unbroken f t n → j < n
row_longer f t j n h r =
    ⊎_elim (λ (l : j < n). l) (λ (l : n ≤ j). absurd (true≢false (sym (h n (omega arith)) ∙ r.1))) (lt_or_le j n)

module _ (E : Outside) (x : ℕ) (l : List ℕ) (t : Moment) where
  waits_as : (b : Bool) (n : ℕ) → waits_of x ≡ b → Waits (waits_of x) E (t.clock + 1) n → Waits b E (t.clock + 1) n
  waits_as b n e h = subst (λ (z : Bool). Waits z E (t.clock + 1) n) e h

  -- a cycle that is under way has states left
  early_before : (d : Work) (c code : ℕ) {b : Board} {i o w h : ℕ} → waits_of x ≡ waits_of code → 3 ≤ states_of x
      → Early E d c code t b i o → Forced E (x ∷ l) t.clock w h → i < states_of x + w + h
  early_before d c code e n second (one W H a r f) = omega arith
  early_before d c code e n (waiting j i q p th) (one W H a r f) =
      let z : j < W = row_longer (down E) (t.clock + 1) j W th (waits_as true W (e ∙ p) a) in omega arith
  early_before d c code e n (third K i q h) (one W H a r f) =
      let z : W ≡ K = waits_one (waits_of code) E (t.clock + 1) W K (waits_as (waits_of code) W e a) h in omega arith

  late_before : (u : Work) (c code s : ℕ) {b : Board} {i o w h : ℕ} → waits_of x ≡ waits_of code → states_of x ≡ s
      → Late E u c code s t b i o → Forced E (x ∷ l) t.clock w h → i < states_of x + w + h
  late_before u c code s e n (fourth K i q h k) (one W H a r f) =
      let z : W ≡ K = waits_one (waits_of code) E (t.clock + 1) W K (waits_as (waits_of code) W e a) h in
      ⊎_elim (λ y. omega arith) (λ y. omega arith) k
  late_before u c code s e n (fifth K i q h k) (one W H a r f) =
      let z : W ≡ K = waits_one (waits_of code) E (t.clock + 1) W K (waits_as (waits_of code) W e a) h in omega arith
  late_before u c code s e n (holding K j i k q h th) (one W H a r f) =
      let z : W ≡ K = waits_one (waits_of code) E (t.clock + 1) W K (waits_as (waits_of code) W e a) h in
      let p : t.clock + (states_of x + W - 1) ≡ t.clock + (s + K - 1) = ap₂ (λ y v. t.clock + (y + v - 1)) n z in
      let y : j < H =
      row_longer (up E) (t.clock + (s + K - 1)) j H th (subst (λ (v : ℕ). Unbroken (up E) v H) p r) in
      omega arith

module _ (E : Outside) (d₀ : Work) (t₀ : Moment) (d : defined_of (op E d₀) ≡ true) where
  first_before : (l : List ℕ) {b : Board} {i o w h : ℕ} → cs E d₀ ≡ l → T (shape l)
      → Early E d₀ 0 fetch4 t₀ b i o ⊎ Late E (after_fetch E d₀) 0 fetch4 (size 0 (op E d₀)) t₀ b i o
      → Forced E l t₀.clock w h → i < total_of l + w + h
  first_before [] e s v f = absurd s
  first_before (x ∷ l) e s (inl v) f =
      let p = shape_parts x l s in
      let three : 3 ≤ states_of x = ⊎_elim (λ z. omega arith) (λ z. omega arith) p.first in
      let q = early_before E x l t₀ d₀ 0 fetch4 (fetch_waits x p.fetches p.first) three v f in omega arith
  first_before (x ∷ l) e s (inr v) f =
      let p = shape_parts x l s in
      let n = first_states E d₀ x l d e in
      let q =
      late_before E x l t₀ (after_fetch E d₀) 0 fetch4 (size 0 (op E d₀)) (fetch_waits x p.fetches p.first) n v f in
      omega arith

  pub going_before : {b : Board} {i o w h : ℕ} → Going E d₀ t₀ b i o → Forced E (cs E d₀) t₀.clock w h → i < total_of (cs E d₀) + w + h
  going_before begin f = let z = shape_some (cs E d₀) (course_shape (op E d₀) d₀.regs.f d) in omega arith
  going_before (reading v) f = first_before (cs E d₀) refl (course_shape (op E d₀) d₀.regs.f d) (inl v) f
  going_before (read z v) f = first_before (cs E d₀) refl (course_shape (op E d₀) d₀.regs.f d) (inr v) f
  going_before {w = w} {h = h} (first c d' t i o x y l s) f =
      let r = s.apart w h f in
      let three : 3 ≤ states_of y = ⊎_elim (λ z. omega arith) (λ z. omega arith) (later_size y l s.later) in
      omega (arith, s.count, s.owned, r.all_waits, r.all_holds)
  going_before {w = w} {h = h} (early c d' t i₀ o₀ x y l s i₁ o₁ i o p q v) f =
      let r = s.apart w h f in
      let three : 3 ≤ states_of y = ⊎_elim (λ z. omega arith) (λ z. omega arith) (later_size y l s.later) in
      let n = early_before E y l t d' (suc c) y refl three v r.forced in
      omega (arith, s.count, s.owned, r.all_waits, r.all_holds)
  going_before {w = w} {h = h} (late c d' t i₀ o₀ x y l s i₁ o₁ i o p q v) f =
      let r = s.apart w h f in
      let n = late_before E y l t (use_cycle E y (suc c) d') (suc c) y (states_of y) refl refl v r.forced in
      omega (arith, s.count, s.owned, r.all_waits, r.all_holds)
