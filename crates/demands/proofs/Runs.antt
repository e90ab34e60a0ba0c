-- A run from where a leg begins is legs, one after the other, and then a part of one. Assumes nothing.
use Prim.Native.Nat.{ℕ, zero, suc, ◌+◌, ◌≤◌}
use mathlib.Core.Path.{◌≡◌, refl, sym, ap, ◌∙◌, subst}
use mathlib.Core.Bool.{true, false, true≢false}
use mathlib.Core.Logic.{◌⊎◌, inl, inr, ⊎_elim}
use native.Mathlib.Omega.{arith}
use Rattle.machine.specs.declared.record.Position.TheVariants.{Fetch}
use Rattle.machine.specs.Record.{stopped_of}
use Rattle.demands.specs.Outside.{Outside, Moment}
use Rattle.demands.proofs.Work.{Work, here, work_of}
use Rattle.demands.specs.Board.{Board, moment_of}
use Rattle.demands.specs.Own.{own}
use Rattle.demands.specs.Begins.{begins}
use Rattle.demands.specs.Legs.{Tally, tally, plus, states_in}
use Rattle.demands.specs.Legs.{Leg, Trip, stay, go}
use Rattle.demands.proofs.Steps.{step, run}
use Rattle.demands.proofs.Phases.{Early, Late, second, waiting, third, fourth, fifth, holding}
use Rattle.demands.proofs.Going.{Going, begin, reading, read, first, early, late}
use Rattle.demands.proofs.Journeys.{Now, going, resting, held, Ran, Stopped, now_begin, now_step}

-- inside a leg: no leg begins, and the machine has not stopped
abbrev pub Within : Board → Type 0
Within b = (begins b.machine.next ≡ false) × (stopped_of b.machine.next ≡ false)

module _ (E : Outside) where
  early_within : (d : Work) (c code : ℕ) (t : Moment) {b : Board} {i o : ℕ} → Early E d c code t b i o → Within b
  unfolding stopped_of
  early_within d c code t second = (refl, refl)
  early_within d c code t (waiting j i n w h) = (refl, refl)
  early_within d c code t (third w i n h) = (refl, refl)

  late_within : (u : Work) (c code s : ℕ) (t : Moment) {b : Board} {i o : ℕ} → Late E u c code s t b i o → Within b
  unfolding stopped_of
  late_within u c code s t (fourth w i n h q) = (refl, refl)
  late_within u c code s t (fifth w i n h q) = (refl, refl)
  late_within u c code s t (holding w j i z n h q) = (refl, refl)

  going_within : (d : Work) (t : Moment) {b : Board} {i o : ℕ} → Going E d t b i o
      → ((i ≡ 0) × (o ≡ 0) × (b ≡ here d Fetch t)) ⊎ Within b
  unfolding stopped_of
  going_within d t begin = inl (refl, refl, refl)
  going_within d t (reading e) = inr (early_within d 0 _ t e)
  going_within d t (read x l) = inr (late_within _ 0 _ _ t l)
  going_within d t (first c d' t' i o x y l s) = inr (refl, refl)
  going_within d t (early c d' t' i₀ o₀ x y l s i₁ o₁ i o p q e) = inr (early_within d' (suc c) y t' e)
  going_within d t (late c d' t' i₀ o₀ x y l s i₁ o₁ i o p q e) = inr (late_within _ (suc c) y _ t' e)

  -- the leg has just begun, or it is under way
  pub now_within : (b₀ : Board) {b : Board} {i o : ℕ} → Now E b₀ b i o
      → ((i ≡ 0) × (o ≡ 0) × (b ≡ b₀) × (stopped_of b.machine.next ≡ false)) ⊎ Within b
  unfolding stopped_of
  now_within b₀ (going s e g) =
      ⊎_elim
      (λ x.
      inl (
        x.0,
        x.1,
        x.2 ∙ ap (λ p. here (work_of b₀) p (moment_of b₀)) (sym e),
        ap (λ (z : Board). stopped_of z.machine.next) x.2,
      ))
      (λ x. inr x)
      (going_within (work_of b₀) (moment_of b₀) g)
  now_within b₀ (resting e) = inl (refl, refl, ap (λ p. here (work_of b₀) p (moment_of b₀)) (sym e), refl)
  now_within b₀ (held j i e n t) = inr (refl, refl)

  pub now_awake : (b₀ : Board) {b : Board} {i o : ℕ} → Now E b₀ b i o → stopped_of b.machine.next ≡ false
  now_awake b₀ x = ⊎_elim (λ y. y.3) (λ y. y.1) (now_within b₀ x)

  -- how n states from the board b₀ end on the board b
  pub data Ends : Board → ℕ → Board → Type 0 where
    inside : {b₀ b : Board} {i o : ℕ} → Now E b₀ b i o → Ends b₀ i b
    stopped : {b₀ b : Board} (i o n : ℕ) → i ≤ n → Stopped E b₀ b i o → Ends b₀ n b
    leg : {b₀ b₁ b : Board} {n : ℕ} (q : Tally) → Leg E b₀ q b₁ → Ends b₁ n b → Ends b₀ (states_in q + n) b

  -- one state, and a stop
  pub run_on : (n : ℕ) (b : Board) → stopped_of b.machine.next ≡ false → run E (suc n) b ≡ run E n (step E b)
  unfolding run
  run_on n b f = rw f

  pub run_off : (n : ℕ) (b : Board) → stopped_of b.machine.next ≡ true → run E n b ≡ b
  unfolding run
  run_off zero b f = refl
  run_off (suc n) b f = rw f

  pub at_stop : (b₀ : Board) {b : Board} {i o : ℕ} → Stopped E b₀ b i o → stopped_of b.machine.next ≡ true
  unfolding stopped_of
  at_stop b₀ z = ap (λ (x : Board). stopped_of x.machine.next) z.stops.board

  moved : {b₀ b b' : Board} {n n' : ℕ} → n ≡ n' → b ≡ b' → Ends b₀ n' b' → Ends b₀ n b
  moved {b₀} {b} {b'} {n} {n'} p q x = subst (λ (z : ℕ). Ends b₀ z b) (sym p) (subst (λ (z : Board). Ends b₀ n' z) (sym q) x)

  -- n states more
  pub run_ends : (n : ℕ) (b₀ b : Board) (i o : ℕ) → Now E b₀ b i o → Ends b₀ (i + n) (run E n b)
  unfolding run
  run_ends zero b₀ b i o x = moved (let z : i + 0 ≡ i = omega arith in z) refl (inside x)
  run_ends (suc n) b₀ b i o x =
      moved (let z : i + suc n ≡ suc i + n = omega arith in z) (run_on n b (now_awake b₀ x))
      (⊎_elim (λ y. run_ends n b₀ (step E b) (suc i) (own b.machine.next + o) y)
      (⊎_elim
      (λ (y : Ran E b₀ (step E b) (suc i) (own b.machine.next + o)).
      moved (let z : suc i + n ≡ states_in y.tallied + (0 + n) = omega (arith, y.count) in z) refl
      (leg y.tallied y.leg (run_ends n (step E b) (step E b) 0 0 (now_begin E (step E b) y.start))))
      (λ (y : Stopped E b₀ (step E b) (suc i) (own b.machine.next + o)).
      moved refl (run_off n (step E b) (at_stop b₀ y))
      (stopped (suc i) (own b.machine.next + o) (suc i + n) (omega arith) y)))
      (now_step E b₀ x))

  -- where a leg begins, the states are those of the legs before it
  pub ends_trip : (b₀ b : Board) (n : ℕ) → Ends b₀ n b → begins b.machine.next ≡ true
      → (q : Tally) × Trip E b₀ q b × (n ≡ states_in q)
  unfolding stopped_of
  ends_trip b₀ b n (inside x) f =
      ⊎_elim (λ y. (tally 0 0 0 0, subst (Trip E b₀ (tally 0 0 0 0)) (sym y.2) stay, y.0))
      (λ y. absurd (true≢false (sym f ∙ y.0)))
      (now_within b₀ x)
  ends_trip b₀ b n (stopped i o m l z) f =
      absurd (true≢false (sym f ∙ ap (λ (x : Board). begins x.machine.next) z.stops.board))
  ends_trip b₀ b n (leg {b₁ = b₁} {n = m} q l x) f =
      let (p, trip, e) = ends_trip b₁ b m x f in (plus q p, go l trip, omega arith)
