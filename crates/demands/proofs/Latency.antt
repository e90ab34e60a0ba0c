-- INT that is up with interrupts enabled, and is not lowered, is taken when the leg under way ends. Assumes nothing.
use Prim.Native.Nat.{ℕ, zero, suc, ◌+◌, ◌≤◌, ◌<◌}
use mathlib.Core.Path.{◌≡◌, refl, sym, ap, ap₂, ◌∙◌, subst}
use mathlib.Core.Bool.{true, false, false≢true}
use mathlib.Core.Logic.{⊎_elim}
use native.Mathlib.Omega.{arith}
use Rattle.machine.specs.declared.record.Position.{Position}
use Rattle.machine.specs.declared.record.Position.TheVariants.{Fetch, Later, Wait, Hold, Halt, Stop}
use Rattle.machine.specs.Record.{stopped_of}
use Rattle.demands.specs.Begins.{Acknowledges}
use Rattle.demands.specs.Outside.{Outside, Moment, did}
use Rattle.demands.specs.Board.{Board, moment_of}
use Rattle.demands.specs.Own.{own}
use Rattle.demands.specs.Bound.{sum_below, Neither, under_way}
use Rattle.demands.proofs.Steps.{step, run}
use Rattle.demands.proofs.Journeys.{Now, Ran, Stopped, now_step}
use Rattle.demands.proofs.Runs.{now_awake, run_on, run_off, at_stop}
use Rattle.demands.proofs.Facts.{now_facts}

-- sums of equal numbers, and of none
pub sum_same : (f g : ℕ → ℕ) (k : ℕ) → ((j : ℕ) → j < k → f j ≡ g j) → sum_below f k ≡ sum_below g k
sum_same f g zero e = refl
sum_same f g (suc k) e =
    ap₂ (λ a b. a + b) (e 0 (omega arith))
    (sum_same (λ j. f (suc j)) (λ j. g (suc j)) k (λ j l. e (suc j) (omega arith)))

pub sum_none : (f : ℕ → ℕ) (k : ℕ) → ((j : ℕ) → f j ≡ 0) → sum_below f k ≡ 0
sum_none f zero e = refl
sum_none f (suc k) e = let a = e 0 in let b = sum_none (λ j. f (suc j)) k (λ j. e (suc j)) in omega arith

-- at a stop no state is done
stop_own : (p : Position) → stopped_of p ≡ true → own p ≡ 0
unfolding stopped_of
stop_own Fetch e = absurd (false≢true e)
stop_own (Later c s) e = absurd (false≢true e)
stop_own (Wait c) e = absurd (false≢true e)
stop_own (Hold c) e = absurd (false≢true e)
stop_own Halt e = absurd (false≢true e)
stop_own Stop e = refl

-- a sum ends where nothing is left to add
over : (k : ℕ) (f : ℕ → ℕ) (x o s : ℕ) → s ≡ x + sum_below f k → x + o ≤ 18 → (0 < k → ⊥) → o + s ≤ 18
over zero f x o s e l z = omega arith
over (suc k) f x o s e l z = absurd (z (omega arith))

module _ (E : Outside) where
  -- the states of the run from b, but for waits and holds
  abbrev pub own_from : Board → ℕ → ℕ
  own_from b k = sum_below (λ j. own (run E j b).machine.next) k

  own_first : (b : Board) (k : ℕ) → stopped_of b.machine.next ≡ false
      → own_from b (suc k) ≡ own b.machine.next + own_from (step E b) k
  unfolding run
  own_first b k f =
      ap (λ (x : ℕ). own b.machine.next + x)
      (sum_same (λ j. own (run E (suc j) b).machine.next) (λ j. own (run E j (step E b)).machine.next) k
      (λ j l. ap (λ (x : Board). own x.machine.next) (run_on E j b f)))

  -- none is done at a stop
  pub own_stopped : (b : Board) (k : ℕ) → stopped_of b.machine.next ≡ true → own_from b k ≡ 0
  own_stopped b k f =
      sum_none (λ j. own (run E j b).machine.next) k
      (λ j. ap (λ (x : Board). own x.machine.next) (run_off E j b f) ∙ stop_own b.machine.next f)

  module _ (b₀ : Board) (n : Neither (under_way b₀)) (on : b₀.machine.regs.inte ≡ true) where
    -- one state on, inside the leg
    next_moment : {b : Board} {i o o' : ℕ} (b' : Board) → Now E b₀ b i o → Now E b₀ b' (suc i) o' → moment_of b' ≡ did E (moment_of b)
    next_moment b' x y = (now_facts E b₀ n y).moment ∙ ap (did E) (sym (now_facts E b₀ n x).moment)

    pub soon : (k i o : ℕ) (b : Board) → Now E b₀ b i o
        → (0 < k → E.int b.machine.clock b.machine.lines.int < 8)
        → ((u v : ℕ) → b.machine.clock < u → u < b.machine.clock + k → v < 8 → E.int u v < 8)
        → ((j : ℕ) → 0 < j → j < k → Acknowledges (run E j b).machine → ⊥)
        → o + own_from b k ≤ 18
    unfolding run
    soon zero i o b x up kept not = omega (arith, (now_facts E b₀ n x).few)
    soon (suc k) i o b x up kept not =
        let w = own_first b k (now_awake E b₀ x) in
        let now : E.int b.machine.clock b.machine.lines.int < 8 = up (omega arith) in
        ⊎_elim
        (λ (y : Now E b₀ (step E b) (suc i) (own b.machine.next + o)).
        let m = next_moment (step E b) x y in
        let c : (step E b).machine.clock ≡ b.machine.clock + 1 = ap (λ (t : Moment). t.clock) m in
        let l : (step E b).machine.lines.int < 8 = subst (λ (t : Moment). t.lines.int < 8) (sym m) now in
        let r =
        soon k (suc i) (own b.machine.next + o) (step E b) y
        (λ p. kept (step E b).machine.clock (step E b).machine.lines.int (omega arith) (omega arith) l)
        (λ u v p q. kept u v (omega arith) (omega arith))
        (λ j p q a.
        not (suc j) (omega arith) (omega arith)
        (subst (λ (z : Board). Acknowledges z.machine) (sym (run_on E j b (now_awake E b₀ x))) a)) in
        omega arith)
        (⊎_elim
        (λ (y : Ran E b₀ (step E b) (suc i) (own b.machine.next + o)).
        over k (λ j. own (run E j (step E b)).machine.next) (own b.machine.next) o (own_from b (suc k)) w y.few
        (λ p.
        not 1 (omega arith) (omega arith)
        (subst (λ (z : Board). Acknowledges z.machine) (sym (run_on E 0 b (now_awake E b₀ x)))
        (y.takes n on
        (subst (λ (t : Moment). E.int t.clock t.lines.int < 8) (now_facts E b₀ n x).moment now)))))
        (λ (y : Stopped E b₀ (step E b) (suc i) (own b.machine.next + o)).
        let z = own_stopped (step E b) k (at_stop E b₀ y) in
        omega (arith, y.stops.owned)))
        (now_step E b₀ x)
