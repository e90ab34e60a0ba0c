-- Where a leg begins nothing is read, and as long as none begins the leg goes on. Assumes nothing.
use Prim.Native.Nat.{ℕ, zero, suc, ◌+◌, ◌≤◌, ◌<◌}
use mathlib.Core.Path.{◌≡◌, refl, sym, ap, ◌∙◌, subst}
use mathlib.Core.Bool.{Bool, true, false, true≢false}
use mathlib.Core.Logic.{⊎_elim}
use native.Mathlib.Omega.{arith}
use native.Mathlib.Nat.{zero-add, suc-add}
use Rattle.laws.specs.Choice.{pick}
use Rattle.machine.specs.Record.{stopped_of}
use Rattle.demands.specs.Outside.{Outside, did_times}
use Rattle.demands.proofs.Work.{work_of}
use Rattle.demands.specs.States.{restart_states}
use Rattle.demands.specs.Board.{Board, moment_of}
use Rattle.demands.specs.Own.{own}
use Rattle.demands.specs.Begins.{begins}
use Rattle.demands.specs.Legs.{Tally, opcode_at, manual_at, states_at, restart_byte, restart_at}
use Rattle.demands.specs.Legs.{Leg, instruction, acknowledge, halt}
use Rattle.demands.proofs.Steps.{step, run}
use Rattle.demands.proofs.Openings.{Start, fetching, answering, halting, after_start}
use Rattle.demands.proofs.Halts.{kept_all}
use Rattle.demands.proofs.Journeys.{Now, Ran, Stopped, now_step}
use Rattle.demands.proofs.Runs.{now_within, now_awake, Ends, inside, stopped, leg, run_on, run_off, at_stop}

module _ (E : Outside) where
  -- a leg begins where one ends, so wherever one begins nothing is read
  leg_start : (b b' : Board) (q : Tally) → Leg E b q b' → Start b'
  leg_start b _ _ (instruction w h e k d f) =
      after_start (opcode_at b) (manual_at E b) (did_times E (states_at b + w + h) (moment_of b))
  leg_start b _ _ (acknowledge a n w h z l i e k f) =
      after_start (restart_byte n) (restart_at E b n) (did_times E (restart_states + w + h) (moment_of b))
  leg_start b _ _ (halt h e r) = after_start 0x76 (kept_all (work_of b)) (did_times E (1 + h) (moment_of b))

  pub ends_start : (b₀ b : Board) (n : ℕ) → Start b₀ → Ends E b₀ n b → begins b.machine.next ≡ true → Start b
  unfolding stopped_of
  ends_start b₀ b n s (inside x) f =
      ⊎_elim (λ y. subst Start (sym y.2) s) (λ y. absurd (true≢false (sym f ∙ y.0))) (now_within E b₀ x)
  ends_start b₀ b n s (stopped i o m l z) f =
      absurd (true≢false (sym f ∙ ap (λ (x : Board). begins x.machine.next) z.stops.board))
  ends_start b₀ b n s (leg {b₁ = b₁} {n = m} q l x) f = ends_start b₁ b m (leg_start b₀ b₁ q l) x f

  start_begins : (b : Board) → Start b → begins b.machine.next ≡ true
  start_begins b (fetching e k) = ap begins e
  start_begins b (answering a n z l i e k) = ap begins e
  start_begins b (halting e) = ap begins e

  -- as long as none begins and the machine does not stop, the leg goes on
  pub stays : (n : ℕ) (b₀ b : Board) (i o : ℕ) → Now E b₀ b i o
      → ((j : ℕ) → 0 < j → j ≤ n → begins (run E j b).machine.next ≡ false)
      → stopped_of (run E n b).machine.next ≡ false → (p : ℕ) × Now E b₀ (run E n b) (i + n) p
  unfolding run
  stays zero b₀ b i o x none f =
      (o, subst (λ (z : ℕ). Now E b₀ b z o) (let z : i ≡ i + 0 = omega arith in z) x)
  stays (suc n) b₀ b i o x none f =
      let a = now_awake E b₀ x in
      let on : (j : ℕ) → run E (suc j) b ≡ run E j (step E b) = λ j. run_on E j b a in
      ⊎_elim
      (λ (y : Now E b₀ (step E b) (suc i) (own b.machine.next + o)).
      let (p, z) =
      stays n b₀ (step E b) (suc i) (own b.machine.next + o) y
      (λ j l h.
      ap (λ (x : Board). begins x.machine.next) (sym (on j)) ∙ none (suc j) (omega arith) (omega arith))
      (ap (λ (x : Board). stopped_of x.machine.next) (sym (on n)) ∙ f) in (
        p,
        subst (λ (u : Board). Now E b₀ u (i + suc n) p) (sym (on n))
            (subst (λ (u : ℕ). Now E b₀ (run E n (step E b)) u p) (let e : suc i + n ≡ i + suc n = omega arith in e) z),
      ))
      (⊎_elim
      (λ (y : Ran E b₀ (step E b) (suc i) (own b.machine.next + o)).
      absurd
      (true≢false
      (sym (start_begins (step E b) y.start)
      ∙ ap (λ (x : Board). begins x.machine.next) (sym (on 0))
      ∙ none 1 (omega arith) (omega arith))))
      (λ (y : Stopped E b₀ (step E b) (suc i) (own b.machine.next + o)).
      let q = at_stop E b₀ y in
      absurd
      (true≢false
      (sym q
      ∙ ap (λ (x : Board). stopped_of x.machine.next) (sym (run_off E n (step E b) q))
      ∙ ap (λ (x : Board). stopped_of x.machine.next) (sym (on n))
      ∙ f))))
      (now_step E b₀ x)

  -- a run in two parts
  parted : (c : Bool) (n : ℕ) (b x y : Board) → (c ≡ true → run E n b ≡ b) → x ≡ run E n y → pick c b x ≡ run E n (pick c b y)
  parted true n b x y f e = sym (f refl)
  parted false n b x y f e = e

  pub run_add : (m n : ℕ) (b : Board) → run E (m + n) b ≡ run E n (run E m b)
  unfolding run
  run_add zero n b = rw zero-add
  run_add (suc m) n b =
      rw suc-add (parted (stopped_of b.machine.next) n b _ _ (λ h. run_off E n b h) (run_add m n (step E b)))
