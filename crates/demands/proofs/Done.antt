-- The run does every leg that the levels force: after its states the leg is over. Assumes nothing.
use Prim.Native.Nat.{ℕ, zero, suc, ◌+◌, ◌<◌}
use mathlib.Core.Path.{◌≡◌, refl, sym, ap, ◌∙◌, subst}
use mathlib.Core.Bool.{true, true≢false}
use mathlib.Core.Logic.{⊎_elim}
use native.Mathlib.Omega.{arith}
use Rattle.opcodes.specs.Condition.{met_of}
use Rattle.opcodes.specs.Cycles.{defined_of}
use Rattle.opcodes.specs.Totals.{total_of}
use Rattle.demands.specs.Outside.{Outside, up}
use Rattle.demands.specs.Rows.{Forced}
use Rattle.demands.proofs.Work.{opcode_of, work_of}
use Rattle.demands.specs.Board.{Board, moment_of}
use Rattle.demands.specs.Course.{course_of}
use Rattle.demands.specs.Legs.{Tally, plus, states_in, opcode_at, restart_byte, course_at}
use Rattle.demands.specs.Legs.{Leg, instruction, acknowledge, halt, Trip, stay, go}
use Rattle.demands.specs.Own.{own}
use Rattle.demands.proofs.Steps.{step, run}
use Rattle.demands.proofs.Courses.{course_total}
use Rattle.demands.proofs.Going.{Going}
use Rattle.demands.proofs.Openings.{fetch_halt, Start, fetching, answering, halting, opcode_none, opcode_ack}
use Rattle.demands.proofs.Restarts.{restart_defined, restart_total}
use Rattle.demands.proofs.Journeys.{Now, going, resting, held, Ran, Stopped, now_begin, now_step}
use Rattle.demands.proofs.Runs.{now_awake, run_on}
use Rattle.demands.proofs.Once.{leg_one}
use Rattle.demands.proofs.Results.{total_at, manual_states_lem}
use Rattle.demands.proofs.Stays.{run_add}
use Rattle.demands.proofs.Before.{row_longer, going_before}

module _ (E : Outside) (b₀ : Board) where
  -- of the opcode op, which the leg has
  course_before : (op : ℕ) {b : Board} {i o w h : ℕ} → opcode_of E (work_of b₀) ≡ op → defined_of op ≡ true
      → Going E (work_of b₀) (moment_of b₀) b i o → Forced E (course_at b₀ op) b₀.machine.clock w h → i < total_at E b₀ op + w + h
  course_before op {w = w} {h = h} e d g f =
      let d' : defined_of (opcode_of E (work_of b₀)) ≡ true = ap defined_of e ∙ d in
      let t = course_total op b₀.machine.regs.f d in
      let q : total_of (course_of (opcode_of E (work_of b₀)) b₀.machine.regs.f) ≡ total_at E b₀ op =
      ap (λ (z : ℕ). total_of (course_of z b₀.machine.regs.f)) e ∙ t in
      let z =
      going_before E (work_of b₀) (moment_of b₀) d' g
      (subst (λ (z : ℕ). Forced E (course_at b₀ z) b₀.machine.clock w h) (sym e) f) in
      omega arith

  -- a leg that is under way has states left
  now_before : {b : Board} {i o : ℕ} (q : Tally) (b' : Board) → Now E b₀ b i o → Leg E b₀ q b' → i < states_in q
  now_before _ _ (going s e g) (instruction w h e' k d f) =
      let z = course_before (opcode_at b₀) (opcode_none E b₀ k) d g f in
      let t = manual_states_lem E b₀ in
      omega arith
  now_before _ _ (going s e g) (acknowledge a n w h y l i e' k f) =
      let t = restart_total n l (met_of (restart_byte n) b₀.machine.regs.f) in
      let z = course_before (restart_byte n) (opcode_ack E b₀ a n y l k) (restart_defined n l) g f in
      omega arith
  now_before _ _ (going s e g) (halt h e' r) = fetch_halt b₀ e e'
  now_before _ _ (resting e) (instruction w h e' k d f) = fetch_halt b₀ e' e
  now_before _ _ (resting e) (acknowledge a n w h y l i e' k f) = fetch_halt b₀ e' e
  now_before _ _ (resting e) (halt h e' r) = omega arith
  now_before _ _ (held j i e n th) (instruction w h e' k d f) = fetch_halt b₀ e' e
  now_before _ _ (held j i e n th) (acknowledge a m w h y l z e' k f) = fetch_halt b₀ e' e
  now_before _ _ (held j i e n th) (halt h e' r) =
      let z : j < h = row_longer (up E) b₀.machine.clock j h th r in omega arith

  -- where a leg goes on, the machine does not stop
  no_stop : {A : Type 0} {b : Board} {i o : ℕ} (q : Tally) (b' : Board) → Stopped E b₀ b i o → Leg E b₀ q b' → A
  no_stop _ _ z (instruction w h e k d f) =
      absurd (true≢false (sym d ∙ ap defined_of (sym (opcode_none E b₀ k)) ∙ z.stops.undefined))
  no_stop _ _ z (acknowledge a n w h y l i e k f) =
      absurd
      (true≢false (sym (restart_defined n l) ∙ ap defined_of (sym (opcode_ack E b₀ a n y l k)) ∙ z.stops.undefined))
  no_stop _ _ z (halt h e r) = fetch_halt b₀ z.next e

  leg_begins : (q : Tally) (b' : Board) → Leg E b₀ q b' → Start b₀
  leg_begins _ _ (instruction w h e k d f) = fetching e k
  leg_begins _ _ (acknowledge a n w h y l i e k f) = answering a n y l i e k
  leg_begins _ _ (halt h e r) = halting e

  walk : (n : ℕ) (q : Tally) (b b' : Board) (i o : ℕ) → Now E b₀ b i o → Leg E b₀ q b' → i + n ≡ states_in q → run E n b ≡ b'
  unfolding run
  walk zero q b b' i o x l e = absurd (let z = now_before q b' x l in let no : ⊥ = omega arith in no)
  walk (suc n) q b b' i o x l e =
      run_on E n b (now_awake E b₀ x)
      ∙ ⊎_elim
      (λ y. walk n q (step E b) b' (suc i) (own b.machine.next + o) y l (omega arith))
      (⊎_elim
      (λ (y : Ran E b₀ (step E b) (suc i) (own b.machine.next + o)).
      let (p, z) = leg_one E b₀ y.tallied q (step E b) b' y.leg l in
      let c : suc i ≡ states_in q = y.count ∙ ap states_in p in
      let m : n ≡ 0 = omega arith in
      ap (λ (j : ℕ). run E j (step E b)) m ∙ z)
      (λ y. no_stop q b' y l))
      (now_step E b₀ x)

  -- the run does the leg
  pub leg_run : (q : Tally) (b' : Board) → Leg E b₀ q b' → run E (states_in q) b₀ ≡ b'
  leg_run q b' l = walk (states_in q) q b₀ b' 0 0 (now_begin E b₀ (leg_begins q b' l)) l (omega arith)

-- and the trip
pub trip_run : (E : Outside) (b b' : Board) (q : Tally) → Trip E b q b' → run E (states_in q) b ≡ b'
unfolding run
trip_run E b _ _ stay = refl
trip_run E b b' _ (go {b' = x} {p = p} {q = q} l t) =
    ap (λ (i : ℕ). run E i b) (let z : states_in (plus p q) ≡ states_in p + states_in q = omega arith in z)
    ∙ run_add E (states_in p) (states_in q) b
    ∙ ap (run E (states_in q)) (leg_run E b p x l)
    ∙ trip_run E x b' q t
