-- Any run is made of legs: after any number of states it is inside a leg, at its start, or has stopped at an undefined opcode.
-- Assumes nothing.
use Prim.Native.Nat.{ℕ, suc, ◌+◌, ◌≤◌, ◌<◌}
use mathlib.Core.Path.{◌≡◌, refl, sym, ap, ap₂, ◌∙◌, subst}
use mathlib.Core.Bool.{true, false, true≢false}
use mathlib.Core.Logic.{◌⊎◌, inl, inr, ⊎_elim}
use native.Mathlib.Omega.{arith}
use Rattle.opcodes.specs.Condition.{met_of}
use Rattle.opcodes.specs.Cycles.{defined_of}
use Rattle.opcodes.specs.declared.cycle.Acknowledge.TheVariants.{None}
use Rattle.effect.specs.Kept.{kept_for}
use Rattle.machine.specs.declared.record.Position.{Position}
use Rattle.machine.specs.declared.record.Position.TheVariants.{Fetch, Hold, Halt}
use Rattle.demands.specs.Begins.{Acknowledges}
use Rattle.demands.specs.Outside.{Outside, did_times, up}
use Rattle.demands.proofs.Work.{opcode_of, result_of, here, work_of}
use Rattle.demands.specs.Rows.{Through, Unbroken, Forced}
use Rattle.demands.specs.Board.{Board, moment_of}
use Rattle.demands.specs.Own.{own}
use Rattle.demands.specs.Bound.{Neither, under_way}
use Rattle.demands.specs.Manual.{Result}
use Rattle.demands.specs.States.{restart_states}
use Rattle.demands.specs.Legs.{Tally, tally, states_in, afterwards, opcode_at, manual_at, states_at, restart_byte, restart_at}
use Rattle.demands.specs.Legs.{course_at, Leg, instruction, acknowledge, halt}
use Rattle.demands.proofs.Stretches.{clock_pass, through_none, row_next}
use Rattle.demands.proofs.Steps.{step}
use Rattle.demands.proofs.Lasts.{hold_on}
use Rattle.demands.proofs.Courses.{course_bound}
use Rattle.demands.proofs.Going.{Going, begin, Finished, Stops}
use Rattle.demands.proofs.Onward.{going_step}
use Rattle.demands.proofs.Openings.{fetch_halt, Start, fetching, answering, halting, fetch_code, opcode_none, opcode_ack}
use Rattle.demands.proofs.Restarts.{restart_defined, restart_total, restart_neither}
use Rattle.demands.proofs.Halts.{halted, kept_all, halt_on, halt_off, halt_held}
use Rattle.demands.proofs.Results.{total_at, over_as, manual_states_lem, manual_done, restart_done, start_done, under_fetch}
use Rattle.demands.proofs.Results.{takes_done, finish_takes}

module _ (E : Outside) (b₀ : Board) where
  -- inside a leg that began on the board b₀
  pub data Now : Board → ℕ → ℕ → Type 0 where
    going : {b : Board} {i o : ℕ} → Start b₀ → b₀.machine.next ≡ Fetch
        → Going E (work_of b₀) (moment_of b₀) b i o → Now b i o
    resting : b₀.machine.next ≡ Halt → Now (here (work_of b₀) Halt (moment_of b₀)) 0 0
    held : (j i : ℕ) → b₀.machine.next ≡ Halt → i ≡ suc j → Through (up E) b₀.machine.clock (suc j)
        → Now (here (halted (work_of b₀)) (Hold 2) (did_times E i (moment_of b₀))) i 1

  -- the leg is over
  pub record Ran (b : Board) (i o : ℕ) : Type 0 where
    pub tallied : Tally
    pub leg : Leg E b₀ tallied b
    pub count : i ≡ states_in tallied
    pub owned : o ≡ tallied.manual + tallied.halts
    pub few : o ≤ 18
    pub start : Start b
    pub takes : Neither (under_way b₀) → b₀.machine.regs.inte ≡ true → (did_times E i (moment_of b₀)).lines.int < 8
        → Acknowledges b.machine

  -- the machine stops, at the undefined opcode of an instruction
  pub record Stopped (b : Board) (i o : ℕ) : Type 0 where
    pub next : b₀.machine.next ≡ Fetch
    pub kept : b₀.machine.kept ≡ kept_for None 0
    pub stops : Stops E (work_of b₀) (moment_of b₀) b i o

  at_next : (p : Position) → b₀.machine.next ≡ p → Now (here (work_of b₀) p (moment_of b₀)) 0 0 → Now b₀ 0 0
  at_next p e = subst (λ (z : Board). Now z 0 0) (ap (λ q. here (work_of b₀) q (moment_of b₀)) (sym e))

  pub now_begin : Start b₀ → Now b₀ 0 0
  now_begin (fetching e k) = at_next Fetch e (going (fetching e k) e begin)
  now_begin (answering a n z l f e k) = at_next Fetch e (going (answering a n z l f e k) e begin)
  now_begin (halting e) = at_next Halt e (resting e)

  -- an instruction or an acknowledge with the opcode op is over: it has n states, and its result is a
  leg_with : (op n : ℕ) (a : Result) {b : Board} {i o : ℕ} → opcode_of E (work_of b₀) ≡ op → total_at E b₀ op ≡ n
      → result_of E (course_at b₀ op) (work_of b₀) ≡ a
      → ((w h : ℕ) → Forced E (course_at b₀ op) b₀.machine.clock w h
      → Leg E b₀ (tally n w h 0) (afterwards op a (did_times E (n + w + h) (moment_of b₀))))
      → (Neither (under_way b₀) → Neither op) → Finished E (work_of b₀) (moment_of b₀) b i o → Ran b i o
  leg_with op n a {b} {i} {o} q t r l m f =
      let (w, h, forced, c, owned, board) = over_as E b₀ op q f in
      let board' : b ≡ afterwards op a (did_times E (n + w + h) (moment_of b₀)) =
      board ∙ ap₂ (λ (x : Result) (y : ℕ). afterwards op x (did_times E (y + w + h) (moment_of b₀))) r t in
      record {
        tallied = tally n w h 0;
        leg = subst (Leg E b₀ _) (sym board') (l w h forced);
        count = omega arith;
        owned = omega arith;
        few = omega (arith, f.owned, course_bound (opcode_of E (work_of b₀)) b₀.machine.regs.f f.defined);
        start = start_done E b₀ op (n + w + h) a board';
        takes = λ z. finish_takes E b₀ f (subst Neither (sym q) (m z));
      }

  leg_over : {b : Board} {i o : ℕ} → Start b₀ → b₀.machine.next ≡ Fetch → Finished E (work_of b₀) (moment_of b₀) b i o → Ran b i o
  leg_over (fetching e k) e' f =
      let q = opcode_none E b₀ k in
      let d : defined_of (opcode_at b₀) ≡ true = ap defined_of (sym q) ∙ f.defined in
      leg_with (opcode_at b₀) (states_at b₀) (manual_at E b₀) q (manual_states_lem E b₀) (manual_done E b₀ k d)
      (λ w h c. instruction w h e k d c) (subst Neither (under_fetch E b₀ e k)) f
  leg_over (answering a m z l off e k) e' f =
      leg_with (restart_byte m) restart_states (restart_at E b₀ m) (opcode_ack E b₀ a m z l k)
      (restart_total m l (met_of (restart_byte m) b₀.machine.regs.f)) (restart_done E b₀ a m z l off k)
      (λ w h c. acknowledge a m w h z l off e k c) (λ y. restart_neither m l) f
  leg_over (halting e) e' f = fetch_halt b₀ e' e

  abbrev pub Then : Board → ℕ → ℕ → Type 0
  Then b i o = Now b i o ⊎ (Ran b i o ⊎ Stopped b i o)

  stop_over : {b : Board} {i o : ℕ} → Start b₀ → b₀.machine.next ≡ Fetch → Stops E (work_of b₀) (moment_of b₀) b i o → Stopped b i o
  stop_over (fetching e k) e' f = record { next = e; kept = k; stops = f }
  stop_over (answering a n z l i e k) e' f =
      absurd (true≢false (sym (restart_defined n l) ∙ sym (ap defined_of (opcode_ack E b₀ a n z l k)) ∙ f.undefined))
  stop_over (halting e) e' f = fetch_halt b₀ e' e

  -- the end of a halt state and its holds
  halt_over : (b : Board) (h i : ℕ) → b₀.machine.next ≡ Halt → Unbroken (up E) b₀.machine.clock h → i ≡ 1 + h
      → b ≡ afterwards 0x76 (kept_all (work_of b₀)) (did_times E i (moment_of b₀)) → Ran b i 1
  halt_over b h i e r n p =
      let board : b ≡ afterwards 0x76 (kept_all (work_of b₀)) (did_times E (1 + h) (moment_of b₀)) =
      p ∙ ap (λ x. afterwards 0x76 (kept_all (work_of b₀)) (did_times E x (moment_of b₀))) n in
      record {
        tallied = tally 0 0 h 1;
        leg = subst (Leg E b₀ _) (sym board) (halt h e r);
        count = omega arith;
        owned = refl;
        few = omega arith;
        start = start_done E b₀ 0x76 (1 + h) (kept_all (work_of b₀)) board;
        takes = λ z. takes_done E b₀ 0x76 i (kept_all (work_of b₀)) p refl;
      }

  -- a halt state, or a hold after it
  halt_step : (b : Board) (j i : ℕ) → b₀.machine.next ≡ Halt → i ≡ j → Through (up E) b₀.machine.clock j
      → (up E (did_times E i (moment_of b₀)).clock ≡ true → b ≡ here (halted (work_of b₀)) (Hold 2) (did_times E (suc i) (moment_of b₀)))
      → (up E (did_times E i (moment_of b₀)).clock ≡ false
      → b ≡ afterwards 0x76 (kept_all (work_of b₀)) (did_times E (suc i) (moment_of b₀))) → Then b (suc i) 1
  halt_step b j i e n t on off =
      row_next (up E) b₀.machine.clock j (did_times E i (moment_of b₀)).clock t (clock_pass E i (moment_of b₀) ∙ omega arith)
      (λ h r. inl (subst (λ (z : Board). Now z (suc i) 1) (sym (on h)) (held j (suc i) e (omega arith) r)))
      (λ h r. inr (inl (halt_over b j (suc i) e r (omega arith) (off h))))

  -- one state more
  pub now_step : {b : Board} {i o : ℕ} → Now b i o → Then (step E b) (suc i) (own b.machine.next + o)
  now_step (going s e g) =
      ⊎_elim (λ x. inl (going s e x)) (⊎_elim (λ x. inr (inl (leg_over s e x))) (λ x. inr (inr (stop_over s e x))))
      (going_step E (work_of b₀) (moment_of b₀) (fetch_code b₀ s e) g)
  now_step (resting e) =
      halt_step _ 0 0 e refl (through_none (up E) _) (halt_on E (work_of b₀) (moment_of b₀)) (halt_off E (work_of b₀) (moment_of b₀))
  now_step (held j i e n t) =
      halt_step _ (suc j) i e n t (hold_on E (halted (work_of b₀)) 1 (did_times E i (moment_of b₀)))
      (halt_held E (work_of b₀) (did_times E i (moment_of b₀)))
