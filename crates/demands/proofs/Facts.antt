-- What holds inside a leg: the levels and the clock are those of so many states later, INTE is as it was, and no more than 18
-- states so far are neither waits nor holds. Assumes nothing.
use Prim.Native.Nat.{ℕ, suc, ◌+◌, ◌≤◌}
use mathlib.Core.Path.{◌≡◌, refl, sym, ap, ◌∙◌, subst}
use mathlib.Core.Bool.{Bool, true}
use mathlib.Core.Logic.{inl, inr, ⊎_elim}
use native.Mathlib.Omega.{arith}
use lib.Dec.{eqb}
use Rattle.laws.proofs.Tests.{pick_both}
use Rattle.opcodes.specs.Codes.{fetch4}
use Rattle.opcodes.specs.Cycles.{code_of, defined_of}
use Rattle.opcodes.specs.Kinds.{states_of}
use Rattle.effect.specs.declared.registers.Registers.{Registers}
use Rattle.effect.specs.Effect.{effect_of}
use Rattle.machine.specs.declared.record.Position.TheVariants.{Fetch}
use Rattle.machine.specs.Step.{risen_of}
use Rattle.demands.specs.Outside.{Outside, Moment, did_times}
use Rattle.demands.proofs.Work.{Work, use_cycle, opcode_of, work_of}
use Rattle.demands.specs.Board.{Board, moment_of}
use Rattle.demands.specs.Bound.{Neither, under_way}
use Rattle.demands.proofs.Opcode.{use_opcode, use_inte}
use Rattle.demands.proofs.Stretches.{pass_add}
use Rattle.demands.proofs.Steps.{size, next, ended}
use Rattle.demands.proofs.Courses.{later_size, course_bound}
use Rattle.demands.proofs.Phases.{Early, Late, second, waiting, third, fourth, fifth, holding}
use Rattle.demands.proofs.Fetches.{fetch_opcode}
use Rattle.demands.proofs.Inte.{effect_inte}
use Rattle.demands.proofs.Going.{Going, begin, reading, read, first, early, late}
use Rattle.demands.proofs.Onward.{first_size}
use Rattle.demands.proofs.Openings.{fetch_halt, Start, fetching, answering, halting, fetch_code, opcode_none, opcode_ack}
use Rattle.demands.proofs.Restarts.{restart_neither}
use Rattle.demands.proofs.Journeys.{Now, going, resting, held}
use Rattle.demands.proofs.Results.{under_fetch}

-- on the board b, i states after the moment t: o of them are neither waits nor holds, of n at the most, and INTE is e
pub record Facts (E : Outside) (t : Moment) (n : ℕ) (e : Bool) (b : Board) (i o : ℕ) : Type 0 where
  pub moment : moment_of b ≡ did_times E i t
  pub few : o ≤ n
  pub inte : b.machine.regs.inte ≡ e

module _ (E : Outside) where
  early_facts : (d : Work) (c code : ℕ) (t : Moment) {b : Board} {i o : ℕ} → Early E d c code t b i o
      → Facts E t 2 d.regs.inte b i o
  unfolding risen_of
  early_facts d c code t second = record { moment = refl; few = omega arith; inte = refl }
  early_facts d c code t (waiting j i n w h) = record { moment = refl; few = omega arith; inte = refl }
  early_facts d c code t (third w i n h) = record { moment = refl; few = omega arith; inte = refl }

  -- at the end of a cycle of an instruction that is neither EI nor DI
  ended_inte : (c : ℕ) (u : Work) → defined_of u.kept.opcode ≡ true → Neither u.kept.opcode
      → (ended c u).regs.inte ≡ u.regs.inte
  ended_inte c u d n =
      pick_both (λ (r : Registers). r.inte ≡ u.regs.inte) (eqb (next c u.kept.opcode u.regs) 0)
      (effect_of u.kept u.regs) u.regs (λ e. effect_inte u.kept u.regs d n) (λ e. refl)

  late_facts : (u : Work) (c code s : ℕ) (t : Moment) {b : Board} {i o : ℕ} → defined_of u.kept.opcode ≡ true
      → Neither u.kept.opcode → Late E u c code s t b i o → Facts E t s u.regs.inte b i o
  late_facts u c code s t d n (fourth w i q h (inl z)) = record { moment = refl; few = omega arith; inte = refl }
  late_facts u c code s t d n (fourth w i q h (inr z)) = record { moment = refl; few = omega arith; inte = refl }
  late_facts u c code s t d n (fifth w i q h z) = record { moment = refl; few = omega arith; inte = refl }
  late_facts u c code s t d n (holding w j i z q h k) = record { moment = refl; few = omega arith; inte = ended_inte c u d n }

  module _ (d₀ : Work) (t₀ : Moment) (e₀ : code_of d₀.kept.opcode 1 ≡ fetch4) (n : Neither (opcode_of E d₀)) where
    -- a part of an instruction after a part of it
    shifted : (b : Board) (t : Moment) (i₀ i₁ i : ℕ) → t ≡ did_times E i₀ t₀ → i ≡ i₀ + i₁ → moment_of b ≡ did_times E i₁ t
        → moment_of b ≡ did_times E i t₀
    shifted b t i₀ i₁ i p q e =
        e ∙ ap (did_times E i₁) p ∙ sym (pass_add E i₀ i₁ t₀) ∙ ap (λ (x : ℕ). did_times E x t₀) (sym q)

    going_facts : {b : Board} {i o : ℕ} → Going E d₀ t₀ b i o → Facts E t₀ 18 d₀.regs.inte b i o
    going_facts begin = record { moment = refl; few = omega arith; inte = refl }
    going_facts (reading v) =
        let f = early_facts d₀ 0 fetch4 t₀ v in
        record { moment = f.moment; few = omega (arith, f.few); inte = f.inte }
    going_facts (read d v) =
        let u = use_cycle E fetch4 0 d₀ in
        let q = fetch_opcode E d₀ in
        let f =
        late_facts u 0 fetch4 (size 0 (opcode_of E d₀)) t₀ (ap defined_of q ∙ d) (subst Neither (sym q) n) v in
        record {
          moment = f.moment;
          few =
              ⊎_elim (λ z. omega (arith, f.few)) (λ z. omega (arith, f.few)) (first_size E d₀ t₀ e₀ d);
          inte = f.inte ∙ use_inte E fetch4 0 d₀;
        }
    going_facts (first c d t i o x y l s) =
        let h = course_bound (opcode_of E d₀) d₀.regs.f s.defined in
        record { moment = s.moment; few = omega (arith, s.owned); inte = s.inte }
    going_facts (early {b} c d t i₀ o₀ x y l s i₁ o₁ i o p q v) =
        let h = course_bound (opcode_of E d₀) d₀.regs.f s.defined in
        let f = early_facts d (suc c) y t v in
        let y₀ : 3 ≤ states_of y = ⊎_elim (λ z. omega arith) (λ z. omega arith) (later_size y l s.later) in
        record {
          moment = shifted b t i₀ i₁ i s.moment p f.moment;
          few = omega (arith, s.owned, f.few);
          inte = f.inte ∙ s.inte;
        }
    going_facts (late {b} c d t i₀ o₀ x y l s i₁ o₁ i o p q v) =
        let h = course_bound (opcode_of E d₀) d₀.regs.f s.defined in
        let u = use_cycle E y (suc c) d in
        let z = use_opcode E y c d ∙ s.opcode in
        let f = late_facts u (suc c) y (states_of y) t (ap defined_of z ∙ s.defined) (subst Neither (sym z) n) v in
        record {
          moment = shifted b t i₀ i₁ i s.moment p f.moment;
          few = omega (arith, s.owned, f.few);
          inte = f.inte ∙ use_inte E y (suc c) d ∙ s.inte;
        }

  module _ (b₀ : Board) where
    -- what begins on the board is neither EI nor DI
    start_neither : Start b₀ → b₀.machine.next ≡ Fetch → Neither (under_way b₀) → Neither (opcode_of E (work_of b₀))
    start_neither (fetching e k) f n = subst Neither (under_fetch E b₀ e k ∙ sym (opcode_none E b₀ k)) n
    start_neither (answering a m z l i e k) f n = subst Neither (sym (opcode_ack E b₀ a m z l k)) (restart_neither m l)
    start_neither (halting e) f n = fetch_halt b₀ f e

    pub now_facts : {b : Board} {i o : ℕ} → Neither (under_way b₀) → Now E b₀ b i o
        → Facts E (moment_of b₀) 18 b₀.machine.regs.inte b i o
    now_facts n (going s e g) =
        going_facts (work_of b₀) (moment_of b₀) (fetch_code b₀ s e) (start_neither s e n) g
    now_facts n (resting e) = record { moment = refl; few = omega arith; inte = refl }
    now_facts n (held j i e q t) = record { moment = refl; few = omega arith; inte = refl }
