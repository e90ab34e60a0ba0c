-- What the cycles of an instruction or of an acknowledged restart have done when they are over. Assumes nothing.
use Prim.Native.Nat.{ℕ, ◌+◌, ◌%◌, ◌<◌}
use mathlib.Core.Path.{◌≡◌, sym, ap, ◌∙◌, subst}
use mathlib.Core.Bool.{Bool, true, false}
use native.Mathlib.Omega.{arith}
use lib.Dec.{eqb}
use Rattle.laws.proofs.Tests.{true→T}
use Rattle.opcodes.specs.Condition.{met_of}
use Rattle.opcodes.specs.Instructions.{decode}
use Rattle.opcodes.specs.Cycles.{cycles, defined_of}
use Rattle.opcodes.specs.Kinds.{is_none}
use Rattle.opcodes.specs.Totals.{total_of, listed_total}
use Rattle.opcodes.specs.declared.cycle.Acknowledge.{Acknowledge}
use Rattle.opcodes.specs.declared.cycle.Acknowledge.TheVariants.{None}
use Rattle.effect.specs.declared.kept.Kept.{Kept}
use Rattle.effect.specs.Kept.{kept_for}
use Rattle.machine.specs.declared.record.Position.TheVariants.{Fetch}
use Rattle.demands.specs.Begins.{Acknowledges}
use Rattle.demands.specs.Outside.{Outside, did_times}
use Rattle.demands.proofs.Work.{uses, opcode_of, closing, result_of, work_of}
use Rattle.demands.specs.Rows.{Forced}
use Rattle.demands.specs.Board.{Board, moment_of}
use Rattle.demands.specs.Course.{course_of}
use Rattle.demands.specs.Bound.{Neither, under_way}
use Rattle.demands.specs.Manual.{Result}
use Rattle.demands.specs.States.{manual_states}
use Rattle.demands.specs.Legs.{afterwards, opcode_at, manual_at, states_at, course_at, restart_byte, restart_at}
use Rattle.demands.proofs.Digits.{met_is}
use Rattle.demands.proofs.Manual.{cycles_do, restart_does}
use Rattle.demands.proofs.Courses.{course_total}
use Rattle.demands.proofs.Going.{Finished}
use Rattle.demands.proofs.Openings.{Start, ended_as, after_start, after_takes}

module _ (E : Outside) (b₀ : Board) where
  -- the states of the opcode op, and what its cycles leave n states later
  abbrev pub total_at : ℕ → ℕ
  total_at op = listed_total (decode op) (met_of op b₀.machine.regs.f)

  abbrev pub done_at : ℕ → ℕ → Board
  done_at op n = afterwards op (result_of E (course_at b₀ op) (work_of b₀)) (did_times E n (moment_of b₀))

  -- an instruction is over
  pub over_as : (op : ℕ) {b : Board} {i o : ℕ} → opcode_of E (work_of b₀) ≡ op → Finished E (work_of b₀) (moment_of b₀) b i o
      → (w : ℕ) × (h : ℕ) × Forced E (course_at b₀ op) b₀.machine.clock w h
      × (i ≡ total_at op + w + h) × (o ≡ total_at op) × (b ≡ done_at op (total_at op + w + h))
  unfolding result_of
  over_as op {b} {i} {o} e f =
      let total : total_of (course_at b₀ (opcode_of E (work_of b₀))) ≡ total_at op =
      course_total (opcode_of E (work_of b₀)) b₀.machine.regs.f f.defined ∙ ap total_at e in
      let n : i ≡ total_at op + f.w + f.h = omega (arith, f.count, total) in (
        f.w,
        f.h,
        subst (λ (z : ℕ). Forced E (course_at b₀ z) b₀.machine.clock f.w f.h) e f.forced,
        n,
        f.owned ∙ total,
        f.board
            ∙ ended_as (uses E 0 (course_at b₀ (opcode_of E (work_of b₀))) (work_of b₀)) (opcode_of E (work_of b₀))
            (did_times E i (moment_of b₀)) f.opcode
            ∙ ap (λ (z : ℕ). done_at z i) e
            ∙ ap (done_at op) n,
      )

  -- it has done what the manual says, in the manual's states
  pub manual_states_lem : total_at (opcode_at b₀) ≡ states_at b₀
  unfolding manual_states
  manual_states_lem = ap (listed_total (decode (opcode_at b₀))) (sym (met_is (opcode_at b₀) b₀.machine.regs.f))

  pub manual_done : b₀.machine.kept ≡ kept_for None 0 → defined_of (opcode_at b₀) ≡ true
      → result_of E (course_at b₀ (opcode_at b₀)) (work_of b₀) ≡ manual_at E b₀
  unfolding course_of
  manual_done k d =
      ap
      (λ (x : Kept).
      result_of E (course_at b₀ (opcode_at b₀))
      (record { regs = b₀.machine.regs; kept = x; memory = b₀.memory; outputs = b₀.outputs }))
      k
      ∙ cycles_do E b₀.machine.regs b₀.memory b₀.outputs (true→T (defined_of (opcode_at b₀)) d)

  -- and so has an acknowledged restart
  pub restart_done : (a : Acknowledge) (n : ℕ) → is_none a ≡ false → n < 8 → b₀.machine.regs.inte ≡ false
      → b₀.machine.kept ≡ kept_for a n → result_of E (course_at b₀ (restart_byte n)) (work_of b₀) ≡ restart_at E b₀ n
  unfolding course_of
  restart_done a n z l off k =
      let q : n % 8 ≡ n = omega arith in
      let met : ℕ → Bool = λ m. met_of (restart_byte m) b₀.machine.regs.f in
      ap
      (λ (x : Kept).
      result_of E (course_at b₀ (restart_byte n))
      (record { regs = b₀.machine.regs; kept = x; memory = b₀.memory; outputs = b₀.outputs }))
      k
      ∙ subst
      (λ (m : ℕ).
      result_of E (cycles (decode (restart_byte m)) (met m))
      (record { regs = b₀.machine.regs; kept = kept_for a n; memory = b₀.memory; outputs = b₀.outputs })
      ≡ restart_at E b₀ m)
      q (restart_does E b₀.machine.regs b₀.memory b₀.outputs n a z off (met (n % 8)))

  -- a leg begins there, with an acknowledge where INTE is on, INT up, and the opcode not EI
  pub start_done : (op n : ℕ) (a : Result) {b : Board} → b ≡ afterwards op a (did_times E n (moment_of b₀)) → Start b
  start_done op n a e = subst Start (sym e) (after_start op a (did_times E n (moment_of b₀)))

  pub takes_done : (op n : ℕ) (a : Result) {b : Board} → b ≡ afterwards op a (did_times E n (moment_of b₀)) → eqb op 0xFB ≡ false
      → a.regs.inte ≡ true → (did_times E n (moment_of b₀)).lines.int < 8 → Acknowledges b.machine
  takes_done op n a e z t u =
      subst (λ (x : Board). Acknowledges x.machine) (sym e) (after_takes op a (did_times E n (moment_of b₀)) z t u)

  pub under_fetch : b₀.machine.next ≡ Fetch → b₀.machine.kept ≡ kept_for None 0 → under_way b₀ ≡ opcode_at b₀
  unfolding kept_for
  under_fetch e k = rw (e, k)

  -- an interrupt is taken at the end of an instruction that is neither EI nor DI
  pub finish_takes : {b : Board} {i o : ℕ} → Finished E (work_of b₀) (moment_of b₀) b i o → Neither (opcode_of E (work_of b₀))
      → b₀.machine.regs.inte ≡ true → (did_times E i (moment_of b₀)).lines.int < 8 → Acknowledges b.machine
  finish_takes {b} {i} f n t u =
      let cs = course_of (opcode_of E (work_of b₀)) b₀.machine.regs.f in
      let d = uses E 0 cs (work_of b₀) in
      takes_done (opcode_of E (work_of b₀)) i (closing d)
      (f.board ∙ ended_as d (opcode_of E (work_of b₀)) (did_times E i (moment_of b₀)) f.opcode) n.0 (f.inte n ∙ t) u
