-- After a cycle the next begins, or the instruction is over. Here cycles count from 0. Assumes nothing.
use Prim.Native.Nat.{ℕ, suc, ◌+◌}
use mathlib.Core.Path.{◌≡◌, sym, ap, ap₂, ◌∙◌, subst}
use mathlib.Core.List.{List, [], ◌∷◌}
use mathlib.Core.Logic.{inl, inr}
use native.Mathlib.Omega.{arith}
use lib.Dec.{eqb-suc-zero}
use lib.ListN.{drop}
use Rattle.opcodes.specs.Cycles.{defined_of}
use Rattle.effect.specs.Effect.{effect_of}
use Rattle.machine.specs.declared.record.Position.TheVariants.{Later}
use Rattle.machine.specs.Record.{with_next}
use Rattle.machine.specs.Ending.{takes_of, acknowledge_of, clear_of, ended_of, follow_of}
use Rattle.demands.specs.Outside.{Outside, Moment}
use Rattle.demands.specs.Rows.{none}
use Rattle.demands.proofs.Work.{Work, here}
use Rattle.demands.specs.Board.{Board}
use Rattle.demands.specs.Course.{course_of}
use Rattle.demands.specs.Bound.{Neither}
use Rattle.demands.proofs.Steps.{next, Done}
use Rattle.demands.proofs.Courses.{next_last, next_more}
use Rattle.demands.proofs.Inte.{effect_inte}
use Rattle.demands.proofs.Going.{Ended, cs, Sofar, Going, first, Next}

-- after the last cycle, and after another
done_last : (c : ℕ) (d : Work) (t : Moment) → next c d.kept.opcode d.regs ≡ 0 → Done c d t ≡ Ended d t
unfolding follow_of ended_of acknowledge_of clear_of takes_of
done_last c d t e = rw e

done_more : (c : ℕ) (d : Work) (t : Moment) → next c d.kept.opcode d.regs ≡ suc (suc c)
    → Done c d t ≡ here d (Later (suc (suc c)) 1) t
unfolding follow_of with_next
done_more c d t e = rw (e, eqb-suc-zero (suc c))

module _ (E : Outside) (d₀ : Work) (t₀ : Moment) where
  course_in : {c : ℕ} {d : Work} {t : Moment} {i o x : ℕ} {l : List ℕ} → Sofar E d₀ t₀ c d t i o x l
      → course_of d.kept.opcode d.regs.f ≡ cs E d₀
  course_in s = ap₂ course_of s.opcode s.flags

  -- after a cycle the next begins, or the instruction is over
  pub settle : (c : ℕ) (d : Work) (t : Moment) (i o x : ℕ) (l : List ℕ) → Sofar E d₀ t₀ c d t i o x l
      → (b : Board) → b ≡ Done c d t → Next E d₀ t₀ b i o
  settle c d t i o x [] s b e =
      let at : drop c (course_of d.kept.opcode d.regs.f) ≡ x ∷ [] = ap (drop c) (course_in s) ∙ s.place in
      inr
      (inl
      (record {
        defined = s.defined;
        w = s.w + 0;
        h = s.h + 0;
        forced = s.close 0 0 none;
        count = omega (arith, s.count, s.owned);
        owned = omega (arith, s.owned);
        opcode = ap (λ (z : Work). z.kept.opcode) (sym s.work) ∙ s.opcode;
        inte =
            λ n.
            subst (λ (z : Work). (effect_of z.kept z.regs).inte ≡ d₀.regs.inte) s.work
            (effect_inte d.kept d.regs (ap defined_of s.opcode ∙ s.defined)
            (subst Neither (sym s.opcode) n) ∙ s.inte);
        board =
            e
            ∙ done_last c d t (next_last d.kept.opcode d.regs c x at)
            ∙ ap₂ Ended s.work s.moment;
      }))
  settle c d t i o x (y ∷ l) s b e =
      let at : drop c (course_of d.kept.opcode d.regs.f) ≡ x ∷ y ∷ l = ap (drop c) (course_in s) ∙ s.place in
      inl
      (subst (λ (z : Board). Going E d₀ t₀ z i o)
      (sym (e ∙ done_more c d t (next_more d.kept.opcode d.regs c x y l at)))
      (first c d t i o x y l s))
