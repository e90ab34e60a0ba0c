-- The outcome of a run by the tests of its arguments: one that fails, or none. Assumes nothing.
use Prim.Native.Nat.{ℕ}
use mathlib.Core.Path.{◌≡◌, refl, sym, ap, ◌∙◌}
use mathlib.Core.List.{List}
use borrow.Author.Tests.{ne_eqb, eq-eqb}
use lib.ListN.{length}
use Rattle.std.specs.Prelude.{Result, Ok, Err}
use Rattle.machine.specs.declared.record.Machine.{Machine}
use Rattle.run.specs.declared.answer.Refusal.{Refusal}
use Rattle.run.specs.declared.answer.Refusal.TheVariants.{MemorySize, PortSize}
use Rattle.run.specs.declared.answer.Ran.{Ran}
use Rattle.run.specs.declared.answer.Answer.{Answer}
use Rattle.run.specs.declared.answer.Answer.TheVariants.{Refused}
use Rattle.run.specs.Run.{World}
use Rattle.run.specs.Check.{and_then, schedule_verdict, states_verdict, check_of}
use Rattle.run.specs.Outcome.{start_of, verdict_of, answered_of, Outcome}
use Rattle.run.specs.Going.{Went}
use Rattle.run.proofs.Laws.{good_left, good_answer, refused_left, refused_answer}

module _ (m : Machine) (x i o s l : List ℕ) (n : ℕ) where
  -- the verdict, and what is left of it where memory and ports have their sizes
  abbrev verdict : Result (Unit {0}) Refusal
  verdict = check_of m (length x) (length i) (length o) s (length l) n

  abbrev rest : Result (Unit {0}) Refusal
  rest = and_then (schedule_verdict s) (states_verdict m (length l) n)

  no_memory : (length x ≡ 65536 → ⊥) → verdict ≡ Err MemorySize
  unfolding check_of
  no_memory h = simp (ne_eqb _ _ h)

  no_inputs : length x ≡ 65536 → (length i ≡ 256 → ⊥) → verdict ≡ Err PortSize
  unfolding check_of
  no_inputs a h = simp (eq-eqb _ _ a, ne_eqb _ _ h)

  no_outputs : length x ≡ 65536 → length i ≡ 256 → (length o ≡ 256 → ⊥) → verdict ≡ Err PortSize
  unfolding check_of
  no_outputs a b h = simp (eq-eqb _ _ a, eq-eqb _ _ b, ne_eqb _ _ h)

  sized : length x ≡ 65536 → length i ≡ 256 → length o ≡ 256 → verdict ≡ rest
  unfolding check_of
  sized a b c = simp (eq-eqb _ _ a, eq-eqb _ _ b, eq-eqb _ _ c)

  -- a refusal leaves everything as it was
  abbrev refusal : Refusal → Answer
  refusal r = Refused r (record { machine = m; states = 0 })

  refused : (r : Refusal) (a : Answer) (x' o' : List ℕ) → verdict ≡ Err r → a ≡ refusal r → x' ≡ x → o' ≡ o → Outcome m x i o s l n a x' o' l
  unfolding verdict_of
  refused r a x' o' e f p q =
      let w = start_of m x o l in
      let left = sym (refused_left w i s n r e) in
      record {
        answer = f ∙ sym (refused_answer w i s n r e);
        memory = p ∙ ap (λ (v : World). v.memory) left;
        outputs = q ∙ ap (λ (v : World). v.outputs) left;
        trace = ap (λ (v : World). v.trace) left;
      }

  pub refused_memory : (a : Answer) → (length x ≡ 65536 → ⊥) → a ≡ refusal MemorySize → Outcome m x i o s l n a x o l
  refused_memory a h f = refused MemorySize a x o (no_memory h) f refl refl

  pub refused_inputs : (a : Answer) (x' : List ℕ) → length x ≡ 65536 → x' ≡ x → (length i ≡ 256 → ⊥) → a ≡ refusal PortSize
      → Outcome m x i o s l n a x' o l
  refused_inputs a x' h p h' f = refused PortSize a x' o (no_inputs h h') f p refl

  pub refused_outputs : (a : Answer) (x' : List ℕ) → length x ≡ 65536 → x' ≡ x → length i ≡ 256 → (length o ≡ 256 → ⊥)
      → a ≡ refusal PortSize → Outcome m x i o s l n a x' o l
  refused_outputs a x' h p h' h'' f = refused PortSize a x' o (no_outputs h h' h'') f p refl

  pub refused_rest : (r : Refusal) (a : Answer) (x' o' : List ℕ) → length x ≡ 65536 → x' ≡ x → length i ≡ 256 → length o ≡ 256
      → o' ≡ o → rest ≡ Err r → a ≡ refusal r → Outcome m x i o s l n a x' o' l
  refused_rest r a x' o' h p h' h'' q e f = refused r a x' o' (sized h h' h'' ∙ e) f p q

  -- and where none fails the states are done
  pub done : (x₁ i₁ o₁ : List ℕ) (r : Ran) (a : Answer) (x' o' l' : List ℕ) → length x ≡ 65536 → x₁ ≡ x → length i ≡ 256 → i₁ ≡ i
      → length o ≡ 256 → o₁ ≡ o → rest ≡ Ok tt → Went m x₁ i₁ o₁ s l n r x' o' l' → a ≡ answered_of r
      → Outcome m x i o s l n a x' o' l'
  unfolding verdict_of
  done x₁ i₁ o₁ r a x' o' l' h p h' p' h'' p'' e w f =
      let u = start_of m x o l in
      let g = rw (p, p', p'') at w in
      let good = sized h h' h'' ∙ e in
      let left = sym (good_left u i s n good) in
      record {
        answer = f ∙ ap answered_of g.ran ∙ sym (good_answer u i s n good);
        memory = g.memory ∙ ap (λ (v : World). v.memory) left;
        outputs = g.outputs ∙ ap (λ (v : World). v.outputs) left;
        trace = g.trace ∙ ap (λ (v : World). v.trace) left;
      }
