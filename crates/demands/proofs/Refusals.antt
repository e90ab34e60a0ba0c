-- Demand 1 for `run`. Assumes nothing.
use Rattle.std.specs.Prelude.{Result, Ok, Err}
use Prim.Native.Nat.{ℕ}
use mathlib.Core.Path.{◌≡◌, refl, sym, ap, ◌∙◌, subst}
use mathlib.Core.Bool.{Bool, true, false, false≢true}
use mathlib.Core.List.{List}
use mathlib.Core.Logic.{inl, inr, ⊎_elim}
use native.Mathlib.Omega.{arith}
use native.Mathlib.Nat.{eq-or-lt_of_le}
use Rattle.laws.specs.Choice.{pick}
use Rattle.laws.proofs.Order.{lt_or_le}
use Rattle.machine.specs.declared.record.Position.TheVariants.{Stop}
use Rattle.machine.specs.Record.{stopped_of}
use Rattle.run.specs.declared.answer.Refusal.{Refusal}
use Rattle.run.specs.declared.answer.Answer.{Answer}
use Rattle.run.specs.declared.answer.Answer.TheVariants.{Done, Stopped, Refused}
use Rattle.run.specs.Answer.{refusal_number}
use Rattle.run.specs.Run.{World, run_of}
use Rattle.run.specs.Outcome.{verdict_of, left_by, left_of, ran_in, answered_of, answer_by, answer_of}
use Rattle.run.proofs.Laws.{run_stopped}
use Rattle.run.proofs.Calls.{run_unique}
use Rattle.demands.specs.IllFormed.{Not}
use Rattle.demands.specs.Refusals.{Call, Given, First, Unchanged, Taken, Allowed, Refuses}
use Rattle.demands.proofs.Counted.{stop_is, goes_is, run_count, run_rest}
use Rattle.demands.proofs.Stops.{run_stops}
use Rattle.demands.proofs.Verdicts.{same_number, number_range, Sound, before, verdict_sound}

-- a refusal's number is neither 0 nor 10
not_zero : {A : Type 0} (q : Refusal) → refusal_number q ≡ 0 → A
not_zero q e = let r = (number_range q).0 in absurd (let no : ⊥ = omega (arith, e, r) in no)

not_ten : {A : Type 0} (q : Refusal) → refusal_number q ≡ 10 → A
not_ten q e = let r = (number_range q).1 in absurd (let no : ⊥ = omega (arith, e, r) in no)

module _ (c : Call) where
  -- the first condition that holds is one
  one_first : (p q : Refusal) → First c p → First c q → refusal_number p ≡ refusal_number q
  one_first p q f g =
      ⊎_elim (λ l. absurd (g.1 p l f.0))
      (λ l. ⊎_elim (λ e. sym e) (λ m. absurd (f.1 q m g.0)) (eq-or-lt_of_le l))
      (lt_or_le (refusal_number p) (refusal_number q))

  -- a refusal
  refusing : (q : Refusal) → First c q → Taken c (Refused q (ran_in (before c))) c.memory c.outputs c.trace
  refusing q f =
      record {
        refused = λ p. (λ e. subst (First c) (same_number q p e) f, λ g. one_first q p f g);
        unchanged = λ p e. record { machine = refl; states = refl; memory = refl; outputs = refl; trace = refl };
        accepted = (⊎_elim (not_zero q) (not_ten q), λ none. absurd (none q f.0));
        done = not_zero q;
        stopped = not_ten q;
        stops = λ e h. not_ten q e;
        again = λ s none. absurd (none q f.0);
        rest = λ i h. refl;
      }

  -- the states of a call that is not refused
  abbrev after : World
  after = run_of c.schedule c.inputs c.states (before c)

  -- a machine that has stopped does nothing
  idle : c.machine.next ≡ Stop → after ≡ before c
  unfolding stopped_of
  idle s = run_stopped c.schedule c.inputs c.states (before c) (rw s refl)

  same : after ≡ before c → Unchanged c (Stopped (ran_in after)) after.memory after.outputs after.trace
  same e =
      record {
        machine = ap (λ (w : World). w.machine) e;
        states = ap (λ (w : World). w.states) e;
        memory = ap (λ (w : World). w.memory) e;
        outputs = ap (λ (w : World). w.outputs) e;
        trace = ap (λ (w : World). w.trace) e;
      }

  still : c.machine.next ≡ Stop → stopped_of after.machine.next ≡ true
  unfolding stopped_of
  still s = rw (idle s, s) refl

  -- an answer of 10, and one of 0
  going : (b : Bool) → stopped_of after.machine.next ≡ b → ((q : Refusal) → Not (Given c q))
      → Taken c (pick b (Stopped (ran_in after)) (Done (ran_in after))) after.memory after.outputs after.trace
  going true b none =
      record {
        refused = λ q. (λ e. not_ten q (sym e), λ f. absurd (none q f.0));
        unchanged = λ q e. not_ten q (sym e);
        accepted = (λ e. none, λ n. inr refl);
        done = λ e. absurd (let no : ⊥ = omega (arith, e) in no);
        stopped = λ e. stop_is after.machine.next b;
        stops =
            λ e h.
            let g = goes_is c.machine.next h in
            let x = run_stops c.schedule c.inputs c.states (before c) g b in
            (x.0, omega (arith, x.1), x.2.0, x.2.1);
        again = λ s n. (refl, same (idle s));
        rest = λ i h. run_rest c.schedule c.inputs c.states (before c) i h;
      }
  going false b none =
      record {
        refused = λ q. (λ e. not_zero q (sym e), λ f. absurd (none q f.0));
        unchanged = λ q e. not_zero q (sym e);
        accepted = (λ e. none, λ n. inl refl);
        done = λ e. let x = run_count c.schedule c.inputs c.states (before c) b in omega (arith, x);
        stopped = λ e. absurd (let no : ⊥ = omega (arith, e) in no);
        stops = λ e h. absurd (let no : ⊥ = omega (arith, e) in no);
        again = λ s n. absurd (false≢true (sym b ∙ still s));
        rest = λ i h. run_rest c.schedule c.inputs c.states (before c) i h;
      }

  by_verdict : (v : Result (Unit {0}) Refusal) → Sound c v
      → Taken c (answer_by v after (before c)) (left_by v after (before c)).memory (left_by v after (before c)).outputs
      (left_by v after (before c)).trace
  unfolding answered_of
  by_verdict (Ok u) s = going (stopped_of after.machine.next) refl s
  by_verdict (Err q) s = refusing q s

  allowed : (r : Answer) (x o l : List ℕ) → Allowed c r x o l → Taken c r x o l
  unfolding answer_of left_of
  allowed r x o l p =
      rw (p.answer, p.memory, p.outputs, p.trace)
      (by_verdict (verdict_of (before c) c.inputs c.schedule c.states) (verdict_sound c))

pub run_refuses : Refuses
run_refuses =
    record {
      taken = λ c r x o l p. allowed c r x o l p;
      once =
          λ c r r' x o l x' o' l' p q.
          let e = run_unique c.machine c.memory c.inputs c.outputs c.schedule c.trace c.states
          r r' x o l x' o' l' p q in
          (e.answer, e.memory, e.outputs, e.trace);
    }
