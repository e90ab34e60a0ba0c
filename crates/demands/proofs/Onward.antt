-- One state more of an instruction goes on with it, ends it or stops the machine. Here cycles count from 0. Assumes nothing.
use Prim.Native.Nat.{ℕ, suc, ◌+◌}
use mathlib.Core.Path.{◌≡◌, refl, sym, ap, ◌∙◌, subst}
use mathlib.Core.Bool.{true, false}
use mathlib.Core.List.{List, [], ◌∷◌}
use mathlib.Core.Logic.{◌⊎◌, inl, inr, ⊎_elim}
use native.Mathlib.Omega.{arith}
use lib.Dec.{eqb, T}
use Rattle.opcodes.specs.Codes.{fetch4}
use Rattle.opcodes.specs.Cycles.{code_of, defined_of}
use Rattle.opcodes.specs.Kinds.{states_of, waits_of, kind_of}
use Rattle.opcodes.specs.Totals.{shape}
use Rattle.machine.specs.declared.record.Position.TheVariants.{Later}
use Rattle.demands.specs.Outside.{Outside, Moment, did, did_times}
use Rattle.demands.proofs.Work.{Work, risen, use_cycle}
use Rattle.demands.specs.Board.{Board}
use Rattle.demands.specs.Own.{own}
use Rattle.demands.proofs.Opcode.{use_opcode}
use Rattle.demands.proofs.Stretches.{bool}
use Rattle.demands.proofs.Steps.{step, size, next, Ending}
use Rattle.demands.proofs.Firsts.{fetch_first, later_first}
use Rattle.demands.proofs.Lasts.{third_end, third_on, third_fetch, third_stop}
use Rattle.demands.proofs.Courses.{shape_parts, later_size, course_shape}
use Rattle.demands.proofs.Phases.{Early, Third, early_step, Late, Over, Onward, last_step, late_step, second, fourth}
use Rattle.demands.proofs.Fetches.{fetch_opcode}
use Rattle.demands.proofs.Going.{op, cs, after_fetch, Sofar, Going, begin, reading, read, first, early, late, Next}
use Rattle.demands.proofs.Settling.{settle}
use Rattle.demands.proofs.Overs.{first_states, over_first, code_is, size_is, over_later}

module _ (E : Outside) (d₀ : Work) (t₀ : Moment) (e₀ : code_of d₀.kept.opcode 1 ≡ fetch4) where
  module _ (c : ℕ) (d : Work) (t : Moment) (i₀ o₀ x y : ℕ) (l : List ℕ) (s : Sofar E d₀ t₀ c d t i₀ o₀ x (y ∷ l)) where
    -- a state from T3 on
    onward : {b : Board} (i₁ o₁ i o : ℕ) → i ≡ i₀ + i₁ → o ≡ o₀ + o₁
        → Onward E (use_cycle E y (suc c) d) (suc c) y (states_of y) t b i₁ o₁
        → Next E d₀ t₀ (step E b) (suc i) (own b.machine.next + o)
    onward {b} i₁ o₁ i o p q (inl v) =
        inl
        (late c d t i₀ o₀ x y l s (suc i₁) (own b.machine.next + o₁) (suc i) (own b.machine.next + o) (omega arith)
        (omega arith) v)
    onward {b} i₁ o₁ i o p q (inr v) =
        subst (λ (z : ℕ). Next E d₀ t₀ (step E b) z (own b.machine.next + o))
        (let z : i₀ + suc i₁ ≡ suc i = omega arith in z)
        (subst (λ (z : ℕ). Next E d₀ t₀ (step E b) (i₀ + suc i₁) z)
        (let z : o₀ + (own b.machine.next + o₁) ≡ own b.machine.next + o = omega arith in z)
        (settle E d₀ t₀ (suc c) (use_cycle E y (suc c) d) (did_times E (suc i₁) t) (i₀ + suc i₁) _ y l
        (over_later E d₀ t₀ c d t i₀ o₀ x y l s v) (step E b) v.board))

    -- T3
    thirds : {b : Board} (i₁ o₁ i o : ℕ) → i ≡ i₀ + i₁ → o ≡ o₀ + o₁ → Third E d (suc c) y t b i₁ o₁
        → Next E d₀ t₀ (step E b) (suc i) (own b.machine.next + o)
    thirds {b} i₁ o₁ i o p q v =
        let is : own b.machine.next ≡ 1 = ap (λ (z : Board). own z.machine.next) v.board in
        ⊎_elim
        (λ (n : states_of y ≡ 3).
        onward i₁ o₁ i o p q
        (last_step E (use_cycle E y (suc c) d) (suc c) y (states_of y) t b i₁ o₁ v.W (Later (suc (suc c)) 3)
        (ap (step E) v.board
        ∙ third_end E (risen y d) c (did_times E i₁ t) y (code_is E d₀ t₀ c d t i₀ o₀ x y l s) (ap (λ (z : ℕ). eqb z 3) n)
        ∙ ap
        (λ (z : ℕ).
        Ending (suc c) (next (suc c) z (risen y d).regs) (Later (suc (suc c)) 3) (use_cycle E y (suc c) d) (did E (did_times E i₁ t)))
        (sym (use_opcode E y c d)))
        (omega (arith, v.count)) (omega arith) (omega (arith, v.owned)) v.waits))
        (λ (n : states_of y ≡ 5).
        inl
        (late c d t i₀ o₀ x y l s (suc i₁) 3 (suc i) (own b.machine.next + o) (omega arith) (omega (arith, v.owned))
        (subst (λ (z : Board). Late E (use_cycle E y (suc c) d) (suc c) y (states_of y) t z (suc i₁) 3)
        (sym
        (ap (step E) v.board
        ∙ third_on E (risen y d) c (did_times E i₁ t) y (code_is E d₀ t₀ c d t i₀ o₀ x y l s) (ap (λ (z : ℕ). eqb z 3) n)))
        (fourth v.W (suc i₁) (omega (arith, v.count)) v.waits (inr n)))))
        (later_size y l s.later)

  -- the first cycle has four or five states
  sized : (l : List ℕ) → defined_of (op E d₀) ≡ true → cs E d₀ ≡ l → T (shape l) → (size 0 (op E d₀) ≡ 4) ⊎ (size 0 (op E d₀) ≡ 5)
  sized [] d e s = absurd s
  sized (x ∷ l) d e s =
      let n = sym (first_states E d₀ x l d e) in
      ⊎_elim (λ q. inl (n ∙ q)) (λ q. inr (n ∙ q)) (shape_parts x l s).first

  pub first_size : defined_of (op E d₀) ≡ true → (size 0 (op E d₀) ≡ 4) ⊎ (size 0 (op E d₀) ≡ 5)
  first_size d = sized (cs E d₀) d refl (course_shape (op E d₀) d₀.regs.f d)

  -- T3 of the fetch
  third_first : {b : Board} (i o : ℕ) → Third E d₀ 0 fetch4 t₀ b i o → Next E d₀ t₀ (step E b) (suc i) (own b.machine.next + o)
  unfolding waits_of kind_of
  third_first {b} i o v =
      let is : own b.machine.next ≡ 1 = ap (λ (z : Board). own z.machine.next) v.board in
      ⊎_elim
      (λ (d : defined_of (op E d₀) ≡ true).
      inl
      (read d
      (subst (λ (z : ℕ). Late E (after_fetch E d₀) 0 fetch4 (size 0 (op E d₀)) t₀ (step E b) (suc i) z)
      (let z : 3 ≡ own b.machine.next + o = omega (arith, v.owned) in z)
      (subst (λ (z : Board). Late E (after_fetch E d₀) 0 fetch4 (size 0 (op E d₀)) t₀ z (suc i) 3)
      (sym (ap (step E) v.board ∙ third_fetch E (risen fetch4 d₀) 0 (did_times E i t₀) e₀ d))
      (fourth v.W (suc i) (omega (arith, v.count)) v.waits (first_size d))))))
      (λ (d : defined_of (op E d₀) ≡ false).
      inr
      (inr
      (record {
        undefined = d;
        w = v.W;
        waits = v.waits;
        count = omega (arith, v.count);
        owned = omega (arith, v.owned);
        board = ap (step E) v.board ∙ third_stop E (risen fetch4 d₀) 0 (did_times E i t₀) e₀ d;
      })))
      (bool (defined_of (op E d₀)))

  -- the end of the first cycle
  ends_first : (l : List ℕ) → defined_of (op E d₀) ≡ true → cs E d₀ ≡ l → T (shape l) → {b : Board} {i o : ℕ}
      → Over E (after_fetch E d₀) 0 fetch4 (size 0 (op E d₀)) t₀ b i o → Next E d₀ t₀ (step E b) (suc i) (own b.machine.next + o)
  ends_first [] d e s v = absurd s
  ends_first (x ∷ l) d e s {b} {i} {o} v =
      settle E d₀ t₀ 0 (after_fetch E d₀) (did_times E (suc i) t₀) (suc i) (own b.machine.next + o) x l
      (over_first E d₀ t₀ x l d e v) (step E b) v.board

  -- one state more
  pub going_step : {b : Board} {i o : ℕ} → Going E d₀ t₀ b i o → Next E d₀ t₀ (step E b) (suc i) (own b.machine.next + o)
  going_step begin =
      inl (subst (λ (z : Board). Going E d₀ t₀ z 1 1) (sym (fetch_first E d₀ 0 t₀)) (reading second))
  going_step (reading {b} {i} {o} v) =
      ⊎_elim (λ q. inl (reading q)) (λ q. third_first i o q) (early_step E d₀ 0 fetch4 t₀ e₀ v)
  going_step (read d v) =
      ⊎_elim (λ q. inl (read d q)) (λ q. ends_first (cs E d₀) d refl (course_shape (op E d₀) d₀.regs.f d) q)
      (late_step E (after_fetch E d₀) 0 fetch4 (size 0 (op E d₀)) t₀ (ap (size 0) (fetch_opcode E d₀)) v)
  going_step (first c d t i o x y l s) =
      inl
      (early c d t i o x y l s 1 1 (suc i) (1 + o) (omega arith) (omega arith)
      (subst (λ (z : Board). Early E d (suc c) y t z 1 1) (sym (later_first E d (suc c) t)) second))
  going_step (early {b} c d t i₀ o₀ x y l s i₁ o₁ i o p q v) =
      ⊎_elim
      (λ z.
      inl
      (early c d t i₀ o₀ x y l s (suc i₁) (own b.machine.next + o₁) (suc i) (own b.machine.next + o) (omega arith)
      (omega arith) z))
      (λ z. thirds c d t i₀ o₀ x y l s i₁ o₁ i o p q z)
      (early_step E d (suc c) y t (code_is E d₀ t₀ c d t i₀ o₀ x y l s) v)
  going_step (late {b} c d t i₀ o₀ x y l s i₁ o₁ i o p q v) =
      onward c d t i₀ o₀ x y l s i₁ o₁ i o p q
      (late_step E (use_cycle E y (suc c) d) (suc c) y (states_of y) t (size_is E d₀ t₀ c d t i₀ o₀ x y l s) v)
