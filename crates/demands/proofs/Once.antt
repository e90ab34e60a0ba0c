-- What the levels force is one number, a leg goes one way, and trips of as many states have one tally. Assumes nothing.
use Prim.Native.Nat.{ℕ, ◌+◌, ◌-◌, ◌<◌}
use mathlib.Core.Path.{◌≡◌, refl, sym, ap, ap₂, ◌∙◌, subst}
use mathlib.Core.Bool.{true, false, true≢false}
use mathlib.Core.List.{List, [], ◌∷◌}
use native.Mathlib.Omega.{arith}
use Rattle.opcodes.specs.Cycles.{defined_of}
use Rattle.opcodes.specs.Kinds.{states_of, waits_of, is_none}
use Rattle.opcodes.specs.declared.cycle.Acknowledge.{Acknowledge}
use Rattle.opcodes.specs.declared.cycle.Acknowledge.TheVariants.{None}
use Rattle.effect.specs.declared.kept.Kept.{Kept}
use Rattle.effect.specs.Kept.{kept_for}
use Rattle.demands.specs.Outside.{Outside, did_times, up}
use Rattle.demands.specs.Rows.{Unbroken, Forced, none, one}
use Rattle.demands.specs.Board.{Board, moment_of}
use Rattle.demands.specs.States.{restart_states}
use Rattle.demands.specs.Legs.{Tally, tally, plus, states_in, afterwards, opcode_at, manual_at, states_at, restart_byte}
use Rattle.demands.specs.Legs.{restart_at, course_at}
use Rattle.demands.specs.Legs.{Leg, instruction, acknowledge, halt, Trip, stay, go}
use Rattle.demands.proofs.Stretches.{row_one, waits_one}
use Rattle.demands.proofs.Courses.{course_shape, course_total, shape_some}
use Rattle.demands.proofs.Openings.{fetch_halt}
use Rattle.demands.proofs.Results.{manual_states_lem}

module _ (E : Outside) where
  -- the waits and holds of a list of cycles
  pub forced_one : (cs : List ℕ) (t w h w' h' : ℕ) → Forced E cs t w h → Forced E cs t w' h' → (w ≡ w') × (h ≡ h')
  forced_one [] t _ _ _ _ none none = (refl, refl)
  forced_one (x ∷ cs) t _ _ _ _ (one {w = w} {h = h} W H a b c) (one {w = w'} {h = h'} W' H' a' b' c') =
      let e : W ≡ W' = waits_one (waits_of x) E (t + 1) W W' a a' in
      let f : H ≡ H' =
      row_one (up E) (t + (states_of x + W - 1)) H H' b
      (subst (λ (i : ℕ). Unbroken (up E) (t + (states_of x + i - 1)) H') (sym e) b') in
      let q : t + (states_of x + W' + H') ≡ t + (states_of x + W + H) = omega arith in
      let (p, r) =
      forced_one cs (t + (states_of x + W + H)) w h w' h' c (subst (λ (i : ℕ). Forced E cs i w' h') q c') in
      (omega arith, omega arith)

  -- a leg has a state at least
  some_total : (b : Board) → defined_of (opcode_at b) ≡ true → 0 < states_at b
  some_total b d =
      let e = course_total (opcode_at b) b.machine.regs.f d in
      let p = shape_some (course_at b (opcode_at b)) (course_shape (opcode_at b) b.machine.regs.f d) in
      let q = manual_states_lem E b in
      omega arith

  pub leg_some : (b b' : Board) (q : Tally) → Leg E b q b' → 0 < states_in q
  leg_some b _ _ (instruction w h e k d f) = let p = some_total b d in omega arith
  leg_some b _ _ (acknowledge a n w h z l i e k f) = omega arith
  leg_some b _ _ (halt h e r) = omega arith

  -- a record names an acknowledge or none
  named : {A : Type 0} (b : Board) (a : Acknowledge) (n m : ℕ) → is_none a ≡ false → b.machine.kept ≡ kept_for None m
      → b.machine.kept ≡ kept_for a n → A
  unfolding kept_for
  named b a n m z p q =
      absurd (true≢false (ap (λ (k : Kept). is_none k.ack) (sym p ∙ q) ∙ z))

  numbered : (b : Board) (a a' : Acknowledge) (n n' : ℕ) → b.machine.kept ≡ kept_for a n → b.machine.kept ≡ kept_for a' n'
      → n ≡ n'
  unfolding kept_for
  numbered b a a' n n' p q = ap (λ (k : Kept). k.rst) (sym p ∙ q)

  -- from one board a leg goes one way
  pub leg_one : (b : Board) (p q : Tally) (x y : Board) → Leg E b p x → Leg E b q y → (p ≡ q) × (x ≡ y)
  leg_one b _ _ _ _ (instruction w h e k d f) (instruction w' h' e' k' d' f') =
      let (s, t) = forced_one (course_at b (opcode_at b)) b.machine.clock w h w' h' f f' in (
        ap₂ (λ i j. tally (states_at b) i j 0) s t,
        ap₂ (λ i j. afterwards (opcode_at b) (manual_at E b) (did_times E (states_at b + i + j) (moment_of b))) s t,
      )
  leg_one b _ _ _ _ (acknowledge a n w h z l i e k f) (acknowledge a' n' w' h' z' l' i' e' k' f') =
      let m : n ≡ n' = numbered b a a' n n' k k' in
      let (s, t) =
      forced_one (course_at b (restart_byte n)) b.machine.clock w h w' h' f
      (subst (λ (i : ℕ). Forced E (course_at b (restart_byte i)) b.machine.clock w' h') (sym m) f') in (
        ap₂ (λ i j. tally restart_states i j 0) s t,
        ap₂ (λ i j. afterwards (restart_byte n) (restart_at E b n) (did_times E (restart_states + i + j) (moment_of b))) s t
            ∙ ap (λ i. afterwards (restart_byte i) (restart_at E b i) (did_times E (restart_states + w' + h') (moment_of b))) m,
      )
  leg_one b _ _ _ _ (halt h e r) (halt h' e' r') =
      let s : h ≡ h' = row_one (up E) b.machine.clock h h' r r' in (
        ap (λ i. tally 0 0 i 1) s,
        ap
            (λ i.
            afterwards 0x76 (record { regs = b.machine.regs; memory = b.memory; outputs = b.outputs })
            (did_times E (1 + i) (moment_of b)))
            s,
      )
  leg_one b _ _ _ _ (instruction w h e k d f) (acknowledge a n w' h' z l i e' k' f') = named b a n 0 z k k'
  leg_one b _ _ _ _ (instruction w h e k d f) (halt h' e' r) = fetch_halt b e e'
  leg_one b _ _ _ _ (acknowledge a n w h z l i e k f) (instruction w' h' e' k' d f') = named b a n 0 z k' k
  leg_one b _ _ _ _ (acknowledge a n w h z l i e k f) (halt h' e' r) = fetch_halt b e e'
  leg_one b _ _ _ _ (halt h e r) (instruction w h' e' k d f) = fetch_halt b e' e
  leg_one b _ _ _ _ (halt h e r) (acknowledge a n w h' z l i e' k f) = fetch_halt b e' e

  -- trips of as many states
  pub trip_one : (b : Board) (p q : Tally) (x y : Board) → Trip E b p x → Trip E b q y → states_in p ≡ states_in q
      → (p ≡ q) × (x ≡ y)
  trip_one b _ _ _ _ stay stay n = (refl, refl)
  trip_one b _ _ _ _ stay (go {b' = b'} {p = p} l t) n = absurd (let h = leg_some b b' p l in let no : ⊥ = omega arith in no)
  trip_one b _ _ _ _ (go {b' = b'} {p = p} l t) stay n = absurd (let h = leg_some b b' p l in let no : ⊥ = omega arith in no)
  trip_one b _ _ x y (go {b' = u} {p = p} {q = q} l t) (go {b' = u'} {p = p'} {q = q'} l' t') n =
      let (e, f) = leg_one b p p' u u' l l' in
      let m : states_in p ≡ states_in p' = ap states_in e in
      let (g, h) =
      trip_one u q q' x y t (subst (λ (z : Board). Trip E z q' y) (sym f) t') (omega arith) in
      (ap₂ plus e g, h)
