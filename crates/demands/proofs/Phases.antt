-- A cycle state by state: where it is before T3 is done, and where after, with the rows that READY and HOLD have made so far.
-- Here cycles count from 0. Assumes nothing.
use Prim.Native.Nat.{ℕ, suc, ◌+◌, ◌-◌, ◌<◌}
use mathlib.Core.Path.{◌≡◌, refl, sym, ap, ◌∙◌, subst}
use mathlib.Core.Bool.{Bool, true, false}
use mathlib.Core.Logic.{◌⊎◌, inl, inr, ⊎_elim}
use native.Mathlib.Omega.{arith}
use native.Mathlib.Nat.{zero-add}
use lib.Dec.{eqb}
use Rattle.opcodes.specs.Cycles.{code_of}
use Rattle.opcodes.specs.Kinds.{waits_of}
use Rattle.machine.specs.declared.record.Position.{Position}
use Rattle.machine.specs.declared.record.Position.TheVariants.{Later, Wait, Hold}
use Rattle.demands.specs.Outside.{Outside, Moment, did, did_times, down, up}
use Rattle.demands.specs.Rows.{Through, Unbroken, Waits}
use Rattle.demands.proofs.Work.{Work, risen, here}
use Rattle.demands.specs.Board.{Board}
use Rattle.demands.specs.Own.{own}
use Rattle.demands.proofs.Stretches.{bool, clock_pass, through_none, row_next}
use Rattle.demands.proofs.Steps.{step, size, next, ended, Ending, Done}
use Rattle.demands.proofs.Firsts.{second_on, second_up, second_down, wait_on, wait_off}
use Rattle.demands.proofs.Lasts.{hold_on, end_on, end_off, held_off, fourth_end, fourth_on, fifth_end}

-- the cycle c with this code, begun at the moment t with the work d: after i states, o of them neither waits nor holds
module _ (E : Outside) (d : Work) (c code : ℕ) (t : Moment) where
  pub data Early : Board → ℕ → ℕ → Type 0 where
    second : Early (here d (Later (suc c) 2) (did_times E 1 t)) 1 1
    waiting : (j i : ℕ) → i ≡ 2 + j → waits_of code ≡ true → Through (down E) (t.clock + 1) (suc j)
        → Early (here (risen code d) (Wait (suc c)) (did_times E i t)) i 2
    third : (W i : ℕ) → i ≡ 2 + W → Waits (waits_of code) E (t.clock + 1) W
        → Early (here (risen code d) (Later (suc c) 3) (did_times E i t)) i 2

  -- T3 is next
  pub record Third (b : Board) (i o : ℕ) : Type 0 where
    pub W : ℕ
    pub count : i ≡ 2 + W
    pub owned : o ≡ 2
    pub waits : Waits (waits_of code) E (t.clock + 1) W
    pub board : b ≡ here (risen code d) (Later (suc c) 3) (did_times E i t)

  moved : {b b' : Board} {i o : ℕ} → b ≡ b' → Early b' i o → Early b i o
  moved {b} {b'} {i} {o} e h = subst (λ (x : Board). Early x i o) (sym e) h

  waits_as : (b : Bool) (W : ℕ) → waits_of code ≡ b → Waits b E (t.clock + 1) W → Waits (waits_of code) E (t.clock + 1) W
  waits_as b W e h = subst (λ (x : Bool). Waits x E (t.clock + 1) W) (sym e) h

  -- one state on, up to T3
  pub early_step : {b : Board} {i o : ℕ} → code_of d.kept.opcode (suc c) ≡ code → Early b i o
      → Early (step E b) (suc i) (own b.machine.next + o) ⊎ Third b i o
  early_step e second =
      ⊎_elim
      (λ (w : waits_of code ≡ true).
      row_next (down E) (t.clock + 1) 0 (t.clock + 1) (through_none (down E) _) (omega arith)
      (λ h r. inl (moved (second_down E d c (did_times E 1 t) code e w h) (waiting 0 2 refl w r)))
      (λ h r. inl (moved (second_up E d c (did_times E 1 t) code e h) (third 0 2 refl (waits_as true 0 w r)))))
      (λ (w : waits_of code ≡ false).
      inl (moved (second_on E d c (did_times E 1 t) code e w) (third 0 2 refl (waits_as false 0 w refl))))
      (bool (waits_of code))
  early_step e (waiting j i q w h) =
      row_next (down E) (t.clock + 1) (suc j) (did_times E i t).clock h (clock_pass E i t ∙ omega arith)
      (λ p r. inl (moved (wait_on E (risen code d) c (did_times E i t) p) (waiting (suc j) (suc i) (omega arith) w r)))
      (λ p r.
      inl
      (moved (wait_off E (risen code d) c (did_times E i t) p) (third (suc j) (suc i) (omega arith) (waits_as true (suc j) w r))))
  early_step e (third W i q h) = inr (record { W = W; count = q; owned = refl; waits = h; board = refl })

-- the same from T4 on, where the cycle has s states, and u is the work after T3
module _ (E : Outside) (u : Work) (c code s : ℕ) (t : Moment) where
  pub data Late : Board → ℕ → ℕ → Type 0 where
    fourth : (W i : ℕ) → i ≡ 3 + W → Waits (waits_of code) E (t.clock + 1) W → (s ≡ 4) ⊎ (s ≡ 5)
        → Late (here u (Later (suc c) 4) (did_times E i t)) i 3
    fifth : (W i : ℕ) → i ≡ 4 + W → Waits (waits_of code) E (t.clock + 1) W → s ≡ 5
        → Late (here u (Later (suc c) 5) (did_times E i t)) i 4
    holding : (W j i : ℕ) → 0 < s → i ≡ s + W + j → Waits (waits_of code) E (t.clock + 1) W
        → Through (up E) (t.clock + (s + W - 1)) (suc j)
        → Late (here (ended c u) (Hold (suc c)) (did_times E i t)) i s

  -- the state of b is the last of the cycle and its holds
  pub record Over (b : Board) (i o : ℕ) : Type 0 where
    pub W : ℕ
    pub H : ℕ
    pub waits : Waits (waits_of code) E (t.clock + 1) W
    pub holds : Unbroken (up E) (t.clock + (s + W - 1)) H
    pub count : suc i ≡ s + W + H
    pub owned : own b.machine.next + o ≡ s
    pub board : step E b ≡ Done c u (did_times E (suc i) t)

  -- one state on from b, or the end
  abbrev pub Onward : Board → ℕ → ℕ → Type 0
  Onward b i o = Late (step E b) (suc i) (own b.machine.next + o) ⊎ Over b i o

  turned : {b : Board} {i o o' : ℕ} (b' : Board) → step E b ≡ b' → own b.machine.next + o ≡ o' → Late b' (suc i) o' → Onward b i o
  turned {b} {i} {o} {o'} b' e q h =
      inl
      (subst (λ (x : Board). Late x (suc i) (own b.machine.next + o)) (sym e)
      (subst (λ (x : ℕ). Late b' (suc i) x) (sym q) h))

  -- the last state of the cycle, or a hold after it
  hold_step : (b : Board) (i o W j : ℕ) → suc i ≡ s + W + j → 0 < s → own b.machine.next + o ≡ s
      → Waits (waits_of code) E (t.clock + 1) W → Through (up E) (t.clock + (s + W - 1)) j
      → (up E (did_times E i t).clock ≡ true → step E b ≡ here (ended c u) (Hold (suc c)) (did_times E (suc i) t))
      → (up E (did_times E i t).clock ≡ false → step E b ≡ Done c u (did_times E (suc i) t)) → Onward b i o
  hold_step b i o W j q z n w h on off =
      row_next (up E) (t.clock + (s + W - 1)) j (did_times E i t).clock h (clock_pass E i t ∙ omega arith)
      (λ p r. turned _ (on p) n (holding W j (suc i) z q w r))
      (λ p r. inr (record { W = W; H = j; waits = w; holds = r; count = q; owned = n; board = off p }))

  pub last_step : (b : Board) (i o W : ℕ) (p : Position)
      → step E b ≡ Ending c (next c u.kept.opcode u.regs) p u (did E (did_times E i t)) → suc i ≡ s + W
      → 0 < s → own b.machine.next + o ≡ s → Waits (waits_of code) E (t.clock + 1) W → Onward b i o
  last_step b i o W p e q z n w =
      hold_step b i o W 0 (omega arith) z n w (through_none (up E) _) (λ h. e ∙ end_on E u c (did_times E i t) p h)
      (λ h. e ∙ end_off E u c (did_times E i t) p h)

  pub late_step : {b : Board} {i o : ℕ} → size c u.kept.opcode ≡ s → Late b i o → Onward b i o
  late_step e (fourth W i q w (inl h)) =
      last_step _ i 3 W (Later (suc c) 4)
      (fourth_end E u c (did_times E i t) (ap (λ (n : ℕ). eqb n 4) (e ∙ h)))
      (omega arith) (omega arith) (omega arith) w
  late_step e (fourth W i q w (inr h)) =
      turned (here u (Later (suc c) 5) (did_times E (suc i) t)) (fourth_on E u c (did_times E i t) (ap (λ (n : ℕ). eqb n 4) (e ∙ h))) refl
      (fifth W (suc i) (omega arith) w h)
  late_step e (fifth W i q w h) =
      last_step _ i 4 W (Later (suc c) 5) (fifth_end E u c (did_times E i t)) (omega arith) (omega arith) (omega arith) w
  late_step e (holding W j i z q w h) =
      hold_step _ i s W (suc j) (omega arith) z (zero-add s) w h (λ p. hold_on E (ended c u) c (did_times E i t) p)
      (λ p. held_off E u c (did_times E i t) p)
