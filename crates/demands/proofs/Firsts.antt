-- What the states before T3 do: T1, T2 and the waits. Here cycles count from 0. Assumes nothing.
use Prim.Native.Nat.{ℕ, suc}
use mathlib.Core.Path.{◌≡◌, refl}
use mathlib.Core.Bool.{Bool, true, false, ◌&&◌}
use Rattle.opcodes.specs.Cycles.{code_of}
use Rattle.opcodes.specs.Kinds.{waits_of}
use Rattle.machine.specs.declared.record.Position.TheVariants.{Fetch, Later, Wait}
use Rattle.demands.specs.Outside.{Outside, Moment, did, down}
use Rattle.demands.proofs.Work.{Work, risen, here}
use Rattle.demands.proofs.Steps.{step, opening}

and_false : (b : Bool) → (b && false) ≡ false
and_false true = refl
and_false false = refl

module _ (E : Outside) (d : Work) (c : ℕ) (t : Moment) where
  -- T1 of a fetch, and of a later cycle
  pub fetch_first : step E (here d Fetch t) ≡ here d (Later 1 2) (did E t)
  unfolding opening
  fetch_first = refl

  pub later_first : step E (here d (Later (suc c) 1) t) ≡ here d (Later (suc c) 2) (did E t)
  unfolding opening
  later_first = refl

  -- T2
  module _ (code : ℕ) (e : code_of d.kept.opcode (suc c) ≡ code) where
    pub second_on : waits_of code ≡ false → step E (here d (Later (suc c) 2) t) ≡ here (risen code d) (Later (suc c) 3) (did E t)
    unfolding opening
    second_on w = rw (e, w)

    pub second_up : down E t.clock ≡ false
        → step E (here d (Later (suc c) 2) t) ≡ here (risen code d) (Later (suc c) 3) (did E t)
    unfolding opening
    second_up h = rw (e, h, and_false (waits_of code))

    pub second_down : waits_of code ≡ true → down E t.clock ≡ true
        → step E (here d (Later (suc c) 2) t) ≡ here (risen code d) (Wait (suc c)) (did E t)
    unfolding opening
    second_down w h = rw (e, w, h)

  -- a wait, with READY down and up
  pub wait_on : down E t.clock ≡ true → step E (here d (Wait (suc c)) t) ≡ here d (Wait (suc c)) (did E t)
  unfolding opening
  wait_on h = rw h

  pub wait_off : down E t.clock ≡ false → step E (here d (Wait (suc c)) t) ≡ here d (Later (suc c) 3) (did E t)
  unfolding opening
  wait_off h = rw h
