-- What a halt state does, and the holds after it. Assumes nothing.
use Prim.Native.Nat.{◌+◌}
use mathlib.Core.Path.{◌≡◌, ap}
use mathlib.Core.Bool.{true, false}
use Rattle.opcodes.specs.Cycles.{cycling}
use Rattle.effect.specs.Kept.{keep_of}
use Rattle.machine.specs.declared.record.Position.TheVariants.{Hold, Halt}
use Rattle.machine.specs.Cycle.{after_of, cycles_of}
use Rattle.machine.specs.Ending.{takes_of, acknowledge_of, clear_of, ended_of, follow_of, hold_of}
use Rattle.machine.specs.Step.{halted_of}
use Rattle.demands.specs.Outside.{Outside, Moment, did, up}
use Rattle.demands.proofs.Work.{Work, here}
use Rattle.demands.specs.Manual.{Result}
use Rattle.demands.specs.Legs.{afterwards}
use Rattle.demands.proofs.Steps.{step, with, opening, ended_clock}
use Rattle.demands.proofs.Lasts.{hold_off}

-- the work in the holds after a halt state
abbrev pub halted : Work → Work
halted d = record { regs = d.regs; kept = keep_of 1 0x76 d.kept; memory = d.memory; outputs = d.outputs }

abbrev pub kept_all : Work → Result
kept_all d = record { regs = d.regs; memory = d.memory; outputs = d.outputs }

module _ (E : Outside) (d : Work) (t : Moment) where
  pub halt_on : up E t.clock ≡ true → step E (here d Halt t) ≡ here (halted d) (Hold 2) (did E t)
  unfolding opening halted_of hold_of
  halt_on h = rw h

  pub halt_off : up E t.clock ≡ false → step E (here d Halt t) ≡ afterwards 0x76 (kept_all d) (did E t)
  unfolding opening halted_of hold_of follow_of ended_of takes_of acknowledge_of clear_of keep_of
  halt_off h =
      rw h
      (ap (with d)
      (ended_clock (t.clock + 1)
      (here (halted d) Halt (record { lines = (did E t).lines; clock = t.clock })).machine))

  pub halt_held : up E t.clock ≡ false → step E (here (halted d) (Hold 2) t) ≡ afterwards 0x76 (kept_all d) (did E t)
  unfolding follow_of ended_of takes_of acknowledge_of clear_of keep_of after_of cycles_of cycling
  halt_held h = hold_off E (halted d) 1 t h
