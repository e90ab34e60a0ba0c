-- First laws of one state: the cold machine is well formed, the clock counts, a stopped machine stays as it is.
-- Assumes nothing.
use Rattle.std.proofs.Common.{◌≡◌, ℕ, ◌+◌, ◌%◌, false, T, sym, refl, subst}
use Rattle.opcodes.specs.Cycles.{cycling}
use Rattle.effect.specs.Kept.{kept_for}
use Rattle.machine.specs.declared.record.Position.{Position}
use Rattle.machine.specs.declared.record.Position.TheVariants.{Stop}
use Rattle.machine.specs.declared.record.Machine.{Machine}
use Rattle.machine.specs.Record.{cold_of, stopped_of, ticked_of, with_clock}
use Rattle.machine.specs.Step.{moved_of, step_of}
use Rattle.machine.specs.Well.{fixed_of, levels_listed, there_of, cycles_done, acked_of, bytes_of, zero_or_read, idle_of, well_of}

-- the cold machine is well formed
pub cold_well : T (well_of cold_of)
unfolding cold_of kept_for well_of fixed_of levels_listed there_of cycles_done acked_of bytes_of zero_or_read idle_of cycling
cold_well = tt

-- each state of a machine that has not stopped counts one on the clock, modulo 4,294,967,296
pub clock_rises : (v : ℕ) (m : Machine) → stopped_of m.next ≡ false → (step_of v m).clock ≡ (m.clock + 1) % 4294967296
unfolding step_of ticked_of with_clock
clock_rises v m h = rw h

-- a stopped machine stays as it is, its clock too
pub stopped_stays : (v : ℕ) (m : Machine) → m.next ≡ Stop → step_of v m ≡ m
unfolding step_of stopped_of ticked_of moved_of with_clock
stopped_stays v m e =
    subst (λ (p : Position). with_clock (ticked_of p m.clock) (moved_of p v m) ≡ m) (sym e) refl
