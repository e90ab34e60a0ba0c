-- Document 01's sample program, 3E 05 76 from a cold start: when A changes, computed from the rules. Its printed lines are in
-- `demands`, of the contract of `run`.
-- Assumes nothing.
use Rattle.std.proofs.Common.{◌≡◌, ℕ, zero, suc, List, [], ◌∷◌, get_or, refl}
use Rattle.opcodes.specs.Condition.{met_of}
use Rattle.opcodes.specs.Cycles.{cycling}
use Rattle.opcodes.specs.Kinds.{writes_of, kind_of, status_of, states_of, waits_of, reads_of, raises_of}
use Rattle.effect.specs.Registers.{reg_of, with_reg}
use Rattle.effect.specs.Pairs.{pair_of, pair_high_of, pair_low_of}
use Rattle.effect.specs.Kept.{kept_for, keep_of, wz_of}
use Rattle.effect.specs.Bus.{address_of, given_of}
use Rattle.effect.specs.Effect.{finish, effect_of}
use Rattle.machine.specs.declared.record.Machine.{Machine}
use Rattle.machine.specs.declared.request.Request.{Request}
use Rattle.machine.specs.declared.request.Request.TheVariants.{Nothing, Read, Write, Input, Output, Restart}
use Rattle.machine.specs.Record.{cold_of}
use Rattle.machine.specs.Step.{step_of, stepping}
use Rattle.machine.specs.Look.{look_of}
use Rattle.machine.specs.Request.{request_of}
use Rattle.machine.specs.Row.{showing}

-- the byte on the bus, over a memory that is 0 past the list's end and input ports that are 0
byte_on : Request → List ℕ → ℕ
byte_on Nothing memory = 0
byte_on (Read a) memory = get_or memory a 0
byte_on (Write a b) memory = b
byte_on (Input p) memory = 0
byte_on (Output p b) memory = b
byte_on (Restart b) memory = b

-- what n states of a program that writes nothing leave
after : ℕ → List ℕ → Machine → Machine
after zero memory m = m
after (suc n) memory m = after n memory (step_of (byte_on (request_of (look_of m) m) memory) m)

program : List ℕ
program = 0x3E ∷ 0x05 ∷ 0x76 ∷ []

-- "All other registers .. change in the instruction's last state": A, after six states of MVI A and after the seventh
loaded_last : ((after 6 program cold_of).regs.a ≡ 0x00) × ((after 7 program cold_of).regs.a ≡ 0x05)
unfolding byte_on after program cold_of cycling met_of writes_of kind_of status_of states_of waits_of reads_of raises_of reg_of with_reg
    pair_of pair_high_of pair_low_of kept_for keep_of wz_of address_of given_of finish effect_of stepping showing
loaded_last = (refl, refl)
