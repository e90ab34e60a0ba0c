-- The record of a machine: 64 bytes, of which all but byte 13 of the first 24 are those of the saved form. Source:
-- docs/RECORD.md. Cited by `capi::flat`.
use Rattle.std.specs.Prelude.{ℕ, zero, suc, List, [], ◌∷◌, ◌++◌, length, eqb}
use Rattle.laws.specs.Choice.{pick}
use Rattle.opcodes.specs.declared.cycle.Acknowledge.{Acknowledge}
use Rattle.opcodes.specs.declared.cycle.Acknowledge.TheVariants.{None, Running, Halted}
use Rattle.effect.specs.declared.kept.Kept.{Kept}
use Rattle.machine.specs.declared.record.Position.{Position}
use Rattle.machine.specs.declared.record.Position.TheVariants.{Fetch, Later, Wait, Hold, Halt, Stop}
use Rattle.machine.specs.declared.record.Machine.{Machine}
use Rattle.machine.specs.Record.{next_number}
use Rattle.saved.specs.Header.{header_with}

-- the cycle and the state of what comes next, 0 where none is named
unfoldable pub cycle_byte : Position → ℕ
cycle_byte Fetch = 0
cycle_byte (Later c s) = c
cycle_byte (Wait c) = c
cycle_byte (Hold c) = c
cycle_byte Halt = 0
cycle_byte Stop = 0

unfoldable pub state_byte : Position → ℕ
state_byte Fetch = 0
state_byte (Later c s) = s
state_byte (Wait c) = 0
state_byte (Hold c) = 0
state_byte Halt = 0
state_byte Stop = 0

-- "whether this is an acknowledge (none, from running, from halt)"
unfoldable pub acknowledge_byte : Acknowledge → ℕ
acknowledge_byte None = 0
acknowledge_byte Running = 1
acknowledge_byte Halted = 2

-- what is kept inside an instruction
abbrev pub kept_bytes : Kept → List ℕ
kept_bytes k = k.opcode ∷ acknowledge_byte k.ack ∷ k.rst ∷ k.b1 ∷ k.b2 ∷ k.b3 ∷ k.b4 ∷ []

-- n zeros
abbrev pub noughts : ℕ → List ℕ
noughts zero = []
noughts (suc n) = 0 ∷ noughts n

-- behind the first 24 bytes: the place inside an instruction, what is kept, zeros
abbrev pub inside_bytes : Machine → List ℕ
inside_bytes m = cycle_byte m.next ∷ state_byte m.next ∷ (kept_bytes m.kept ++ noughts 31)

-- the 64 bytes of the machine m
unfoldable pub flat_of : Machine → List ℕ
flat_of m = header_with (next_number m.next) m ++ inside_bytes m

-- the record z with the machine m in it: a list that is no record stays
unfoldable pub record_with : List ℕ → Machine → List ℕ
record_with z m = pick (eqb (length z) 64) (flat_of m) z
