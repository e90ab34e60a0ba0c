-- Where an instruction, an acknowledge or a halt state begins. Source: document 01, "Saved machine". Cited by the statements.
use Rattle.std.specs.Prelude.{◌≡◌, Bool, true, false}
use Rattle.opcodes.specs.Kinds.{is_none}
use Rattle.machine.specs.declared.record.Position.{Position}
use Rattle.machine.specs.declared.record.Position.TheVariants.{Fetch, Later, Wait, Hold, Halt, Stop}
use Rattle.machine.specs.declared.record.Machine.{Machine}

-- T1 of a fetch or of an acknowledge, or a halt state, is next
abbrev pub begins : Position → Bool
begins Fetch = true
begins (Later c s) = false
begins (Wait c) = false
begins (Hold c) = false
begins Halt = true
begins Stop = false

-- the machine is between instructions and has not stopped: "with an acknowledge's T1 next, none does"
abbrev pub Beginning : Machine → Type 0
Beginning m = (begins m.next ≡ true) × (is_none m.kept.ack ≡ true)

-- the acknowledge cycle begins
abbrev pub Acknowledges : Machine → Type 0
Acknowledges m = (m.next ≡ Fetch) × (is_none m.kept.ack ≡ false)
