-- The saved form: 24 bytes, the output ports, memory. Source: document 01, "Saved machine". Cited by `saved::header` and `save`.
use Rattle.std.specs.Prelude.{ℕ, ◌/◌, ◌%◌, Bool, List, [], ◌∷◌, ◌++◌, Option, Some, None, is_some, unwrap_or}
use Rattle.alu.specs.Flags.{bit_of}
use Rattle.opcodes.specs.declared.cycle.Acknowledge.{Acknowledge}
use Rattle.opcodes.specs.declared.cycle.Acknowledge.TheVariants as ack
use Rattle.effect.specs.declared.kept.Kept.{Kept}
use Rattle.effect.specs.declared.registers.Registers.{Registers}
use Rattle.machine.specs.declared.record.Lines.{Lines}
use Rattle.machine.specs.declared.record.Position.{Position}
use Rattle.machine.specs.declared.record.Position.TheVariants.{Fetch, Later, Wait, Hold, Halt, Stop}
use Rattle.machine.specs.declared.record.Machine.{Machine}

-- "mode (0 fetch next, 1 halted, 2 stopped)", where one applies: "with an acknowledge's T1 next, none does"
unfoldable pub fetch_mode : Acknowledge → Option ℕ
fetch_mode ack.None = Some 0
fetch_mode ack.Running = None
fetch_mode ack.Halted = None

unfoldable pub mode_of : Kept → Position → Option ℕ
mode_of k Fetch = fetch_mode k.ack
mode_of k (Later c s) = None
mode_of k (Wait c) = None
mode_of k (Hold c) = None
mode_of k Halt = Some 1
mode_of k Stop = Some 2

-- ""Between instructions" means mode 0, 1 or 2 applies"
unfoldable pub between_of : Machine → Bool
between_of m = is_some (mode_of m.kept m.next)

-- a number of two bytes and one of four, low first
abbrev pub two_bytes : ℕ → List ℕ
two_bytes v = v % 256 ∷ v / 256 ∷ []

abbrev pub four_bytes : ℕ → List ℕ
four_bytes v = v % 256 ∷ v / 256 % 256 ∷ v / 65536 % 256 ∷ v / 16777216 ∷ []

-- "A, flags, B, C, D, E, H, L, SP, PC (low first), INTE"
abbrev pub register_bytes : Registers → List ℕ
register_bytes r =
    r.a ∷ r.f ∷ r.b ∷ r.c ∷ r.d ∷ r.e ∷ r.h ∷ r.l ∷ (two_bytes r.sp ++ two_bytes r.pc ++ bit_of r.inte ∷ [])

-- "READY, HOLD, INT, three zeros"
abbrev pub line_bytes : Lines → List ℕ
line_bytes l = l.ready ∷ l.hold ∷ l.int ∷ 0 ∷ 0 ∷ 0 ∷ []

-- the 24 bytes of the machine m: its registers, the byte what, "clock (4, low first)", its lines
unfoldable pub header_with : ℕ → Machine → List ℕ
header_with what m = register_bytes m.regs ++ what ∷ (four_bytes m.clock ++ line_bytes m.lines)

-- its header in the saved form, where that byte is "mode", and 3 where none applies
unfoldable pub header_of : Machine → List ℕ
header_of m = header_with (unwrap_or (mode_of m.kept m.next) 3) m

-- "Then 256 output ports, then memory"
unfoldable pub saved_of : Machine → List ℕ → List ℕ → List ℕ
saved_of m outputs memory = header_of m ++ outputs ++ memory
