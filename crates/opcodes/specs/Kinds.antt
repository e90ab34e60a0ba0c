-- What a cycle's code says: its kind and status, its states, and what READY and PC do in it.
-- Source: document 01, "Cycles" and "Waits, holds, interrupts, halt". Cited by `opcodes::cycle`.
use Rattle.std.specs.Prelude.{ℕ, ◌+◌, ◌/◌, ◌%◌, Bool, true, false, not, ◌&&◌, ◌||◌, List, [], ◌∷◌, eqb, ltb, leb, get_or}
use Rattle.laws.specs.Choice.{pick}
use Rattle.opcodes.specs.Codes.{operand, halting, swap_l}
use Rattle.opcodes.specs.declared.cycle.Acknowledge.{Acknowledge}
use Rattle.opcodes.specs.declared.cycle.Acknowledge.TheVariants.{None, Running, Halted}

-- the kind of a cycle that reads, by the code's first digit
abbrev pub read_kind : ℕ → ℕ
read_kind digit = get_or (0 ∷ 1 ∷ 2 ∷ 2 ∷ 2 ∷ 2 ∷ 2 ∷ 4 ∷ 4 ∷ 4 ∷ 4 ∷ 6 ∷ 9 ∷ 11 ∷ 0 ∷ 0 ∷ []) digit 0

-- the kind of a fetch: 8 in an acknowledge from running, 10 in one from halt
abbrev pub fetch_kind : Acknowledge → ℕ
fetch_kind None = 1
fetch_kind Running = 8
fetch_kind Halted = 10

abbrev pub is_fetch : ℕ → Bool
is_fetch code = eqb (code / 16) 1

-- a byte goes out: memory, the stack or a port is addressed, and the second digit says which byte
unfoldable pub writes_of : ℕ → Bool
writes_of code = leb operand code && ltb code halting && not (eqb (code % 16) 0)

-- the kind: a write is numbered after the read of the same sort (2 and 3, 4 and 5, 6 and 7)
unfoldable pub kind_of : ℕ → Acknowledge → ℕ
kind_of code ack =
    pick (is_fetch code) (fetch_kind ack) (pick (writes_of code) (read_kind (code / 16) + 1) (read_kind (code / 16)))

-- the status byte of a kind, 1 to 11
abbrev pub statuses : List ℕ
statuses = 0x00 ∷ 0xA2 ∷ 0x82 ∷ 0x00 ∷ 0x86 ∷ 0x04 ∷ 0x42 ∷ 0x10 ∷ 0x23 ∷ 0x8A ∷ 0x2B ∷ 0x00 ∷ []

unfoldable pub status_of : ℕ → ℕ
status_of kind = get_or statuses kind 0

-- the states of a cycle: a fetch says how many; "other cycles have 3; XTHL's last has 5"
unfoldable pub states_of : ℕ → ℕ
states_of code = pick (is_fetch code) (code % 16) (pick (eqb code swap_l) 5 3)

-- "READY counts in T2 and waits of kinds 1 to 8 and 10"
abbrev pub ready_counts : ℕ → Bool
ready_counts kind = (leb 1 kind && leb kind 8) || eqb kind 10

unfoldable pub waits_of : ℕ → Bool
waits_of code = ready_counts (kind_of code None)

-- a byte comes in: kinds 1, 2, 4 and 6, and a fetch as an acknowledge
unfoldable pub reads_of : ℕ → Bool
reads_of code =
    eqb (kind_of code None) 1 || eqb (kind_of code None) 2 || eqb (kind_of code None) 4 || eqb (kind_of code None) 6

abbrev pub is_none : Acknowledge → Bool
is_none None = true
is_none Running = false
is_none Halted = false

-- "PC rises in T2 of a fetch and of an operand read, never in an acknowledge"
unfoldable pub raises_of : ℕ → Acknowledge → Bool
raises_of code ack = eqb code operand || (is_fetch code && is_none ack)
