-- The packed table: an entry of twelve hex digits an opcode. Two for the code of each of cycles 1 to 5, then how many cycles
-- there are with the condition met, and with it not met. Cited by `opcodes::table` and `opcodes::entry`.
use Rattle.std.specs.Prelude.{ℕ, ◌+◌, ◌-◌, ◌*◌, ◌/◌, ◌%◌, ◌^◌, Bool, true, false, not, ◌&&◌, List, eqb, leb}
use Rattle.laws.specs.Choice.{pick}
use Rattle.laws.specs.Lists.{tabulate}
use Rattle.opcodes.specs.Cycles.{code_of, count_of}

-- the entry of an opcode, by the rule
unfoldable pub entry_of : ℕ → ℕ
entry_of op =
    code_of op 1 * 256 ^ 5 + code_of op 2 * 256 ^ 4 + code_of op 3 * 256 ^ 3 + code_of op 4 * 256 ^ 2 + code_of op 5 * 256
    + count_of op true * 16
    + count_of op false

-- all 256 of them
unfoldable pub entries : List ℕ
entries = tabulate entry_of 256 0

-- what stands in an entry p: the code of cycle c, the number of cycles, whether the opcode is defined
unfoldable pub code_in : ℕ → ℕ → ℕ
code_in p c = pick (leb 1 c && leb c 5) (p / 2 ^ (48 - 8 * c) % 256) 0

unfoldable pub count_in : ℕ → Bool → ℕ
count_in p met = pick met (p / 16 % 16) (p % 16)

unfoldable pub defined_in : ℕ → Bool
defined_in p = not (eqb p 0)
