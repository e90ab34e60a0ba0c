-- What a saved form s says, and the ranges of its fields. Source: document 01, "Saved machine" and number 13.
-- Cited by `saved::fields` and `load`.
use Rattle.std.specs.Prelude.{ℕ, ◌+◌, ◌*◌, Bool, ◌&&◌, List, eqb, leb, get_or, take, drop}
use Rattle.laws.specs.Choice.{pick}
use Rattle.opcodes.specs.declared.cycle.Acknowledge.TheVariants.{None}
use Rattle.effect.specs.declared.registers.Registers.{Registers}
use Rattle.effect.specs.Kept.{kept_for}
use Rattle.machine.specs.declared.record.Lines.{Lines}
use Rattle.machine.specs.declared.record.Position.{Position}
use Rattle.machine.specs.declared.record.Position.TheVariants.{Fetch, Halt, Stop}
use Rattle.machine.specs.declared.record.Machine.{Machine}
use Rattle.machine.specs.Well.{fixed_of, levels_listed}

-- the two bytes and the four bytes from i on, low first
unfoldable pub word_at : List ℕ → ℕ → ℕ
word_at s i = get_or s i 0 + 256 * get_or s (i + 1) 0

unfoldable pub long_at : List ℕ → ℕ → ℕ
long_at s i =
    get_or s i 0 + 256 * get_or s (i + 1) 0 + 65536 * get_or s (i + 2) 0 + 16777216 * get_or s (i + 3) 0

-- the registers and the levels
unfoldable pub registers_in : List ℕ → Registers
registers_in s =
    record {
      a = get_or s 0 0;
      f = get_or s 1 0;
      b = get_or s 2 0;
      c = get_or s 3 0;
      d = get_or s 4 0;
      e = get_or s 5 0;
      h = get_or s 6 0;
      l = get_or s 7 0;
      sp = word_at s 8;
      pc = word_at s 10;
      inte = eqb (get_or s 12 0) 1;
    }

unfoldable pub lines_in : List ℕ → Lines
lines_in s = record { ready = get_or s 18 0; hold = get_or s 19 0; int = get_or s 20 0 }

-- what comes next: "mode (0 fetch next, 1 halted, 2 stopped)"
unfoldable pub position_of : ℕ → Position
position_of mode = pick (eqb mode 0) Fetch (pick (eqb mode 1) Halt Stop)

-- the machine: between instructions nothing is kept
unfoldable pub machine_in : List ℕ → Machine
machine_in s =
    record {
      regs = registers_in s;
      kept = kept_for None 0;
      lines = lines_in s;
      clock = long_at s 14;
      next = position_of (get_or s 13 0);
    }

-- the output ports and memory
abbrev pub ports_in : List ℕ → List ℕ
ports_in s = take 256 (drop 24 s)

abbrev pub memory_in : List ℕ → List ℕ
memory_in s = drop 280 s

-- each field is inside its range: "13 covers fixed flag bits, INTE, mode, levels and the three zeros"
unfoldable pub in_range : List ℕ → Bool
in_range s =
    fixed_of (get_or s 1 0)
    && leb (get_or s 12 0) 1
    && leb (get_or s 13 0) 2
    && levels_listed (lines_in s)
    && eqb (get_or s 21 0) 0
    && eqb (get_or s 22 0) 0
    && eqb (get_or s 23 0) 0
