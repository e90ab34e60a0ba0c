-- A state's row of the trace. Source: document 01, "Trace". Cited by `machine::row`.
use Rattle.std.specs.Prelude.{ℕ, ◌+◌, ◌*◌, ◌/◌, ◌%◌, Bool, ◌==◌, nat_lt}
use Rattle.laws.specs.Choice.{pick}
use Rattle.alu.specs.Flags.{bit_of}
use Rattle.opcodes.specs.Kinds.{status_of}
use Rattle.machine.specs.declared.record.Lines.{Lines}
use Rattle.machine.specs.declared.record.Machine.{Machine}
use Rattle.machine.specs.declared.look.Look.{Look}
use Rattle.machine.specs.declared.row.Row.{Row}
use Rattle.machine.specs.Look.{place_of, stands_of, first_pc_of, shown_of, look_at, look_of}
use Rattle.machine.specs.Request.{restart_of, asked_of, request_of}

-- "levels (bits 0 to 3: READY, HOLD, INT, INTE after the events)"
unfoldable pub levels_of : Lines → Bool → ℕ
levels_of l inte = bit_of (l.ready == 1) + 2 * bit_of (l.hold == 1) + 4 * bit_of (nat_lt l.int 8) + 8 * bit_of inte

-- the eight bytes of the trace; v is the byte on the bus: read, written, or 0 where there is none
unfoldable pub row_of : Look → ℕ → Machine → Row
row_of y v m =
    record {
      state = y.state;
      kind = y.kind;
      low = y.address % 256;
      high = y.address / 256;
      byte = pick (y.state == 3) v 0;
      status = pick (y.state == 1) (status_of y.kind) 0;
      cycle = y.cycle;
      levels = levels_of m.lines m.regs.inte;
    }

-- one name that opens what a state shows
unfoldable pub showing : ℕ
unfolding place_of stands_of first_pc_of shown_of look_at look_of restart_of asked_of request_of levels_of row_of
showing = 0
