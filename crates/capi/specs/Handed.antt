-- The machine of a record z. Source: docs/RECORD.md. Cited by `capi::handed`.
use Rattle.std.specs.Prelude.{ℕ, Bool, false, ◌&&◌, ◌||◌, List, [], ◌∷◌, length, get_or, eqb, leb}
use Rattle.laws.specs.Choice.{pick}
use Rattle.opcodes.specs.declared.cycle.Acknowledge.{Acknowledge}
use Rattle.opcodes.specs.declared.cycle.Acknowledge.TheVariants.{None, Running, Halted}
use Rattle.effect.specs.declared.kept.Kept.{Kept}
use Rattle.machine.specs.declared.record.Position.{Position}
use Rattle.machine.specs.declared.record.Position.TheVariants.{Fetch, Later, Wait, Hold, Halt, Stop}
use Rattle.machine.specs.declared.record.Machine.{Machine}
use Rattle.machine.specs.Record.{cold_of, with_regs}
use Rattle.schedule.specs.Events.{all}
use Rattle.saved.specs.Fields.{long_at, registers_in, lines_in}

-- what comes next, by its byte, with the cycle c and the state s
unfoldable pub position_in : ℕ → ℕ → ℕ → Position
position_in what c s = get_or (Fetch ∷ Halt ∷ Stop ∷ Later c s ∷ Wait c ∷ []) what (Hold c)

-- the acknowledge by its byte
unfoldable pub acknowledge_in : ℕ → Acknowledge
acknowledge_in n = get_or (None ∷ Running ∷ []) n Halted

-- what is kept inside an instruction
unfoldable pub kept_in : List ℕ → Kept
kept_in z =
    record {
      opcode = get_or z 26 0;
      ack = acknowledge_in (get_or z 27 0);
      rst = get_or z 28 0;
      b1 = get_or z 29 0;
      b2 = get_or z 30 0;
      b3 = get_or z 31 0;
      b4 = get_or z 32 0;
    }

-- the machine that the bytes of z say
unfoldable pub recorded_of : List ℕ → Machine
recorded_of z =
    record {
      regs = registers_in z;
      kept = kept_in z;
      lines = lines_in z;
      clock = long_at z 14;
      next = position_in (get_or z 13 0) (get_or z 24 0) (get_or z 25 0);
    }

-- the byte i is 0
abbrev pub zero_at : List ℕ → ℕ → Bool
zero_at z i = eqb (get_or z i 0) 0

-- a cycle c and a state s are named only where what comes next has them
unfoldable pub place_fits : ℕ → ℕ → ℕ → Bool
place_fits what c s = (leb 3 what || eqb c 0) && (eqb what 3 || eqb s 0)

-- each byte is inside its range: INTE, what comes next, the acknowledge, the place, the zeros
unfoldable pub formed_of : List ℕ → Bool
formed_of z =
    leb (get_or z 12 0) 1
    && leb (get_or z 13 0) 5
    && leb (get_or z 27 0) 2
    && place_fits (get_or z 13 0) (get_or z 24 0) (get_or z 25 0)
    && all (zero_at z) 3 21
    && all (zero_at z) 31 33

-- a machine that is ill formed, by a fixed bit of its flag byte
unfoldable pub broken_of : Machine
broken_of =
    with_regs
    (record { a = 0; f = 0; b = 0; c = 0; d = 0; e = 0; h = 0; l = 0; sp = 0; pc = 0; inte = false })
    cold_of

-- the machine of the record z; of a malformed one, a machine that is ill formed
unfoldable pub handed_of : List ℕ → Machine
handed_of z = pick (eqb (length z) 64 && formed_of z) (recorded_of z) broken_of
