-- What is kept inside an instruction. Source: document 01, "The machine". Cited by `effect::kept`.
use Rattle.std.specs.Prelude.{ℕ, ◌==◌}
use Rattle.laws.specs.Choice.{pick}
use Rattle.opcodes.specs.declared.cycle.Acknowledge.{Acknowledge}
use Rattle.effect.specs.declared.kept.Kept.{Kept}
use Rattle.effect.specs.Registers.{word}

-- nothing read, in an acknowledge of restart n or in none
unfoldable pub kept_for : Acknowledge → ℕ → Kept
kept_for ack n = record { opcode = 0; ack = ack; rst = n; b1 = 0; b2 = 0; b3 = 0; b4 = 0 }

-- the byte v, read in cycle c: the opcode, then four more
unfoldable pub keep_of : ℕ → ℕ → Kept → Kept
keep_of c v k =
    record {
      opcode = pick (c == 1) v k.opcode;
      ack = k.ack;
      rst = k.rst;
      b1 = pick (c == 2) v k.b1;
      b2 = pick (c == 3) v k.b2;
      b3 = pick (c == 4) v k.b3;
      b4 = pick (c == 5) v k.b4;
    }

-- WZ, the address read, low byte first
unfoldable pub wz_of : Kept → ℕ
wz_of k = word k.b2 k.b1
