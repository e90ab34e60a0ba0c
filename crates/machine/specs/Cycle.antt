-- The cycle under way. Source: document 01, "Cycles". Cited by `machine::cycle`.
use Rattle.std.specs.Prelude.{ℕ, ◌+◌, nat_le}
use Rattle.laws.specs.Choice.{pick}
use Rattle.opcodes.specs.Condition.{met_of}
use Rattle.opcodes.specs.Cycles.{code_of, count_of}
use Rattle.opcodes.specs.Kinds.{states_of}
use Rattle.machine.specs.declared.cycle.Cycle.{Cycle}

-- the number of the cycle after c, of n; 0 after the last
unfoldable pub after_of : ℕ → ℕ → ℕ
after_of n c = pick (nat_le n c) 0 (c + 1)

-- how many cycles the opcode op has under the flag byte f
unfoldable pub cycles_of : ℕ → ℕ → ℕ
cycles_of op f = count_of op (met_of op f)

-- cycle c of it: its code, its states, and the number of the cycle after it
unfoldable pub cycle_of : ℕ → ℕ → ℕ → Cycle
cycle_of op f c =
    record { code = code_of op c; states = states_of (code_of op c); after = after_of (cycles_of op f) c }
