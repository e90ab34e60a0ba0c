-- What the C functions answer, as numbers. Source: document 01, "Numbers returned", and docs/RECORD.md. Cited by
-- `capi::number` and by `Calls`.
use Rattle.std.specs.Prelude.{ℕ, ◌+◌, ◌*◌, ◌%◌, eqb}
use Rattle.laws.specs.Choice.{pick}
use Rattle.machine.specs.declared.record.Machine.{Machine}
use Rattle.machine.specs.declared.request.Request.{Request}
use Rattle.machine.specs.declared.request.Request.TheVariants.{Nothing, Read, Write, Input, Output, Restart}
use Rattle.machine.specs.Record.{stopped_of}
use Rattle.machine.specs.Well.{well_of}
use Rattle.run.specs.declared.answer.Answer.{Answer}
use Rattle.run.specs.Answer.{number_of, ran_of}

-- a request: which it is, times 2^24, the byte, times 2^16, and the address or the port
unfoldable pub request_number : Request → ℕ
request_number Nothing = 0
request_number (Read a) = 0x1000000 + a
request_number (Write a b) = 0x2000000 + 0x10000 * b + a
request_number (Input p) = 0x3000000 + p
request_number (Output p b) = 0x4000000 + 0x10000 * b + p
request_number (Restart b) = 0x5000000 + 0x10000 * b

-- one state of the machine m, tested as a run of one: 8 ill formed, 9 at the end of the clock, 10 stopped
unfoldable pub step_number : Machine → ℕ
step_number m = pick (well_of m) (pick (eqb m.clock 4294967295) 9 (pick (stopped_of m.next) 10 0)) 8

-- a run's answer: its number, and 256 times the states done
unfoldable pub run_number : Answer → ℕ
run_number a = number_of a + 256 * (ran_of a).states

-- a number with a count beside it: the number, and 256 times the count, modulo 2^64; no text has 2^56 lines or characters
unfoldable pub beside_of : ℕ → ℕ → ℕ
beside_of number count = number + 256 * (count % 0x100000000000000)
