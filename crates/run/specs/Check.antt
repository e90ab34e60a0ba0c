-- The tests of a run's arguments. Source: document 01, "Numbers returned". Cited by `run::check`.
use Rattle.std.specs.Prelude.{ℕ, ◌+◌, ◌*◌, Bool, ◌&&◌, List, eqb, leb, Result, Ok, Err}
use Rattle.laws.specs.Choice.{pick}
use Rattle.machine.specs.declared.record.Machine.{Machine}
use Rattle.machine.specs.Well.{well_of}
use Rattle.schedule.specs.declared.order.Fault.{Fault}
use Rattle.schedule.specs.Events.{checked_of}
use Rattle.run.specs.declared.answer.Refusal.{Refusal}
use Rattle.run.specs.declared.answer.Refusal.TheVariants.{MemorySize, PortSize}
use Rattle.run.specs.declared.answer.Refusal.TheVariants.{TooManyStates, TraceShort, IllFormed, ClockRange}
use Rattle.run.specs.Answer.{refusal_of}

-- the tests 3, 4 and 5
abbrev pub of_schedule : Result (Unit {0}) Fault → Result (Unit {0}) Refusal
of_schedule (Ok u) = Ok u
of_schedule (Err fault) = Err (refusal_of fault)

unfoldable pub schedule_verdict : List ℕ → Result (Unit {0}) Refusal
schedule_verdict s = of_schedule (checked_of s)

-- the verdict a, or b where a is good
abbrev pub and_then : Result (Unit {0}) Refusal → Result (Unit {0}) Refusal → Result (Unit {0}) Refusal
and_then (Ok u) b = b
and_then (Err reason) b = Err reason

-- a refusal unless the test holds
abbrev pub unless : Bool → Refusal → Result (Unit {0}) Refusal
unless t reason = pick t (Ok tt) (Err reason)

-- the tests 6 to 9: n states asked of the machine m, with a trace of l bytes
unfoldable pub states_verdict : Machine → ℕ → ℕ → Result (Unit {0}) Refusal
states_verdict m l n =
    and_then (unless (leb n 8192) TooManyStates)
    (and_then (unless (leb (8 * n) l) TraceShort)
    (and_then (unless (well_of m) IllFormed) (unless (leb (m.clock + n) 4294967295) ClockRange)))

-- "A run tests 1 to 9 in that order": memory of x bytes, input ports of i, output ports of o, the schedule s, and so on
unfoldable pub check_of : Machine → ℕ → ℕ → ℕ → List ℕ → ℕ → ℕ → Result (Unit {0}) Refusal
check_of m x i o s l n =
    and_then (unless (eqb x 65536) MemorySize)
    (and_then (unless (eqb i 256 && eqb o 256) PortSize) (and_then (schedule_verdict s) (states_verdict m l n)))
