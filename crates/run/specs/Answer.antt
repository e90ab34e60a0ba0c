-- The paper's number and values for every answer of a run. Source: document 01, "Numbers returned". Cited by `run::answer`.
use Rattle.std.specs.Prelude.{ℕ}
use Rattle.schedule.specs.declared.order.Fault.{Fault}
use Rattle.schedule.specs.declared.order.Fault.TheVariants.{Length, Value, Order}
use Rattle.run.specs.declared.answer.Refusal.{Refusal}
use Rattle.run.specs.declared.answer.Refusal.TheVariants.{MemorySize, PortSize, ScheduleLength, EventValue, EventOrder}
use Rattle.run.specs.declared.answer.Refusal.TheVariants.{TooManyStates, TraceShort, IllFormed, ClockRange}
use Rattle.run.specs.declared.answer.Ran.{Ran}
use Rattle.run.specs.declared.answer.Answer.{Answer}
use Rattle.run.specs.declared.answer.Answer.TheVariants.{Done, Stopped, Refused}

-- the refusal of a schedule
abbrev pub refusal_of : Fault → Refusal
refusal_of Length = ScheduleLength
refusal_of Value = EventValue
refusal_of Order = EventOrder

-- the paper's number of each refusal, and of each answer
abbrev pub refusal_number : Refusal → ℕ
refusal_number MemorySize = 1
refusal_number PortSize = 2
refusal_number ScheduleLength = 3
refusal_number EventValue = 4
refusal_number EventOrder = 5
refusal_number TooManyStates = 6
refusal_number TraceShort = 7
refusal_number IllFormed = 8
refusal_number ClockRange = 9

abbrev pub number_of : Answer → ℕ
number_of (Done ran) = 0
number_of (Stopped ran) = 10
number_of (Refused reason ran) = refusal_number reason

-- the machine that an answer carries, and its states
abbrev pub ran_of : Answer → Ran
ran_of (Done ran) = ran
ran_of (Stopped ran) = ran
ran_of (Refused reason ran) = ran
