-- The refusals of `run`, for demand 1: the table of document 01, "Numbers returned", as plain conditions, and what an answer has to
-- do with them. Proved in proofs/Refusals.
use Rattle.std.specs.Prelude.{ℕ, ◌+◌, ◌*◌, ◌/◌, ◌%◌, ◌≤◌, ◌<◌, ◌≡◌, false, List, ◌⊎◌, ◌↔◌, length, get_or}
use Rattle.opcodes.specs.Cycles.{defined_of}
use Rattle.machine.specs.declared.record.Position.TheVariants.{Later, Stop}
use Rattle.machine.specs.declared.record.Machine.{Machine}
use Rattle.schedule.specs.Events as events
use Rattle.schedule.specs.Events.{line_of, value_of}
use Rattle.run.specs.declared.answer.Refusal.{Refusal}
use Rattle.run.specs.declared.answer.Refusal.TheVariants.{MemorySize, PortSize, ScheduleLength, EventValue, EventOrder}
use Rattle.run.specs.declared.answer.Refusal.TheVariants.{TooManyStates, TraceShort, ClockRange}
use Rattle.run.specs.declared.answer.Refusal.TheVariants as refusal
use Rattle.run.specs.declared.answer.Answer.{Answer}
use Rattle.run.specs.Answer.{refusal_number, number_of, ran_of}
use Rattle.run.specs.State.{heard}
use Rattle.run.specs.Run.{World, eventful_of, run_of}
use Rattle.run.specs.Outcome.{start_of, Outcome}
use Rattle.demands.specs.IllFormed.{Not, IllFormed}

-- what a call of `run` is given
pub record Call : Type 0 where
  pub machine : Machine
  pub memory : List ℕ
  pub inputs : List ℕ
  pub outputs : List ℕ
  pub schedule : List ℕ
  pub trace : List ℕ
  pub states : ℕ

-- "Line 0 READY and line 1 HOLD take 0 (down) or 1 (up). Line 2 INT takes 0 to 7 .. or 8 (down)"
abbrev pub Listed : ℕ → ℕ → Type 0
Listed line value = ((line < 2) × (value < 2)) ⊎ ((line ≡ 2) × (value < 9))

-- "State numbers never fall; at equal state numbers the line codes rise strictly": from event i of s to the next
abbrev pub Follows : List ℕ → ℕ → Type 0
Follows s i =
    (events.state_number_of s i < events.state_number_of s (i + 1))
    ⊎ ((events.state_number_of s i ≡ events.state_number_of s (i + 1)) × (line_of s i < line_of s (i + 1)))

-- the table, 1 to 9: "Given exactly when"
abbrev pub Given : Call → Refusal → Type 0
Given c MemorySize = Not (length c.memory ≡ 65536)
Given c PortSize = Not (length c.inputs ≡ 256) ⊎ Not (length c.outputs ≡ 256)
Given c ScheduleLength = Not (length c.schedule % 6 ≡ 0) ⊎ (6000 < length c.schedule)
Given c EventValue = (i : ℕ) × (i < length c.schedule / 6) × Not (Listed (line_of c.schedule i) (value_of c.schedule i))
Given c EventOrder = (i : ℕ) × (i + 1 < length c.schedule / 6) × Not (Follows c.schedule i)
Given c TooManyStates = 8192 < c.states
Given c TraceShort = length c.trace < 8 * c.states
Given c refusal.IllFormed = IllFormed c.machine
Given c ClockRange = 4294967295 < c.machine.clock + c.states

-- "A run tests 1 to 9 in that order": the condition of q holds, and none before it
abbrev pub First : Call → Refusal → Type 0
First c q = Given c q × ((p : Refusal) → refusal_number p < refusal_number q → Not (Given c p))

-- "zero states, the machine as given, no lent byte changed": the answer r, and x, o and l for memory, output ports and trace
pub record Unchanged (c : Call) (r : Answer) (x o l : List ℕ) : Type 0 where
  pub machine : (ran_of r).machine ≡ c.machine
  pub states : (ran_of r).states ≡ 0
  pub memory : x ≡ c.memory
  pub outputs : o ≡ c.outputs
  pub trace : l ≡ c.trace

-- the world of a call after j states
abbrev pub world_in : Call → ℕ → World
world_in c j = run_of c.schedule c.inputs j (start_of c.machine c.memory c.outputs c.trace)

-- "the states up to and including the fetch's T3": the last of k states is T3 of a first cycle, and the byte on the bus in it is no
-- defined opcode
abbrev pub FetchesUndefined : Call → ℕ → Type 0
FetchesUndefined c k =
    (j : ℕ)
    × (k ≡ j + 1)
    × ((world_in c j).machine.next ≡ Later 1 3)
    × (defined_of (heard (eventful_of c.schedule (world_in c j).machine) (world_in c j).memory c.inputs) ≡ false)

-- what a call may answer, and leave in memory x, output ports o and trace l
pub record Taken (c : Call) (r : Answer) (x o l : List ℕ) : Type 0 where
  -- a number from 1 to 9 exactly when it is the first of the table, and then nothing is changed; else 0 or 10
  pub refused : (q : Refusal) → (number_of r ≡ refusal_number q) ↔ First c q
  pub unchanged : (q : Refusal) → number_of r ≡ refusal_number q → Unchanged c r x o l
  pub accepted : ((number_of r ≡ 0) ⊎ (number_of r ≡ 10)) ↔ ((q : Refusal) → Not (Given c q))
  -- "all that were asked with 0"; with 10 a stop where an undefined opcode was fetched, and "each later run gives 10 with zero
  -- states, even when zero are asked"
  pub done : number_of r ≡ 0 → (ran_of r).states ≡ c.states
  pub stopped : number_of r ≡ 10 → (ran_of r).machine.next ≡ Stop
  pub stops : number_of r ≡ 10 → Not (c.machine.next ≡ Stop) → FetchesUndefined c (ran_of r).states
  pub again : c.machine.next ≡ Stop → ((q : Refusal) → Not (Given c q)) → (number_of r ≡ 10) × Unchanged c r x o l
  -- "Trace bytes past 8 times that count stay as they were"
  pub rest : (i : ℕ) → 8 * (ran_of r).states ≤ i → get_or l i 0 ≡ get_or c.trace i 0

-- the contract of `run` allows this answer and these bytes afterwards
abbrev pub Allowed : Call → Answer → List ℕ → List ℕ → List ℕ → Type 0
Allowed c r x o l = Outcome c.machine c.memory c.inputs c.outputs c.schedule c.trace c.states r x o l

-- demand 1 for `run`: what its contract allows is so, and two results that it allows coincide
pub record Refuses : Type 0 where
  pub taken : (c : Call) (r : Answer) (x o l : List ℕ) → Allowed c r x o l → Taken c r x o l
  pub once : (c : Call) (r r' : Answer) (x o l x' o' l' : List ℕ) → Allowed c r x o l → Allowed c r' x' o' l'
      → (r ≡ r') × (x ≡ x') × (o ≡ o') × (l ≡ l')
