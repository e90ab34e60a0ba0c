-- What each C function answers and leaves, for all inputs. Source: document 01, "Numbers returned"; docs/RECORD.md; request W1.
-- Cited by the public functions. z is the record that is handed in, r the answer; a prime marks a list afterwards.
use Rattle.std.specs.Prelude.{ℕ, ◌≡◌, List, Result, eqb, length}
use Rattle.laws.specs.Choice.{pick}
use Rattle.machine.specs.Record.{cold_of}
use Rattle.machine.specs.Look.{look_of}
use Rattle.machine.specs.Request.{request_of}
use Rattle.machine.specs.Step.{step_of}
use Rattle.run.specs.declared.answer.Answer.{Answer}
use Rattle.run.specs.declared.answer.Answer.TheVariants.{Done, Stopped, Refused}
use Rattle.run.specs.Outcome.{start_of, left_of, answer_of}
use Rattle.saved.specs.declared.answer.Refusal.{Refusal}
use Rattle.saved.specs.declared.answer.Refusal.TheVariants.{IllFormed}
use Rattle.saved.specs.Header.{saved_of}
use Rattle.saved.specs.Fields.{machine_in, ports_in, memory_in}
use Rattle.saved.specs.Answer.{saving_number}
use Rattle.saved.specs.Check.{pass, save_verdict, load_verdict}
use Rattle.saved.specs.Outcome.{filled_by}
use Rattle.intel_hex.specs.Read.{reading_of}
use Rattle.intel_hex.specs.Write.{hex_of, range_of, writing_of}
use Rattle.intel_hex.specs.Answer.{reading_number, reading_line, writing_number, writing_length}
use Rattle.intel_hex.specs.Outcome.{memory_by, output_by}
use Rattle.capi.specs.Flat.{flat_of, record_with}
use Rattle.capi.specs.Handed.{handed_of}
use Rattle.capi.specs.Numbers.{request_number, step_number, run_number, beside_of}

-- a cold machine: 0, or 8 where z is no record
pub record ColdCall (z : List ℕ) (r : ℕ) (z' : List ℕ) : Type 0 where
  pub answer : r ≡ pick (eqb (length z) 64) 0 8
  pub machine : z' ≡ record_with z cold_of

-- what the state that comes next asks of the bus
unfoldable pub request_call : List ℕ → ℕ
request_call z = request_number (request_of (look_of (handed_of z)) (handed_of z))

-- one state with the byte v on the bus: where the answer is not 0, nothing changes
pub record StepCall (z : List ℕ) (v r : ℕ) (z' : List ℕ) : Type 0 where
  pub answer : r ≡ step_number (handed_of z)
  pub machine : z' ≡ pick (eqb (step_number (handed_of z)) 0) (record_with z (step_of v (handed_of z))) z

-- the record z after a run's answer
abbrev pub record_by : Answer → List ℕ → List ℕ
record_by (Done ran) z = record_with z ran.machine
record_by (Stopped ran) z = record_with z ran.machine
record_by (Refused reason ran) z = z

-- a run of n states over memory x, input ports i, output ports o, the schedule s and the trace l
pub record RunCall (z : List ℕ) (n : ℕ) (x i o s l : List ℕ) (r : ℕ) (z' x' o' l' : List ℕ) : Type 0 where
  pub answer : r ≡ run_number (answer_of (start_of (handed_of z) x o l) i s n)
  pub machine : z' ≡ record_by (answer_of (start_of (handed_of z) x o l) i s n) z
  pub memory : x' ≡ (left_of (start_of (handed_of z) x o l) i s n).memory
  pub outputs : o' ≡ (left_of (start_of (handed_of z) x o l) i s n).outputs
  pub trace : l' ≡ (left_of (start_of (handed_of z) x o l) i s n).trace

-- saving with memory x and output ports o into the output f
pub record SaveCall (z x o f : List ℕ) (r : ℕ) (f' : List ℕ) : Type 0 where
  pub answer : r ≡ saving_number (save_verdict (handed_of z) (length x) (length o) (length f))
  pub out : f' ≡ filled_by (save_verdict (handed_of z) (length x) (length o) (length f)) (saved_of (handed_of z) o x) f

-- loading's tests: 8 where z is no record, "12, 13, then 1 and 2"; what the record holds plays no part
unfoldable pub load_call_verdict : List ℕ → List ℕ → List ℕ → List ℕ → Result (Unit {0}) Refusal
load_call_verdict z s x o = pass (eqb (length z) 64) IllFormed (load_verdict s (length x) (length o))

-- loading the saved form s into memory x and output ports o
pub record LoadCall (z s x o : List ℕ) (r : ℕ) (z' x' o' : List ℕ) : Type 0 where
  pub answer : r ≡ saving_number (load_call_verdict z s x o)
  pub machine : z' ≡ filled_by (load_call_verdict z s x o) (flat_of (machine_in s)) z
  pub memory : x' ≡ filled_by (load_call_verdict z s x o) (memory_in s) x
  pub outputs : o' ≡ filled_by (load_call_verdict z s x o) (ports_in s) o

-- reading an Intel HEX text t into memory x: the number, and the line at fault beside it
pub record HexReadCall (t x : List ℕ) (r : ℕ) (x' : List ℕ) : Type 0 where
  pub answer : r ≡ beside_of (reading_number (reading_of t (length x))) (reading_line (reading_of t (length x)))
  pub memory : x' ≡ memory_by (reading_of t (length x)) t x

-- writing n bytes of memory x from start on into the output f: the number, and the length of the text beside it
pub record HexWriteCall (x : List ℕ) (start n : ℕ) (f : List ℕ) (r : ℕ) (f' : List ℕ) : Type 0 where
  pub answer : r ≡ beside_of (writing_number (writing_of (length x) start n (length f))) (writing_length (writing_of (length x) start n (length f)))
  pub output : f' ≡ output_by (writing_of (length x) start n (length f)) (hex_of start (range_of x start n)) f
