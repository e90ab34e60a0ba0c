-- What the states of a run need, and what they leave. Cited by `run::going`.
use Rattle.std.specs.Prelude.{ℕ, ◌+◌, ◌*◌, ◌/◌, ◌≤◌, ◌<◌, ◌≡◌, List, length}
use Rattle.machine.specs.declared.record.Machine.{Machine}
use Rattle.schedule.specs.Events.{state_number_of}
use Rattle.run.specs.declared.answer.Ran.{Ran}
use Rattle.run.specs.Run.{run_of}
use Rattle.run.specs.Outcome.{start_of, ran_in}

-- n states of the machine m under the schedule s, with the trace l
pub record Ready (m : Machine) (s l : List ℕ) (n : ℕ) : Type 0 where
  pub sorted : (j k : ℕ) → j ≤ k → k < length s / 6 → state_number_of s j ≤ state_number_of s k
  pub few : n ≤ 8192
  pub room : 8 * n ≤ length l
  pub time : m.clock + n ≤ 4294967295

-- the same, over memory x, input ports i and output ports o
pub record Fit (m : Machine) (x i o s l : List ℕ) (n : ℕ) : Type 0 where
  pub memory : length x ≡ 65536
  pub inputs : length i ≡ 256
  pub outputs : length o ≡ 256
  pub sorted : (j k : ℕ) → j ≤ k → k < length s / 6 → state_number_of s j ≤ state_number_of s k
  pub few : n ≤ 8192
  pub room : 8 * n ≤ length l
  pub time : m.clock + n ≤ 4294967295

-- the machine and the count r, and memory x', output ports o' and trace l', are those of the definition
pub record Went (m : Machine) (x i o s l : List ℕ) (n : ℕ) (r : Ran) (x' o' l' : List ℕ) : Type 0 where
  pub ran : r ≡ ran_in (run_of s i n (start_of m x o l))
  pub memory : x' ≡ (run_of s i n (start_of m x o l)).memory
  pub outputs : o' ≡ (run_of s i n (start_of m x o l)).outputs
  pub trace : l' ≡ (run_of s i n (start_of m x o l)).trace
