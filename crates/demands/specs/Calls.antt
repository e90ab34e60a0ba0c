-- A run made in calls of the public `run`, one after the other, with one schedule, the same input ports and nothing altered
-- between them; each call has a trace of its own. Cited by the statements of demands 2 and 3.
use Rattle.std.specs.Prelude.{ℕ, ◌+◌, ◌≤◌, ◌≡◌, List, Ok}
use Rattle.run.specs.declared.answer.Ran.{Ran}
use Rattle.run.specs.declared.answer.Answer.TheVariants.{Done}
use Rattle.run.specs.Run.{World, run_of}
use Rattle.run.specs.Outcome.{start_of, verdict_of, left_of, answer_of}
use Rattle.demands.specs.Board.{Board, board_of}

-- the world of a call on the board b with the trace l
abbrev pub world_on : Board → List ℕ → World
world_on b l = start_of b.machine b.memory b.outputs l

-- the board after a call that gives back r
abbrev pub given_back : World → List ℕ → List ℕ → ℕ → Ran → Board
given_back w inputs s n r =
    record { machine = r.machine; memory = (left_of w inputs s n).memory; outputs = (left_of w inputs s n).outputs }

-- calls from a board to another, each answered with 0, and how many states they answer in all: one call, or one and then more
pub data Calls (s inputs : List ℕ) : Board → ℕ → Board → Type 0 where
  last : {b : Board} (l : List ℕ) (n : ℕ) (r : Ran) → answer_of (world_on b l) inputs s n ≡ Done r
      → Calls s inputs b r.states (given_back (world_on b l) inputs s n r)
  more : {b b' : Board} {k : ℕ} (l : List ℕ) (n : ℕ) (r : Ran) → answer_of (world_on b l) inputs s n ≡ Done r
      → Calls s inputs (given_back (world_on b l) inputs s n r) k b' → Calls s inputs b (r.states + k) b'

-- the board after k states of such a run: k of the n states of a call that passes the tests, or those of a call that is
-- answered with 0, and then more
pub data Reached (s inputs : List ℕ) : Board → ℕ → Board → Type 0 where
  amid : {b : Board} (l : List ℕ) (n k : ℕ) → verdict_of (world_on b l) inputs s n ≡ Ok tt → k ≤ n
      → Reached s inputs b k (board_of (run_of s inputs k (world_on b l)))
  after : {b b' : Board} {k : ℕ} (l : List ℕ) (n : ℕ) (r : Ran) → answer_of (world_on b l) inputs s n ≡ Done r
      → Reached s inputs (given_back (world_on b l) inputs s n r) k b' → Reached s inputs b (r.states + k) b'
