-- What the program prints. Source: document 01, the printing program. Cited by `print_states::print`.
use Rattle.std.specs.Prelude.{ℕ, ◌≤◌, ◌≡◌, List, [], ◌++◌, length, drop, replicate}
use Rattle.machine.specs.Record.{cold_of}
use Rattle.run.specs.declared.answer.Ran.{Ran}
use Rattle.run.specs.Run.{World}
use Rattle.run.specs.Answer.{ran_of}
use Rattle.run.specs.Outcome.{start_of, left_of, answer_of}
use Rattle.text.specs.Text.{text_of, written_of}
use Rattle.listing.specs.Listing.{listing_of}

-- "all ports 0, starts cold without events, and stops .. after 4,096 states": what such a run over memory x leaves, and its answer
abbrev pub begin_of : List ℕ → World
begin_of x = start_of cold_of x (replicate 256 0) (replicate 32768 0)

unfoldable pub world_after : List ℕ → World
world_after x = left_of (begin_of x) (replicate 256 0) [] 4096

unfoldable pub ran_after : List ℕ → Ran
ran_after x = ran_of (answer_of (begin_of x) (replicate 256 0) [] 4096)

-- its listing
unfoldable pub printed_of : List ℕ → List ℕ
printed_of x = listing_of (world_after x).trace (ran_after x).states (ran_after x).machine.regs.a (ran_after x).machine.regs.pc

-- the run leaves x' of memory x; its listing, written from the start of the bytes o on, gives o' and ends at r, and is there
-- whole where o has 155,689 bytes
pub record Printed (x o : List ℕ) (r : ℕ) (x' o' : List ℕ) : Type 0 where
  pub memory : x' ≡ (world_after x).memory
  pub text : text_of o' r ≡ written_of (printed_of x) (text_of o 0)
  pub whole : 155689 ≤ length o → (r ≡ length (printed_of x)) × (o' ≡ printed_of x ++ drop r o)
