-- The theorem of a run that stops at one of a cold machine: an undefined opcode stops it in the third of five states asked. So
-- what it asks can be met. Assumes nothing.
use Rattle.std.specs.Prelude.{Ok}
use Prim.Native.Nat.{suc}
use mathlib.Core.Path.{◌≡◌, refl, ap, ◌∙◌}
use mathlib.Core.Bool.{true}
use mathlib.Core.List.{[], ◌∷◌}
use lib.ListN.{replicate}
use Rattle.machine.specs.Record.{cold_of, stopped_of}
use Rattle.run.specs.declared.answer.Answer.TheVariants.{Stopped}
use Rattle.run.specs.Run.{World, run_of}
use Rattle.run.specs.Check.{check_of}
use Rattle.run.specs.Outcome.{verdict_of, ran_in, answered_of, answer_of}
use Rattle.run.proofs.Laws.{good_answer}
use Rattle.demands.specs.Outside.{outside_of}
use Rattle.demands.specs.Board.{Board}
use Rattle.demands.specs.Calls.{world_on, given_back}
use Rattle.demands.specs.Cards.{ports}
use Rattle.demands.proofs.Open.{everything}
use Rattle.demands.proofs.Cards.{zeros, lengths_good}
use Rattle.demands.specs.Stopping.{last, StopsAt}
use Rattle.demands.proofs.Stopping.{stop_forced}

-- a cold machine with an undefined opcode at address 0, and a call for five states
abbrev eight : Board
eight = record { machine = cold_of; memory = 0x08 ∷ replicate 65535 0; outputs = ports }

abbrev five : World
five = world_on eight (replicate 40 0)

fair : check_of cold_of 65536 256 256 [] 40 5 ≡ Ok tt
unfolding everything
fair = refl

passes : verdict_of five ports [] 5 ≡ Ok tt
passes = lengths_good cold_of eight.memory [] 40 5 (ap suc (zeros 65535)) fair

stops : stopped_of (run_of [] ports 5 five).machine.next ≡ true
unfolding everything
stops = refl

-- the call is answered with 10
answers : answer_of five ports [] 5 ≡ Stopped (ran_in (run_of [] ports 5 five))
unfolding answered_of
answers = good_answer five ports [] 5 passes ∙ rw stops

abbrev stuck : Board
stuck = given_back five ports [] 5 (ran_in (run_of [] ports 5 five))

-- the third state is the last
pub three_states : StopsAt (outside_of [] ports cold_of) eight 3 stuck
unfolding everything
three_states =
    stop_forced [] ports eight stuck 3 (last (replicate 40 0) 5 (ran_in (run_of [] ports 5 five)) answers) (refl, refl)
