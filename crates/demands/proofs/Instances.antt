-- The theorems of demands 2 and 3 at a run of a cold machine: NOP with READY down in states 1 and 2, which takes 6 states, 2 of
-- them waits. So what they ask can be met. Assumes nothing.
use Rattle.std.specs.Prelude.{Ok}
use Prim.Native.Nat.{ℕ, zero, suc, ◌+◌, ◌<◌}
use mathlib.Core.Path.{◌≡◌, refl, sym, ap, ◌∙◌, subst}
use mathlib.Core.Bool.{true, false}
use mathlib.Core.List.{List, [], ◌∷◌}
use native.Mathlib.Omega.{arith}
use lib.ListN.{replicate}
use Rattle.machine.specs.Record.{cold_of, stopped_of}
use Rattle.run.specs.declared.answer.Answer.TheVariants.{Done}
use Rattle.run.specs.Run.{World, run_of}
use Rattle.run.specs.Check.{check_of}
use Rattle.run.specs.Outcome.{verdict_of, left_of, ran_in, answered_of, answer_of}
use Rattle.run.proofs.Laws.{good_left, good_answer}
use Rattle.machine.specs.declared.row.Row.{Row}
use Rattle.opcodes.specs.Totals.{listed_total}
use Rattle.demands.specs.Symbols.{condition}
use Rattle.demands.specs.States.{manual_states}
use Rattle.demands.specs.Outside.{Outside, levels_from, outside_of, did_times, down, up}
use Rattle.demands.specs.Rows.{Forced, none, one}
use Rattle.demands.specs.Board.{Board, board_of, moment_of}
use Rattle.demands.specs.Course.{course_of}
use Rattle.demands.specs.Legs.{tally, afterwards, opcode_at, manual_at, course_at, instruction, Trip, stay, go}
use Rattle.demands.specs.Calls.{world_on, given_back, last, amid}
use Rattle.demands.specs.Cards.{ports}
use Rattle.demands.specs.Costs.{Costs}
use Rattle.demands.proofs.Open.{everything}
use Rattle.demands.proofs.Cards.{zeros, lengths_good}
use Rattle.demands.specs.Trace.{row_in, shown_by}
use Rattle.demands.specs.Demand2.{Executed}
use Rattle.demands.proofs.Demands.{instructions_done, forced_done, instruction_ends, states_forced}
use Rattle.demands.proofs.Tracing.{trace_shows}

-- a cold machine over zeros, which are NOPs
abbrev still : Board
still = record { machine = cold_of; memory = replicate 65536 0; outputs = ports }

-- READY down in state 1, up in state 3
abbrev dip : List ℕ
dip = 1 ∷ 0 ∷ 0 ∷ 0 ∷ 0 ∷ 0 ∷ 3 ∷ 0 ∷ 0 ∷ 0 ∷ 0 ∷ 1 ∷ []

abbrev world : World
world = world_on still (replicate 48 0)

fair : check_of cold_of 65536 256 256 dip 48 6 ≡ Ok tt
unfolding everything
fair = refl

passes : verdict_of world ports dip 6 ≡ Ok tt
passes = lengths_good cold_of still.memory dip 48 6 (zeros 65536) fair

awake : stopped_of (run_of dip ports 6 world).machine.next ≡ false
unfolding everything
awake = refl

-- the call is answered with 0
answers : answer_of world ports dip 6 ≡ Done (ran_in (run_of dip ports 6 world))
unfolding answered_of
answers = good_answer world ports dip 6 passes ∙ rw awake

counts : (run_of dip ports 6 world).states ≡ 6
unfolding everything
counts = refl

abbrev later : Board
later = given_back world ports dip 6 (ran_in (run_of dip ports 6 world))

pub six_states : Costs (outside_of dip ports cold_of) still 6 later
unfolding everything
six_states =
    states_forced dip ports still later 6 (last (replicate 48 0) 6 (ran_in (run_of dip ports 6 world)) answers) (refl, refl)
    (refl, refl)

-- the waits that the schedule forces, counted by hand
abbrev E : Outside
E = outside_of dip ports cold_of

down_twice : (i : ℕ) → i < 2 → down E (1 + i) ≡ true
unfolding everything outside_of levels_from
down_twice zero l = refl
down_twice (suc zero) l = refl
down_twice (suc (suc i)) l = absurd (let no : ⊥ = omega arith in no)

never_held : (i : ℕ) → i < 0 → up E (5 + i) ≡ true
never_held i l = absurd (let no : ⊥ = omega arith in no)

forced : Forced E (course_at still (opcode_at still)) 0 2 0
unfolding everything outside_of levels_from course_of
forced = one {code = 0x14} {cs = []} {t = 0} {w = 0} {h = 0} 2 0 (down_twice, refl) (never_held, refl) none

-- where they lead
abbrev there : Board
there = afterwards 0 (manual_at E still) (did_times E 6 (moment_of still))

nop : Trip E still (tally 4 2 0 0) there
unfolding everything manual_states listed_total condition
nop = go {b' = there} {p = tally 4 2 0 0} {q = tally 0 0 0 0} (instruction 2 0 refl refl refl forced) stay

-- four states of the manual and two waits
pub two_waits : tally 4 2 0 0 ≡ six_states.tallied
two_waits = (six_states.only (tally 4 2 0 0) there nop refl).0

-- the run does it
pub nop_done : board_of (run_of dip ports 6 (world_on still [])) ≡ there
unfolding cold_of
nop_done = forced_done dip ports still there (tally 4 2 0 0) nop (omega arith)

-- and so it does of the instruction by itself, and where it ends amid a longer call
pub nop_executed : Executed (manual_at E still) (board_of (run_of dip ports 6 (world_on still [])))
unfolding everything outside_of manual_states listed_total condition
nop_executed = instruction_ends dip ports still 2 0 refl refl refl forced (omega arith)

pub nop_amid : Costs E still 6 (board_of (run_of dip ports 6 world))
unfolding everything
nop_amid =
    instructions_done dip ports still (board_of (run_of dip ports 6 world)) 6 (amid (replicate 48 0) 6 6 passes (omega arith))
    (refl, refl) refl

-- and the trace's third row shows a wait
third_row : row_in (left_of world ports dip 6).trace 2 ≡ shown_by dip ports (run_of dip ports 2 world)
third_row =
    trace_shows world ports dip 6 refl passes 2
    (subst (λ (x : World). 2 < x.states) (sym (good_left world ports dip 6 passes))
    (subst (λ (n : ℕ). 2 < n) (sym counts) (omega arith)))

pub wait_shown : (row_in (left_of world ports dip 6).trace 2).state ≡ 6
unfolding everything shown_by
wait_shown = ap (λ (r : Row). r.state) third_row
