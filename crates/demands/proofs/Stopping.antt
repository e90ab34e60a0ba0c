-- Calls of which the last is answered with 10 end with the T3 that reads an undefined opcode. Assumes nothing.
use Prim.Native.Nat.{ℕ, zero, suc, ◌+◌, ◌≤◌}
use mathlib.Core.Path.{◌≡◌, refl, sym, ap, ◌∙◌}
use mathlib.Core.Bool.{Bool, true, false}
use mathlib.Core.List.{List, []}
use native.Mathlib.Omega.{arith}
use lib.Dec.{T}
use Rattle.laws.specs.Choice.{pick}
use Rattle.machine.specs.Record.{stopped_of}
use Rattle.machine.specs.Well.{well_of}
use Rattle.run.specs.declared.answer.Ran.{Ran}
use Rattle.run.specs.Run.{World, eventful_of, state_of, run_of}
use Rattle.run.proofs.Laws.{run_plus}
use Rattle.demands.specs.Outside.{outside_of}
use Rattle.demands.specs.Board.{Board, board_of}
use Rattle.demands.specs.Calls.{world_on, given_back}
use Rattle.demands.specs.Stopping.{Stopping, last, more, StopForced}
use Rattle.demands.proofs.Bridge.{bridge, tracks_next}
use Rattle.demands.proofs.Fresh.{beginning_start}
use Rattle.demands.proofs.Answered.{answer_good, good_time, good_well}
use Rattle.demands.proofs.Calling.{same_boards, given_board, answered, runs_clock}
use Rattle.demands.proofs.Undefined.{stops_run}

-- the clock counts the states done
clock_pick : (c : Bool) (w x : World) → (c ≡ false → x.machine.clock + w.states ≡ w.machine.clock + x.states)
    → (pick c w x).machine.clock + w.states ≡ w.machine.clock + (pick c w x).states
clock_pick true w x g = refl
clock_pick false w x g = g refl

module _ (s inputs : List ℕ) where
  abbrev after : World → World
  after w = state_of inputs (eventful_of s w.machine) w

  after_states : (w : World) → (after w).states ≡ w.states + 1
  unfolding state_of
  after_states w = refl

  clock_states : (n : ℕ) (w : World) → w.machine.clock + n ≤ 4294967295
      → (run_of s inputs n w).machine.clock + w.states ≡ w.machine.clock + (run_of s inputs n w).states
  unfolding run_of
  clock_states zero w h = refl
  clock_states (suc n) w h =
      clock_pick (stopped_of w.machine.next) w (run_of s inputs n (after w))
      (λ (f : stopped_of w.machine.next ≡ false).
      let t =
      tracks_next s inputs w.machine 0 w (record { clock = omega arith; ready = refl; hold = refl }) f (omega arith) in
      let c : (after w).machine.clock ≡ w.machine.clock + 1 = t.clock in
      let e = clock_states n (after w) (omega arith) in
      let a = after_states w in
      omega arith)

  -- what calls that end with a stop come to
  record Halting (b : Board) (n : ℕ) (b' : Board) : Type 0 where
    asked : ℕ
    well : T (well_of b.machine)
    time : b.machine.clock + asked ≤ 4294967295
    board : b' ≡ board_of (run_of s inputs asked (world_on b []))
    stops : stopped_of b'.machine.next ≡ true
    clock : b'.machine.clock ≡ b.machine.clock + n

  stopping_halting : (b b' : Board) (n : ℕ) → Stopping s inputs b n b' → Halting b n b'
  stopping_halting b _ _ (last l n r e) =
      let w = world_on b l in
      let g = answer_good w inputs s n true r e in
      let t = good_time w inputs s n g.verdict in
      let at = given_board s inputs true w n r g in
      let q : r.states ≡ (run_of s inputs n w).states = ap (λ (x : Ran). x.states) g.ran in
      let c : (given_back w inputs s n r).machine.clock ≡ (run_of s inputs n w).machine.clock =
      ap (λ (z : Board). z.machine.clock) at in
      let k = clock_states n w t in
      record {
        asked = n;
        well = good_well w inputs s n g.verdict;
        time = t;
        board = at ∙ same_boards s inputs n w (world_on b []) refl refl;
        stops = ap (λ (z : Board). stopped_of z.machine.next) at ∙ g.ends;
        clock = omega arith;
      }
  stopping_halting b b' _ (more {k = k} l n r e c) =
      let w = world_on b l in
      let g = answer_good w inputs s n false r e in
      let q = answered s inputs w n r refl g in
      let t = good_time w inputs s n g.verdict in
      let x = given_back w inputs s n r in
      let y = stopping_halting x b' k c in
      let at : x ≡ board_of (run_of s inputs n w) = given_board s inputs false w n r g in
      let clock : x.machine.clock ≡ b.machine.clock + n =
      ap (λ (z : Board). z.machine.clock) at ∙ runs_clock s inputs n w t g.ends in
      record {
        asked = n + y.asked;
        well = good_well w inputs s n g.verdict;
        time = omega (arith, y.time);
        board =
            y.board
            ∙ sym (same_boards s inputs y.asked (run_of s inputs n w) (world_on x []) (sym at) refl)
            ∙ ap board_of (sym (run_plus s inputs n y.asked w))
            ∙ same_boards s inputs (n + y.asked) w (world_on b []) refl refl;
        stops = y.stops;
        clock = omega (arith, y.clock);
      }

pub stop_forced : StopForced
stop_forced s inputs b b' n c w =
    let x = stopping_halting s inputs b b' n c in
    let E = outside_of s inputs b.machine in
    stops_run E b b' x.asked n (beginning_start b x.well w) (x.board ∙ bridge s inputs x.asked (world_on b []) x.time)
    x.stops x.clock
