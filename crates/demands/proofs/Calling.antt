-- Calls one after the other leave what one long run leaves. Assumes nothing.
use Prim.Native.Nat.{ℕ, zero, suc, ◌+◌, ◌≤◌}
use mathlib.Core.Path.{◌≡◌, refl, sym, ap, ◌∙◌, subst}
use mathlib.Core.Bool.{Bool, true, false, false≢true}
use mathlib.Core.List.{List, []}
use native.Mathlib.Omega.{arith}
use lib.Dec.{T}
use Rattle.laws.specs.Choice.{pick}
use Rattle.machine.specs.Well.{well_of}
use Rattle.machine.specs.Record.{with_lines, with_clock, stopped_of}
use Rattle.run.specs.declared.answer.Ran.{Ran}
use Rattle.run.specs.Run.{World, run_of}
use Rattle.run.specs.Outcome.{left_of}
use Rattle.run.proofs.Laws.{run_plus, good_left}
use Rattle.run.proofs.Calls.{run_same}
use Rattle.demands.specs.Outside.{Outside, outside_of}
use Rattle.demands.specs.Board.{Board, board_of}
use Rattle.demands.specs.Calls.{world_on, given_back, Calls, last, more, Reached, amid, after}
use Rattle.demands.proofs.Steps.{step, run, driven}
use Rattle.demands.proofs.Bridge.{bridge}
use Rattle.demands.proofs.Counted.{run_count}
use Rattle.demands.proofs.Answered.{Good, answer_good, good_time, good_well}

-- the clock of a run that does not stop
module _ (E : Outside) where
  clock_on : (b : Board) → (step E b).machine.clock ≡ b.machine.clock + 1
  unfolding step driven with_lines with_clock
  clock_on b = refl

  counted : (c : Bool) (b x : Board) (n : ℕ) → (c ≡ true → stopped_of b.machine.next ≡ true)
      → stopped_of (pick c b x).machine.next ≡ false → (stopped_of x.machine.next ≡ false → x.machine.clock ≡ n)
      → (pick c b x).machine.clock ≡ n
  counted true b x n t f g = absurd (false≢true (sym f ∙ t refl))
  counted false b x n t f g = g f

  pub run_clock : (n : ℕ) (b : Board) → stopped_of (run E n b).machine.next ≡ false
      → (run E n b).machine.clock ≡ b.machine.clock + n
  unfolding run
  run_clock zero b f = omega arith
  run_clock (suc n) b f =
      counted (stopped_of b.machine.next) b (run E n (step E b)) (b.machine.clock + suc n) (λ e. e) f
      (λ g. let e = clock_on b in run_clock n (step E b) g ∙ omega arith)

module _ (s inputs : List ℕ) where
  -- what the states do does not depend on the trace or on the count so far
  pub same_boards : (n : ℕ) (w v : World) → board_of w ≡ board_of v → v.states ≡ 0
      → board_of (run_of s inputs n w) ≡ board_of (run_of s inputs n v)
  same_boards n w v e z =
      let k =
      run_same s inputs w.states n w v
      (record {
        machine = ap (λ (b : Board). b.machine) e;
        memory = ap (λ (b : Board). b.memory) e;
        outputs = ap (λ (b : Board). b.outputs) e;
        states = omega arith;
      }) in
      λ i. record { machine = k.machine i; memory = k.memory i; outputs = k.outputs i }

  -- its clock
  pub runs_clock : (n : ℕ) (w : World) → w.machine.clock + n ≤ 4294967295 → stopped_of (run_of s inputs n w).machine.next ≡ false
      → (run_of s inputs n w).machine.clock ≡ w.machine.clock + n
  runs_clock n w h f =
      let E = outside_of s inputs w.machine in
      let e : board_of (run_of s inputs n w) ≡ run E n (board_of w) = bridge s inputs n w h in
      ap (λ (b : Board). b.machine.clock) e
      ∙ run_clock E n (board_of w) (ap (λ (b : Board). stopped_of b.machine.next) (sym e) ∙ f)

  -- the board that a call gives back
  pub given_board : (stopped : Bool) (w : World) (n : ℕ) (r : Ran) → Good stopped w inputs s n r
      → given_back w inputs s n r ≡ board_of (run_of s inputs n w)
  given_board stopped w n r g =
      let l : left_of w inputs s n ≡ run_of s inputs n w = good_left w inputs s n g.verdict in
      let m : r.machine ≡ (run_of s inputs n w).machine = ap (λ (x : Ran). x.machine) g.ran in
      λ i. record { machine = m i; memory = (l i).memory; outputs = (l i).outputs }

  -- what a run made in calls comes to: its start is well formed, the clock does not wrap, and the board is that of one run
  pub record Long (b : Board) (k : ℕ) (b' : Board) : Type 0 where
    pub well : T (well_of b.machine)
    pub time : b.machine.clock + k ≤ 4294967295
    pub board : b' ≡ board_of (run_of s inputs k (world_on b []))

  -- the states that a call answers are those asked
  pub answered : (w : World) (n : ℕ) (r : Ran) → w.states ≡ 0 → Good false w inputs s n r → r.states ≡ n
  answered w n r z g = ap (λ (x : Ran). x.states) g.ran ∙ run_count s inputs n w g.ends ∙ omega arith

  pub reached_long : (b b' : Board) (k : ℕ) → Reached s inputs b k b' → Long b k b'
  reached_long b _ _ (amid l n k g h) =
      let t = good_time (world_on b l) inputs s n g in
      record {
        well = good_well (world_on b l) inputs s n g;
        time = omega arith;
        board = same_boards k (world_on b l) (world_on b []) refl refl;
      }
  reached_long b b' _ (after {k = k} l n r e c) =
      let w = world_on b l in
      let g = answer_good w inputs s n false r e in
      let q = answered w n r refl g in
      let t = good_time w inputs s n g.verdict in
      let x = given_back w inputs s n r in
      let y = reached_long x b' k c in
      let at : x ≡ board_of (run_of s inputs n w) = given_board false w n r g in
      let clock : x.machine.clock ≡ b.machine.clock + n =
      ap (λ (z : Board). z.machine.clock) at ∙ runs_clock n w t g.ends in
      record {
        well = good_well w inputs s n g.verdict;
        time = omega (arith, y.time);
        board =
            y.board
            ∙ sym (same_boards k (run_of s inputs n w) (world_on x []) (sym at) refl)
            ∙ ap board_of (sym (run_plus s inputs n k w))
            ∙ same_boards (n + k) w (world_on b []) refl refl
            ∙ ap (λ (i : ℕ). board_of (run_of s inputs (i + k) (world_on b []))) (sym q);
      }

  -- the end of calls is reached
  pub calls_reached : (b b' : Board) (n : ℕ) → Calls s inputs b n b' → Reached s inputs b n b'
  calls_reached b _ _ (last l n r e) =
      let w = world_on b l in
      let g = answer_good w inputs s n false r e in
      subst (λ (i : ℕ). Reached s inputs b i (given_back w inputs s n r)) (sym (answered w n r refl g))
      (subst (λ (z : Board). Reached s inputs b n z) (sym (given_board false w n r g)) (amid l n n g.verdict (omega arith)))
  calls_reached b b' _ (more l n r e c) = after l n r e (calls_reached _ b' _ c)
