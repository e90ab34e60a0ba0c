-- The theorems of demands 2 and 3, first sentence. Assumes nothing.
use Prim.Native.Nat.{ℕ, ◌+◌}
use mathlib.Core.Path.{◌≡◌, refl, sym, ap, ◌∙◌, subst}
use mathlib.Core.Bool.{Bool, true, false}
use mathlib.Core.Logic.{inl, inr}
use mathlib.Core.List.{[]}
use native.Mathlib.Omega.{arith}
use Rattle.laws.specs.Choice.{pick}
use Rattle.opcodes.specs.declared.cycle.Acknowledge.TheVariants.{Running, Halted}
use Rattle.effect.specs.Registers.{with_inte}
use Rattle.effect.specs.Kept.{kept_for}
use Rattle.machine.specs.declared.record.Position.TheVariants.{Fetch, Halt}
use Rattle.machine.specs.declared.record.Machine.{Machine}
use Rattle.machine.specs.Ending.{takes_of, acknowledge_of, clear_of, is_hlt, ended_of}
use Rattle.run.specs.Run.{run_of}
use Rattle.demands.specs.Outside.{Outside, outside_of, did_times}
use Rattle.demands.specs.Board.{Board, board_of, moment_of}
use Rattle.demands.specs.Begins.{begins, Acknowledges}
use Rattle.demands.specs.Legs.{Tally, tally, plus, states_in, afterwards, opcode_at, manual_at, states_at, instruction, stay}
use Rattle.demands.specs.Legs.{go}
use Rattle.demands.specs.Calls.{world_on}
use Rattle.demands.specs.Demand2.{InstructionsDone, ForcedDone, Executed, InstructionEnds}
use Rattle.demands.specs.Manual.{Result}
use Rattle.demands.specs.Demand3.{StatesForced}
use Rattle.demands.specs.Costs.{Costs}
use Rattle.demands.proofs.Steps.{run}
use Rattle.demands.proofs.Bridge.{bridge}
use Rattle.demands.proofs.Openings.{Start, acked}
use Rattle.demands.proofs.Journeys.{now_begin}
use Rattle.demands.proofs.Runs.{Ends, run_ends, ends_trip}
use Rattle.demands.proofs.Once.{trip_one}
use Rattle.demands.proofs.Done.{trip_run}
use Rattle.demands.proofs.Fresh.{beginning_start}
use Rattle.demands.proofs.Calling.{reached_long, calls_reached}

-- a run of k states that ends where a leg begins
costs_run : (E : Outside) (b : Board) (k : ℕ) → Start b → begins (run E k b).machine.next ≡ true → Costs E b k (run E k b)
costs_run E b k s f =
    let x : Ends E b (0 + k) (run E k b) = run_ends E k b b 0 0 (now_begin E b s) in
    let (q, trip, e) = ends_trip E b (run E k b) (0 + k) x f in
    let n : k ≡ states_in q = omega arith in
    record {
      tallied = q;
      trip = trip;
      states = n;
      only = λ p y t z. trip_one E b p q y (run E k b) t trip (z ∙ n);
    }

pub instructions_done : InstructionsDone
instructions_done s inputs b b' k r w f =
    let l = reached_long s inputs b b' k r in
    let E = outside_of s inputs b.machine in
    let e : b' ≡ run E k b = l.board ∙ bridge s inputs k (world_on b []) l.time in
    subst (Costs E b k) (sym e)
    (costs_run E b k (beginning_start b l.well w) (ap (λ (x : Board). begins x.machine.next) (sym e) ∙ f))

pub forced_done : ForcedDone
forced_done s inputs b b' q t h =
    bridge s inputs (states_in q) (world_on b []) h ∙ trip_run (outside_of s inputs b.machine) b b' q t

pub states_forced : StatesForced
states_forced s inputs b b' n c w v = instructions_done s inputs b b' n (calls_reached s inputs b b' n c) w v.0

-- what comes after an instruction that leaves a
executed_pick : (c : Bool) (a : Result) (x y : Machine) → x.regs ≡ with_inte false a.regs → Acknowledges x → y.regs ≡ a.regs
    → Executed a (record { machine = pick c x y; memory = a.memory; outputs = a.outputs })
executed_pick true a x y p q r = record { memory = refl; outputs = refl; regs = inr (p, q) }
executed_pick false a x y p q r = record { memory = refl; outputs = refl; regs = inl r }

ended_executed : (m : Machine) (a : Result) → m.regs ≡ a.regs
    → Executed a (record { machine = ended_of m; memory = a.memory; outputs = a.outputs })
unfolding ended_of acknowledge_of clear_of kept_for
ended_executed m a e =
    executed_pick (takes_of m) a (acknowledge_of (pick (is_hlt m) Halted Running) m) (clear_of (pick (is_hlt m) Halt Fetch) m)
    (ap (with_inte false) e) (refl, acked (is_hlt m)) e

pub instruction_ends : InstructionEnds
unfolding outside_of
instruction_ends s inputs b w h e k d f l =
    let E = outside_of s inputs b.machine in
    let q : Tally = tally (states_at b) w h 0 in
    let n : states_in (plus q (tally 0 0 0 0)) ≡ states_at b + w + h = omega arith in
    let x = afterwards (opcode_at b) (manual_at E b) (did_times E (states_at b + w + h) (moment_of b)) in
    let r : board_of (run_of s inputs (states_at b + w + h) (world_on b [])) ≡ x =
    ap (λ (i : ℕ). board_of (run_of s inputs i (world_on b []))) (sym n)
    ∙ forced_done s inputs b x (plus q (tally 0 0 0 0)) (go (instruction w h e k d f) stay) (omega arith) in
    subst (Executed (manual_at E b)) (sym r) (ended_executed _ (manual_at E b) refl)
