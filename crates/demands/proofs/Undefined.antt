-- A run that stops has met an undefined opcode, and ends with the T3 that reads it. Assumes nothing.
use Prim.Native.Nat.{ℕ, ◌+◌}
use mathlib.Core.Path.{◌≡◌, sym, ap, ◌∙◌}
use mathlib.Core.Bool.{true, false, true≢false}
use native.Mathlib.Omega.{arith}
use Rattle.alu.specs.Words.{up_of}
use Rattle.opcodes.specs.Codes.{fetch4}
use Rattle.opcodes.specs.Cycles.{defined_of}
use Rattle.opcodes.specs.Kinds.{kind_of, writes_of, raises_of, waits_of}
use Rattle.opcodes.specs.declared.cycle.Acknowledge.TheVariants.{None}
use Rattle.effect.specs.Registers.{with_pc}
use Rattle.effect.specs.Kept.{kept_for}
use Rattle.machine.specs.declared.record.Position.TheVariants.{Fetch}
use Rattle.machine.specs.Record.{stopped_of}
use Rattle.machine.specs.Request.{asked_of}
use Rattle.machine.specs.Step.{risen_of}
use Rattle.run.specs.State.{memory_after, outputs_after}
use Rattle.demands.specs.Outside.{Outside}
use Rattle.demands.specs.Board.{Board, moment_of}
use Rattle.demands.specs.Legs.{Tally, tally, plus, states_in, Trip, stay, go}
use Rattle.demands.specs.Stopping.{StopsAt}
use Rattle.demands.proofs.Work.{risen, use_cycle, work_of}
use Rattle.demands.proofs.Stretches.{clock_pass}
use Rattle.demands.proofs.Steps.{run}
use Rattle.demands.proofs.Openings.{Start, opcode_none}
use Rattle.demands.proofs.Journeys as journeys
use Rattle.demands.proofs.Journeys.{now_begin}
use Rattle.demands.proofs.Runs.{now_awake, Ends, inside, stopped, leg, run_ends}
use Rattle.demands.proofs.Calling.{run_clock}
use Rattle.demands.proofs.Done.{trip_run}

-- a run that stops: legs, and then the undefined opcode
ends_stop : (E : Outside) (b₀ b : Board) (n : ℕ) → Ends E b₀ n b → stopped_of b.machine.next ≡ true
    → (q : Tally) × (m : Board) × Trip E b₀ q m × (i : ℕ) × (o : ℕ) × journeys.Stopped E m b i o
ends_stop E b₀ b n (inside x) f = absurd (true≢false (sym f ∙ now_awake E b₀ x))
ends_stop E b₀ b n (stopped i o m l z) f = (tally 0 0 0 0, b₀, stay, i, o, z)
ends_stop E b₀ b n (leg {b₁ = b₁} {n = k} q l x) f =
    let (p, m, t, i, o, z) = ends_stop E b₁ b k x f in (plus q p, m, go l t, i, o, z)

-- the fetch asks for a byte of memory, and changes none
module _ (E : Outside) (b : Board) (k : b.machine.kept ≡ kept_for None 0) where
  fetch_regs : (risen fetch4 (work_of b)).regs ≡ with_pc (up_of b.machine.regs.pc 1) b.machine.regs
  unfolding kept_for raises_of risen_of
  fetch_regs = rw k

  fetch_memory : (use_cycle E fetch4 0 (work_of b)).memory ≡ b.memory
  unfolding kept_for asked_of kind_of writes_of memory_after
  fetch_memory = rw k

  fetch_outputs : (use_cycle E fetch4 0 (work_of b)).outputs ≡ b.outputs
  unfolding kept_for asked_of kind_of writes_of outputs_after
  fetch_outputs = rw k

fetch_next : (b : Board) → b.machine.next ≡ Fetch → stopped_of b.machine.next ≡ false
unfolding stopped_of
fetch_next b e = ap stopped_of e

-- so many states as the clock has counted
pub stops_run : (E : Outside) (b b' : Board) (k n : ℕ) → Start b → b' ≡ run E k b → stopped_of b'.machine.next ≡ true
    → b'.machine.clock ≡ b.machine.clock + n → StopsAt E b n b'
unfolding waits_of kind_of
stops_run E b b' k n s e f c =
    let x : Ends E b (0 + k) (run E k b) = run_ends E k b b 0 0 (now_begin E b s) in
    let (q, m, t, i, o, z) =
    ends_stop E b (run E k b) (0 + k) x (ap (λ (y : Board). stopped_of y.machine.next) (sym e) ∙ f) in
    let board = e ∙ z.stops.board in
    let r = trip_run E b m q t in
    let there : m.machine.clock ≡ b.machine.clock + states_in q =
    ap (λ (y : Board). y.machine.clock) (sym r)
    ∙ run_clock E (states_in q) b
    (ap (λ (y : Board). stopped_of y.machine.next) r ∙ fetch_next m z.next) in
    let past : b'.machine.clock ≡ m.machine.clock + i =
    ap (λ (y : Board). y.machine.clock) board ∙ clock_pass E i (moment_of m) in
    record {
      tallied = q;
      at = m;
      trip = t;
      next = z.next;
      kept = z.kept;
      undefined = ap defined_of (sym (opcode_none E m z.kept)) ∙ z.stops.undefined;
      waits = z.stops.w;
      row = z.stops.waits;
      states = omega (arith, z.stops.count);
      stopped = ap (λ (y : Board). y.machine.next) board;
      regs = ap (λ (y : Board). y.machine.regs) board ∙ fetch_regs E m z.kept;
      memory = ap (λ (y : Board). y.memory) board ∙ fetch_memory E m z.kept;
      outputs = ap (λ (y : Board). y.outputs) board ∙ fetch_outputs E m z.kept;
    }
