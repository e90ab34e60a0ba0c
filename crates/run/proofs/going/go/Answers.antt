-- `run::going::go` meets its contract. The loop keeps the run's result (Turn, `Going`).
-- Assumes nothing.
use mathlib.Core.Path.{refl, sym, ◌∙◌}
use native.Mathlib.Omega.{arith}
use native.Mathlib.Nat.{sub-zero}
use borrow.Author.Rules.{rules}
use Rattle.run.proofs.Turn.{lined_by, turn, stop, end, turn_clock}
use Rattle.run.proofs.going.go.Goals as goal

pub loop-states-init : goal.loop-states-init
loop-states-init c =
    record {
      trace = refl;
      run = simp sub-zero;
      time = omega (arith, c.requires.time);
      within = search rules;
      past = λ j p. absurd (let no : ⊥ = omega arith in no);
    }

pub returns-then-stopped : goal.returns-then-stopped
returns-then-stopped c =
    stop _ _ _ _ _ _ _ _ _ _ _ _ _ c.loop-states.invariant (sym c.stopped.ensures ∙ c.if-stopped.true)

pub levels_at-due-requires : goal.levels_at-due-requires
levels_at-due-requires c =
    let inv = c.loop-states.invariant in
    record { room = omega arith; within = inv.within; sorted = c.requires.sorted; past = inv.past }

pub state-requires : goal.state-requires
state-requires c =
    let inv = c.loop-states.invariant in
    omega (arith, inv.trace, c.requires.room, c.loop-states-test.true)

-- a turn
pub loop-states-preserved : goal.loop-states-preserved
loop-states-preserved c =
    let some = c.loop-states-test.true in
    let inv = c.loop-states.invariant in
    let going = sym c.stopped.ensures ∙ c.if-stopped.false in
    let set = c.with_lines-machine.ensures in
    let lined = lined_by _ _ _ _ c.levels_at-due.ensures in
    let clock = turn_clock _ _ _ _ _ _ _ _ _ _ _ _ going set c.state.ensures in
    record {
      trace = c.state.auto.trace ∙ inv.trace;
      run = turn _ _ _ _ _ _ _ _ _ _ _ _ _ some going (set ∙ lined.lines) c.state.ensures ∙ inv.run;
      time = omega (arith, clock, inv.time, some);
      within = lined.within;
      past = λ j p. omega (arith, clock, lined.done j p, inv.time, some);
    }

pub returns : goal.returns
returns c = end _ _ _ _ _ _ _ _ _ _ _ _ _ c.loop-states.invariant (omega (arith, c.loop-states-test.false))
