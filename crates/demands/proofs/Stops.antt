-- A machine stops in T3 of a fetch that reads an undefined opcode, and nowhere else. Assumes nothing.
use Prim.Native.Nat.{ℕ, zero, suc, ◌+◌}
use mathlib.Core.Path.{◌≡◌, refl, sym, ap, ap₂, ◌∙◌, subst}
use mathlib.Core.Bool.{Bool, true, false, ◌&&◌, false≢true}
use mathlib.Core.List.{List}
use native.Mathlib.Omega.{arith}
use lib.Dec.{eqb}
use Rattle.laws.specs.Choice.{pick}
use Rattle.laws.proofs.Tests.{pick_both}
use Rattle.opcodes.specs.Cycles.{defined_of}
use Rattle.opcodes.specs.Kinds.{waits_of}
use Rattle.effect.specs.Kept.{keep_of}
use Rattle.machine.specs.declared.record.Position.{Position}
use Rattle.machine.specs.declared.record.Position.TheVariants.{Fetch, Later, Wait, Hold, Halt, Stop}
use Rattle.machine.specs.declared.record.Machine.{Machine}
use Rattle.machine.specs.declared.cycle.Cycle.{Cycle}
use Rattle.machine.specs.Record.{with_next, with_regs, with_kept, with_clock, with_lines, stopped_of}
use Rattle.machine.specs.Cycle.{cycle_of}
use Rattle.machine.specs.Ending.{takes_of, acknowledge_of, clear_of, is_hlt, ended_of, follow_of, holds, hold_of, end_of}
use Rattle.machine.specs.Step.{risen_of, wait_of, second_of, fetched_of, onward_of, took_of, from_third, later_of, halted_of, moved_of, step_of}
use Rattle.machine.proofs.Onward.{fetch_third}
use Rattle.run.specs.State.{heard}
use Rattle.run.specs.Run.{World, eventful_of, state_of, run_of}
use Rattle.run.proofs.Laws.{next_of, run_stopped}
use Rattle.demands.proofs.Counted.{next_count}

-- the machine goes on
abbrev Goes : Machine → Type 0
Goes m = stopped_of m.next ≡ false

pick_goes : (b : Bool) (p q : Position) → stopped_of p ≡ false → stopped_of q ≡ false → stopped_of (pick b p q) ≡ false
pick_goes true p q x y = x
pick_goes false p q x y = y

wait_goes : (b : Bool) (c : ℕ) (m : Machine) → Goes (wait_of b c m)
unfolding wait_of with_next stopped_of
wait_goes b c m = pick_goes (b && eqb m.lines.ready 0) (Wait c) (Later c 3) refl refl

ended_goes : (m : Machine) → Goes (ended_of m)
unfolding ended_of acknowledge_of clear_of stopped_of
ended_goes m =
    pick_both Goes (takes_of m) _ _ (λ e. refl) (λ e. pick_goes (is_hlt m) Halt Fetch refl refl)

follow_goes : (n : ℕ) (m : Machine) → Goes (follow_of n m)
unfolding follow_of with_next stopped_of
follow_goes n m = pick_both Goes (eqb n 0) (ended_of m) _ (λ e. ended_goes m) (λ e. refl)

hold_goes : (c n : ℕ) (m : Machine) → Goes (hold_of c n m)
unfolding hold_of with_next stopped_of
hold_goes c n m = pick_both Goes (holds m) _ (follow_of n m) (λ e. refl) (λ e. follow_goes n m)

end_goes : (c n : ℕ) (m : Machine) → Goes (end_of c n m)
unfolding end_of
end_goes c n m = hold_goes c n _

onward_goes : (y : Cycle) (c s : ℕ) (m : Machine) → Goes (onward_of y c s m)
unfolding onward_of with_next stopped_of
onward_goes y c s m = pick_both Goes (eqb y.states s) _ _ (λ e. end_goes c y.after m) (λ e. refl)

third_goes : (y : Cycle) (c s v : ℕ) (m : Machine) → Goes (from_third y c s v m)
unfolding from_third
third_goes y c s v m =
    pick_both Goes (eqb s 3) _ _ (λ e. onward_goes y c 3 (took_of y.code c v m))
    (λ e. pick_both Goes (eqb s 4) _ _ (λ e. onward_goes y c 4 m) (λ e. end_goes c y.after m))

-- a state of cycle c that stops is T3 of the first, where the opcode is not defined
module _ (c s : ℕ) (d : Bool) where
  abbrev Here : Machine → Type 0
  Here m = stopped_of m.next ≡ true → (Later c s ≡ Later 1 3) × (d ≡ false)

  not_here : (m : Machine) → Goes m → Here m
  not_here m g e = absurd (false≢true (sym g ∙ e))

  fetched_stops : (v : ℕ) (m : Machine) → eqb s 3 && eqb c 1 ≡ true → Here (fetched_of d v m)
  unfolding fetched_of with_next clear_of stopped_of
  fetched_stops v m t =
      let (q, p) = fetch_third c s t in
      let on = with_next (Later 1 4) (with_kept (keep_of 1 v m.kept) m) in
      pick_both Here d on (clear_of Stop m) (λ e. not_here on refl) (λ e x. (ap₂ Later p q, e))

  later_stops : (y : Cycle) (v : ℕ) (m : Machine) → Here (later_of y c s d v m)
  unfolding later_of second_of with_next stopped_of
  later_stops y v m =
      let up = with_regs (risen_of y.code m.kept m.regs) m in
      pick_both Here (eqb s 1) (with_next (Later c 2) m) _ (λ e. not_here (with_next (Later c 2) m) refl)
      (λ e₁. pick_both Here (eqb s 2) (second_of y.code c m) _
      (λ e. not_here (second_of y.code c m) (wait_goes (waits_of y.code) c up))
      (λ e₂. pick_both Here (eqb s 3 && eqb c 1) (fetched_of d v m) _ (λ e. fetched_stops v m e)
      (λ e₃. not_here (from_third y c s v m) (third_goes y c s v m))))

-- so does a machine at any position
moved_stops : (p : Position) (v : ℕ) (m : Machine) → stopped_of p ≡ false → stopped_of (moved_of p v m).next ≡ true
    → (p ≡ Later 1 3) × (defined_of v ≡ false)
unfolding moved_of halted_of with_next stopped_of
moved_stops Fetch v m g e = absurd (false≢true e)
moved_stops (Later c s) v m g e =
    later_stops c s (defined_of v) (cycle_of m.kept.opcode m.regs.f c) v m e
moved_stops (Wait c) v m g e = absurd (false≢true (sym (wait_goes true c m) ∙ e))
moved_stops (Hold c) v m g e =
    absurd (false≢true (sym (hold_goes c (cycle_of m.kept.opcode m.regs.f c).after m) ∙ e))
moved_stops Halt v m g e = absurd (false≢true (sym (hold_goes 2 0 (with_kept (keep_of 1 0x76 m.kept) m)) ∙ e))
moved_stops Stop v m g e = absurd (false≢true (sym g))

module _ (s inputs : List ℕ) where
  -- in the next state of the world w
  abbrev pub StopsHere : World → Type 0
  StopsHere w =
      (w.machine.next ≡ Later 1 3) × (defined_of (heard (eventful_of s w.machine) w.memory inputs) ≡ false)

  next_stops : (w : World) → stopped_of w.machine.next ≡ false → stopped_of (next_of s inputs w).machine.next ≡ true → StopsHere w
  unfolding state_of step_of with_clock eventful_of with_lines
  next_stops w g e =
      moved_stops w.machine.next (heard (eventful_of s w.machine) w.memory inputs) (eventful_of s w.machine) g e

  run_go : (n : ℕ) (w : World) → stopped_of w.machine.next ≡ false → run_of s inputs (suc n) w ≡ run_of s inputs n (next_of s inputs w)
  unfolding run_of
  run_go n w g = rw g

  run_zero : (w : World) → run_of s inputs 0 w ≡ w
  unfolding run_of
  run_zero w = refl

  -- a run from w to v stops in its last state, which comes after j others
  abbrev pub Stops : World → World → Type 0
  Stops w v = (j : ℕ) × (v.states ≡ w.states + (j + 1)) × StopsHere (run_of s inputs j w)

  stops_step : (b : Bool) (n : ℕ) (w : World) → stopped_of w.machine.next ≡ false
      → stopped_of (next_of s inputs w).machine.next ≡ b
      → (b ≡ false → Stops (next_of s inputs w) (run_of s inputs n (next_of s inputs w)))
      → Stops w (run_of s inputs n (next_of s inputs w))
  stops_step true n w g e f =
      let a = ap (λ (x : World). x.states) (run_stopped s inputs n (next_of s inputs w) e) ∙ next_count s inputs w in
      (0, omega (arith, a), subst StopsHere (sym (run_zero w)) (next_stops w g e))
  stops_step false n w g e f =
      let x = f refl in
      let a = next_count s inputs w in
      (suc x.0, omega (arith, x.1, a), subst StopsHere (sym (run_go x.0 w g)) x.2)

  pub run_stops : (n : ℕ) (w : World) → stopped_of w.machine.next ≡ false
      → stopped_of (run_of s inputs n w).machine.next ≡ true → Stops w (run_of s inputs n w)
  run_stops zero w g e =
      absurd (false≢true (sym g ∙ ap (λ (x : World). stopped_of x.machine.next) (sym (run_zero w)) ∙ e))
  run_stops (suc n) w g e =
      let same = run_go n w g in
      let e' = ap (λ (x : World). stopped_of x.machine.next) (sym same) ∙ e in
      subst (Stops w) (sym same)
      (stops_step (stopped_of (next_of s inputs w).machine.next) n w g refl (λ h. run_stops n (next_of s inputs w) h e'))
