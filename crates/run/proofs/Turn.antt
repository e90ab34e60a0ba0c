-- One turn of the loop that does the states: what holds before it, and that it does one state of the definition.
-- Assumes nothing.
use Prim.Native.Nat.{ℕ, ◌+◌, ◌-◌, ◌*◌, ◌/◌, ◌%◌, ◌≤◌, ◌<◌}
use mathlib.Core.Path.{◌≡◌, sym, ap, ◌∙◌}
use mathlib.Core.Bool.{true, false}
use mathlib.Core.List.{List}
use native.Mathlib.Omega.{arith}
use lib.ListN.{length}
use Rattle.machine.specs.declared.record.Lines.{Lines}
use Rattle.machine.specs.declared.record.Machine.{Machine}
use Rattle.machine.specs.Record.{with_lines, stopped_of}
use Rattle.machine.proofs.Laws.{clock_rises}
use Rattle.schedule.specs.Events.{state_number_of}
use Rattle.schedule.specs.Levels.{Gives}
use Rattle.run.specs.State.{After}
use Rattle.run.specs.Run.{World, eventful_of, state_of, run_of}
use Rattle.run.specs.Outcome.{start_of, ran_in}
use Rattle.run.specs.Going.{Went}
use Rattle.run.proofs.Laws.{run_none, run_stopped, run_more}

-- the machine m over memory x, output ports o and trace l, with k states done
abbrev pub world : Machine → List ℕ → List ℕ → List ℕ → ℕ → World
world m x o l k = record { machine = m; memory = x; outputs = o; trace = l; states = k }

-- before a turn: what is left of the run gives what the whole run gives
pub record Going (x₀ i o₀ s l₀ : List ℕ) (n : ℕ) (m₀ : Machine) (x o l : List ℕ) (cur : Machine) (k from : ℕ) : Type 0 where
  pub trace : length l ≡ length l₀
  pub run : run_of s i (n - k) (world cur x o l k) ≡ run_of s i n (start_of m₀ x₀ o₀ l₀)
  pub time : cur.clock + (n - k) ≤ 4294967295
  pub within : from ≤ length s / 6
  pub past : (j : ℕ) → j < from → state_number_of s j < cur.clock

-- a state of the machine m, as `state` leaves it, is the definition's
state_world : (c m n : Machine) (x i o l : List ℕ) (k : ℕ) (x' o' l' : List ℕ) → After m x i o l (8 * k) n x' o' l'
    → world n x' o' l' (k + 1) ≡ state_of i m (world c x o l k)
unfolding state_of
state_world c m n x i o l k x' o' l' a = rw (a.machine, a.memory, a.outputs, a.trace)

-- so a turn leaves the run's result as it was
pub turn : (cur r y : Machine) (x i o s l : List ℕ) (n k : ℕ) (x' o' l' : List ℕ) → k < n
    → stopped_of cur.next ≡ false → r ≡ eventful_of s cur → After r x i o l (8 * k) y x' o' l'
    → run_of s i (n - (k + 1)) (world y x' o' l' (k + 1)) ≡ run_of s i (n - k) (world cur x o l k)
turn cur r y x i o s l n k x' o' l' h f e a =
    let less : n - (k + 1) ≡ n - k - 1 = omega arith in
    rw less
    (ap (run_of s i (n - k - 1)) (state_world cur r y x i o l k x' o' l' a)
    ∙ rw e (run_more s i (n - k) (world cur x o l k) (omega arith) f))

-- a run that ends in the world w has gone
went : (m : Machine) (x i o s l : List ℕ) (n : ℕ) (w : World) → w ≡ run_of s i n (start_of m x o l)
    → Went m x i o s l n (ran_in w) w.memory w.outputs w.trace
went m x i o s l n w e =
    record {
      ran = ap ran_in e;
      memory = ap (λ (v : World). v.memory) e;
      outputs = ap (λ (v : World). v.outputs) e;
      trace = ap (λ (v : World). v.trace) e;
    }

-- where the machine stops the rest of the run is no state, and after n states nothing is left of it
module _ (x₀ i o₀ s l₀ : List ℕ) (n : ℕ) (m₀ : Machine) (x o l : List ℕ) (cur : Machine) (k from : ℕ)
    (g : Going x₀ i o₀ s l₀ n m₀ x o l cur k from) where
  pub stop : stopped_of cur.next ≡ true → Went m₀ x₀ i o₀ s l₀ n (record { machine = cur; states = k }) x o l
  stop e = went m₀ x₀ i o₀ s l₀ n (world cur x o l k) (sym (run_stopped s i (n - k) (world cur x o l k) e) ∙ g.run)

  pub end : k ≡ n → Went m₀ x₀ i o₀ s l₀ n (record { machine = cur; states = n }) x o l
  end q =
      let left : n - k ≤ 0 = omega arith in
      went m₀ x₀ i o₀ s l₀ n (world cur x o l n)
      (ap (world cur x o l) (sym q) ∙ sym (run_none s i (n - k) (world cur x o l k) left) ∙ g.run)

-- the machine r is m after the events of the state that comes next, and no event before the place from lies past that state
pub record Lined (s : List ℕ) (m r : Machine) (from : ℕ) : Type 0 where
  pub lines : r ≡ eventful_of s m
  pub within : from ≤ length s / 6
  pub done : (j : ℕ) → j < from → state_number_of s j ≤ m.clock

-- so it is by what the cursor finds
pub lined_by : (s : List ℕ) (m : Machine) (l : Lines) (from : ℕ) → Gives s (length s / 6) m.clock m.lines l from
    → Lined s m (with_lines l m) from
unfolding eventful_of
lined_by s m l from g = record { lines = ap (λ (v : Lines). with_lines v m) g.lines; within = g.within; done = g.done }

-- and the clock has counted the state
pub turn_clock : (cur r n : Machine) (v : Lines) (x i o l : List ℕ) (at : ℕ) (x' o' l' : List ℕ) → stopped_of cur.next ≡ false
    → r ≡ with_lines v cur → After r x i o l at n x' o' l' → n.clock ≡ (cur.clock + 1) % 4294967296
unfolding with_lines
turn_clock cur r n v x i o l at x' o' l' f e a =
    ap (λ (y : Machine). y.clock) a.machine
    ∙ clock_rises _ r (ap (λ (y : Machine). stopped_of y.next) e ∙ f)
    ∙ ap (λ (y : Machine). (y.clock + 1) % 4294967296) e
