-- A run in several calls: the trace and the count so far play no part in what the states do, so a second call, with a trace of
-- its own, goes on where the first ended. And two results that the contract of `run` allows coincide. Assumes nothing.
use Prim.Native.Nat.{ℕ, zero, suc, ◌+◌}
use mathlib.Core.Path.{◌≡◌, refl, sym, ap}
use mathlib.Core.Bool.{Bool, true, false, false≢true}
use mathlib.Core.List.{List}
use native.Mathlib.Omega.{arith}
use Rattle.std.specs.Prelude.{Ok}
use Rattle.laws.specs.Choice.{pick}
use Rattle.laws.proofs.Unique.{one_value}
use Rattle.machine.specs.declared.record.Machine.{Machine}
use Rattle.machine.specs.Record.{stopped_of}
use Rattle.run.specs.declared.answer.Answer.{Answer}
use Rattle.run.specs.Run.{World, state_of, run_of}
use Rattle.run.specs.Outcome.{start_of, verdict_of, left_of, Outcome}
use Rattle.run.proofs.Laws.{next_of, run_plus, good_left}

-- two worlds differ in the trace at most, and the first has done d states more
pub record Same (d : ℕ) (w v : World) : Type 0 where
  pub machine : w.machine ≡ v.machine
  pub memory : w.memory ≡ v.memory
  pub outputs : w.outputs ≡ v.outputs
  pub states : w.states ≡ d + v.states

module _ (s inputs : List ℕ) (d : ℕ) where
  same_next : (w v : World) → Same d w v → Same d (next_of s inputs w) (next_of s inputs v)
  unfolding state_of
  same_next w v e =
      record {
        machine = rw (e.machine, e.memory);
        memory = rw (e.machine, e.memory);
        outputs = rw (e.machine, e.outputs);
        states = omega (arith, e.states);
      }

  same_pick : (b c : Bool) (w v x y : World) → b ≡ c → Same d w v → Same d x y → Same d (pick b w x) (pick c v y)
  same_pick true true w v x y q e f = e
  same_pick true false w v x y q e f = absurd (false≢true (sym q))
  same_pick false true w v x y q e f = absurd (false≢true q)
  same_pick false false w v x y q e f = f

  -- the same states from both
  pub run_same : (n : ℕ) (w v : World) → Same d w v → Same d (run_of s inputs n w) (run_of s inputs n v)
  unfolding run_of
  run_same zero w v e = e
  run_same (suc n) w v e =
      same_pick _ _ w v _ _ (ap (λ (m : Machine). stopped_of m.next) e.machine) e
      (run_same n _ _ (same_next w v e))

-- the world u as the next call finds it, with the trace l
abbrev pub onward : World → List ℕ → World
onward u l = start_of u.machine u.memory u.outputs l

-- a call of a states and then one of b states, over one schedule and the same input ports, leave what a run of a + b states
-- leaves, and their states add up
pub run_calls : (s inputs l : List ℕ) (a b : ℕ) (w : World) → verdict_of w inputs s a ≡ Ok tt
    → verdict_of (onward (left_of w inputs s a) l) inputs s b ≡ Ok tt
    → Same (left_of w inputs s a).states (run_of s inputs (a + b) w) (left_of (onward (left_of w inputs s a) l) inputs s b)
run_calls s inputs l a b w g h =
    let u = left_of w inputs s a in
    rw (run_plus s inputs a b w, good_left (onward u l) inputs s b h, ← (good_left w inputs s a g))
    (run_same s inputs u.states b u (onward u l)
    record { machine = refl; memory = refl; outputs = refl; states = omega arith })

-- two results that the contract allows coincide
pub record Equal (r : Answer) (x o l : List ℕ) (r' : Answer) (x' o' l' : List ℕ) : Type 0 where
  pub answer : r ≡ r'
  pub memory : x ≡ x'
  pub outputs : o ≡ o'
  pub trace : l ≡ l'

pub run_unique : (m : Machine) (x i o s l : List ℕ) (n : ℕ) (r r' : Answer) (x₁ o₁ l₁ x₂ o₂ l₂ : List ℕ)
    → Outcome m x i o s l n r x₁ o₁ l₁ → Outcome m x i o s l n r' x₂ o₂ l₂ → Equal r x₁ o₁ l₁ r' x₂ o₂ l₂
run_unique m x i o s l n r r' x₁ o₁ l₁ x₂ o₂ l₂ p q =
    record {
      answer = one_value p.answer q.answer;
      memory = one_value p.memory q.memory;
      outputs = one_value p.outputs q.outputs;
      trace = one_value p.trace q.trace;
    }
