-- One turn of the loop that calls the runs: what holds before it, and that it does one run of the definition.
-- Assumes nothing.
use Rattle.std.proofs.Common.{◌≡◌, ℕ, zero, suc, ◌+◌, ◌-◌, ◌%◌, ◌<◌, ◌≤◌, Bool, true, false, List, length, sym, refl, ap, ◌∙◌, arith}
use Rattle.std.specs.Prelude.{Result, Ok, Err}
use Rattle.laws.specs.Choice.{pick}
use Rattle.machine.specs.declared.record.Machine.{Machine}
use Rattle.machine.specs.Record.{cold_of, stopped_of}
use Rattle.run.specs.declared.answer.Refusal.{Refusal}
use Rattle.run.specs.declared.answer.Ran.{Ran}
use Rattle.run.specs.declared.answer.Answer.{Answer}
use Rattle.run.specs.declared.answer.Answer.TheVariants.{Done, Stopped}
use Rattle.run.specs.Run.{World, run_of}
use Rattle.run.specs.Answer.{ran_of}
use Rattle.run.specs.Outcome.{start_of, verdict_of, ran_in, left_by, left_of, answered_of, answer_by, answer_of, Outcome}
use Rattle.run.proofs.Turn.{world}
use Rattle.rounds.specs.Rounds.{round_of, rounds_of, Rounded}

-- before a turn, with c calls done: the runs that are left give what all of them give
pub record Turning (x₀ i o₀ s l₀ : List ℕ) (n calls : ℕ) (m₀ : Machine) (x o l : List ℕ) (cur : Machine) (c k : ℕ) : Type 0 where
  pub memory : length x ≡ length x₀
  pub outputs : length o ≡ length o₀
  pub trace : length l ≡ length l₀
  pub runs : rounds_of s i n (calls - c) (world cur x o l k) ≡ rounds_of s i n calls (start_of m₀ x₀ o₀ l₀)

-- no run, and one run more
module _ (s i : List ℕ) (n : ℕ) where
  rounds_none : (calls : ℕ) (w : World) → calls ≤ 0 → rounds_of s i n calls w ≡ w
  unfolding rounds_of
  rounds_none zero w h = refl
  rounds_none (suc calls) w h = absurd (let no : ⊥ = omega arith in no)

  suc_less : (k : ℕ) → suc k - 1 ≡ k
  suc_less k = omega arith

  rounds_more : (calls : ℕ) (w : World) → 0 < calls
      → rounds_of s i n (calls - 1) (round_of s i n w) ≡ rounds_of s i n calls w
  unfolding rounds_of
  rounds_more zero w h = absurd (let no : ⊥ = omega arith in no)
  rounds_more (suc calls) w h = simp (suc_less calls)

-- an answer carries what the run leaves: the machine and its states
ended_by : (b : Bool) (r : Ran) → ran_of (pick b (Stopped r) (Done r)) ≡ r
ended_by true r = refl
ended_by false r = refl

ran_ended : (r : Ran) → ran_of (answered_of r) ≡ r
unfolding answered_of
ran_ended r = ended_by (stopped_of r.machine.next) r

ran_by : (v : Result (Unit {0}) Refusal) (after before : World) → ran_of (answer_by v after before) ≡ ran_in (left_by v after before)
ran_by (Ok u) after before = ran_ended (ran_in after)
ran_by (Err reason) after before = refl

ran_left : (w : World) (i s : List ℕ) (n : ℕ) → ran_of (answer_of w i s n) ≡ ran_in (left_of w i s n)
unfolding answer_of left_of
ran_left w i s n = ran_by (verdict_of w i s n) (run_of s i n w) w

-- a run, as `run` answers and leaves it, is the definition's
round_world : (cur : Machine) (x i o s l : List ℕ) (n k : ℕ) (a : Answer) (r : Ran) (k' : ℕ) (x' o' l' : List ℕ)
    → Outcome cur x i o s l n a x' o' l' → r ≡ ran_of a → k' ≡ (k + r.states) % 18446744073709551616
    → world r.machine x' o' l' k' ≡ round_of s i n (world cur x o l k)
unfolding round_of
round_world cur x i o s l n k a r k' x' o' l' w e q =
    let left : r ≡ ran_in (left_of (start_of cur x o l) i s n) = e ∙ ap ran_of w.answer ∙ ran_left (start_of cur x o l) i s n in
    rw (q, left, w.memory, w.outputs, w.trace)

-- so a turn leaves the result of all runs as it was
pub turn : (cur : Machine) (x i o s l : List ℕ) (n calls c k : ℕ) (a : Answer) (r : Ran) (k' : ℕ) (x' o' l' : List ℕ) → c < calls
    → Outcome cur x i o s l n a x' o' l' → r ≡ ran_of a → k' ≡ (k + r.states) % 18446744073709551616
    → rounds_of s i n (calls - (c + 1)) (world r.machine x' o' l' k') ≡ rounds_of s i n (calls - c) (world cur x o l k)
turn cur x i o s l n calls c k a r k' x' o' l' h w e q =
    let less : calls - (c + 1) ≡ calls - c - 1 = omega arith in
    rw less
    (ap (rounds_of s i n (calls - c - 1)) (round_world cur x i o s l n k a r k' x' o' l' w e q)
    ∙ rounds_more s i n (calls - c) (world cur x o l k) (omega arith))

-- and no run left is the contract
pub ending : (x₀ i o₀ s l₀ : List ℕ) (n calls : ℕ) (m₀ : Machine) (x o l : List ℕ) (cur : Machine) (c k : ℕ) → calls ≤ c
    → m₀ ≡ cold_of → Turning x₀ i o₀ s l₀ n calls m₀ x o l cur c k → Rounded calls n x₀ i o₀ s l₀ k x o l
ending x₀ i o₀ s l₀ n calls m₀ x o l cur c k h cold t =
    let e : world cur x o l k ≡ rounds_of s i n calls (start_of cold_of x₀ o₀ l₀) =
    sym (rounds_none s i n (calls - c) (world cur x o l k) (omega arith))
    ∙ t.runs
    ∙ ap (λ m. rounds_of s i n calls (start_of m x₀ o₀ l₀)) cold
    in
    record {
      states = ap (λ (w : World). w.states) e;
      memory = ap (λ (w : World). w.memory) e;
      outputs = ap (λ (w : World). w.outputs) e;
      trace = ap (λ (w : World). w.trace) e;
    }
