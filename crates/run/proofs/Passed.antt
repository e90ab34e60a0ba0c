-- What a good verdict says of the arguments. Assumes nothing.
use Prim.Native.Nat.{ℕ, ◌+◌, ◌*◌, ◌/◌}
use mathlib.Core.Path.{◌≡◌, refl}
use mathlib.Core.Bool.{Bool, true, false, ◌&&◌}
use mathlib.Core.List.{List}
use borrow.Author.Tests.{eqb-true, leb-true}
use lib.Dec.{eqb, leb, eqb→eq}
use lib.ListN.{length}
use Rattle.std.specs.Prelude.{Result, Ok, Err}
use Rattle.laws.proofs.Every.{and_left, and_right}
use Rattle.laws.proofs.Tests.{true→T}
use Rattle.machine.specs.declared.record.Machine.{Machine}
use Rattle.machine.specs.Well.{well_of}
use Rattle.schedule.specs.declared.order.Fault.{Fault}
use Rattle.schedule.specs.Events.{checked_of}
use Rattle.schedule.proofs.Sorted.{checked_good, ordered_sorted}
use Rattle.run.specs.declared.answer.Refusal.{Refusal}
use Rattle.run.specs.declared.answer.Refusal.TheVariants.{MemorySize, PortSize, TooManyStates, TraceShort}
use Rattle.run.specs.declared.answer.Refusal.TheVariants.{IllFormed, ClockRange}
use Rattle.run.specs.Check.{and_then, unless, of_schedule, schedule_verdict, states_verdict, check_of}
use Rattle.run.specs.Going.{Ready, Fit}

-- tests one after the other are good where each is
all_good : (v : Result (Unit {0}) Refusal) (c d e f : Bool)
    → and_then v
    (and_then (unless c TooManyStates)
    (and_then (unless d TraceShort) (and_then (unless e IllFormed) (unless f ClockRange))))
    ≡ Ok tt
    → (v ≡ Ok tt) × (c ≡ true) × (d ≡ true) × (e ≡ true) × (f ≡ true)
all_good (Ok u) true true true true q = (refl, refl, refl, refl, refl)
all_good (Ok u) true true true false q = absurd cc
all_good (Ok u) true true false f q = absurd cc
all_good (Ok u) true false e f q = absurd cc
all_good (Ok u) false d e f q = absurd cc
all_good (Err r) c d e f q = absurd cc

schedule_good : (c : Result (Unit {0}) Fault) → of_schedule c ≡ Ok tt → c ≡ Ok tt
schedule_good (Ok u) e = refl
schedule_good (Err fault) e = absurd cc

-- of the tests 3 to 9 that are good together, each is: k is the length of the trace
rest_good : (m : Machine) (s : List ℕ) (k n : ℕ) → and_then (schedule_verdict s) (states_verdict m k n) ≡ Ok tt
    → (of_schedule (checked_of s) ≡ Ok tt)
    × (leb n 8192 ≡ true)
    × (leb (8 * n) k ≡ true)
    × (well_of m ≡ true)
    × (leb (m.clock + n) 4294967295 ≡ true)
unfolding schedule_verdict states_verdict
rest_good m s k n q =
    all_good (of_schedule (checked_of s)) (leb n 8192) (leb (8 * n) k) (well_of m) (leb (m.clock + n) 4294967295) q

-- a run that passes the tests 3 to 9 is ready
pub rest_fit : (m : Machine) (s l : List ℕ) (n : ℕ) → and_then (schedule_verdict s) (states_verdict m (length l) n) ≡ Ok tt
    → Ready m s l n
rest_fit m s l n q =
    let good = rest_good m s (length l) n q in
    record {
      sorted = ordered_sorted s (length s / 6) (checked_good s (schedule_good (checked_of s) good.0)).2;
      few = leb-true n 8192 good.1;
      room = leb-true (8 * n) (length l) good.2;
      time = leb-true (m.clock + n) 4294967295 good.4;
    }

sizes_good : (a b : Bool) (v : Result (Unit {0}) Refusal)
    → and_then (unless a MemorySize) (and_then (unless b PortSize) v) ≡ Ok tt → (a ≡ true) × (b ≡ true) × (v ≡ Ok tt)
sizes_good true true v q = (refl, refl, q)
sizes_good true false v q = absurd cc
sizes_good false b v q = absurd cc

-- the machine of a run that passes all is well formed
pub check_well : (m : Machine) (x i o : ℕ) (s : List ℕ) (k n : ℕ) → check_of m x i o s k n ≡ Ok tt → well_of m ≡ true
unfolding check_of
check_well m x i o s k n q = (rest_good m s k n (sizes_good (eqb x 65536) (eqb i 256 && eqb o 256) _ q).2).3

-- memory and ports have their sizes, and its arguments are fit
module _ (m : Machine) (x i o s l : List ℕ) (n : ℕ)
    (q : check_of m (length x) (length i) (length o) s (length l) n ≡ Ok tt) where
  good : (eqb (length x) 65536 ≡ true) × ((eqb (length i) 256 && eqb (length o) 256) ≡ true)
      × (and_then (schedule_verdict s) (states_verdict m (length l) n) ≡ Ok tt)
  unfolding check_of
  good = sizes_good (eqb (length x) 65536) (eqb (length i) 256 && eqb (length o) 256) _ q

  pub check_sizes : (length x ≡ 65536) × (length i ≡ 256) × (length o ≡ 256)
  check_sizes =
      let ports = true→T (eqb (length i) 256 && eqb (length o) 256) good.1 in (
        eqb-true (length x) 65536 good.0,
        eqb→eq (length i) 256 (and_left (eqb (length i) 256) (eqb (length o) 256) ports),
        eqb→eq (length o) 256 (and_right (eqb (length i) 256) (eqb (length o) 256) ports),
      )

  pub check_fit : Fit m x i o s l n
  check_fit =
      let (memory, inputs, outputs) = check_sizes in
      let ready = rest_fit m s l n good.2 in
      record {
        memory = memory;
        inputs = inputs;
        outputs = outputs;
        sorted = ready.sorted;
        few = ready.few;
        room = ready.room;
        time = ready.time;
      }
