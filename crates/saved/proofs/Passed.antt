-- What a good verdict says of the arguments. Assumes nothing.
use Prim.Native.Nat.{ℕ}
use mathlib.Core.Path.{◌≡◌, refl}
use mathlib.Core.Bool.{Bool, true, false}
use mathlib.Core.List.{List}
use borrow.Author.Tests.{eqb-true}
use lib.ListN.{length}
use Rattle.machine.specs.declared.record.Machine.{Machine}
use Rattle.machine.specs.Well.{well_of}
use Rattle.saved.specs.declared.answer.Refusal.{Refusal}
use Rattle.std.specs.Prelude.{Result, Ok}
use Rattle.saved.specs.Header.{between_of}
use Rattle.saved.specs.Fields.{in_range}
use Rattle.saved.specs.Check.{pass, save_verdict, load_verdict}

-- a good verdict shows that the first test holds and the others are good
passed : (test : Bool) (reason : Refusal) (v : Result (Unit {0}) Refusal) → pass test reason v ≡ Ok tt
    → (test ≡ true) × (v ≡ Ok tt)
passed true reason v e = (refl, e)
passed false reason v e = absurd cc

-- a machine m that may be saved, with memory of x bytes and output ports of o, into an output of l
pub record Savable (m : Machine) (x o l : ℕ) : Type 0 where
  pub memory : x ≡ 65536
  pub ports : o ≡ 256
  pub well : well_of m ≡ true
  pub between : between_of m ≡ true
  pub size : l ≡ 65816

pub save_passed : (m : Machine) (x o l : ℕ) → save_verdict m x o l ≡ Ok tt → Savable m x o l
unfolding save_verdict
save_passed m x o l e =
    let one = passed _ _ _ e in
    let two = passed _ _ _ one.1 in
    let three = passed _ _ _ two.1 in
    let four = passed _ _ _ three.1 in
    let five = passed _ _ _ four.1 in
    record {
      memory = eqb-true x 65536 one.0;
      ports = eqb-true o 256 two.0;
      well = three.0;
      between = four.0;
      size = eqb-true l 65816 five.0;
    }

-- a saved form s that may be loaded into memory of x bytes and output ports of o
pub record Loadable (s : List ℕ) (x o : ℕ) : Type 0 where
  pub size : length s ≡ 65816
  pub range : in_range s ≡ true
  pub memory : x ≡ 65536
  pub ports : o ≡ 256

pub load_passed : (s : List ℕ) (x o : ℕ) → load_verdict s x o ≡ Ok tt → Loadable s x o
unfolding load_verdict
load_passed s x o e =
    let one = passed _ _ _ e in
    let two = passed _ _ _ one.1 in
    let three = passed _ _ _ two.1 in
    let four = passed _ _ _ three.1 in
    record {
      size = eqb-true (length s) 65816 one.0;
      range = two.0;
      memory = eqb-true x 65536 three.0;
      ports = eqb-true o 256 four.0;
    }

-- and what has these is not refused
pub savable_good : (m : Machine) (x o l : ℕ) → Savable m x o l → save_verdict m x o l ≡ Ok tt
unfolding save_verdict
savable_good m x o l s = rw (s.memory, s.ports, s.well, s.between, s.size)

pub loadable_good : (s : List ℕ) (x o : ℕ) → Loadable s x o → load_verdict s x o ≡ Ok tt
unfolding load_verdict
loadable_good s x o l = rw (l.size, l.range, l.memory, l.ports)
