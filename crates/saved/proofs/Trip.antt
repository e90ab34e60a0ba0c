-- There and back: "Loading what was saved gives the same machine and buffers", and saving what was loaded gives the same bytes.
-- Both speak of what the contracts of `save` and `load` allow. Assumes nothing.
use Prim.Native.Nat.{ℕ}
use mathlib.Core.Path.{◌≡◌, refl, sym, ap, ◌∙◌}
use mathlib.Core.List.{List}
use native.Mathlib.Omega.{arith}
use lib.ListN.{length, length-take, length-drop}
use Rattle.machine.specs.declared.record.Machine.{Machine}
use Rattle.std.specs.Prelude.{Result, Ok, Err}
use Rattle.saved.specs.declared.answer.Refusal.{Refusal}
use Rattle.saved.specs.declared.answer.NotLoaded.{NotLoaded}
use Rattle.saved.specs.Header.{saved_of}
use Rattle.saved.specs.Fields.{machine_in, ports_in, memory_in}
use Rattle.saved.specs.Check.{load_verdict}
use Rattle.saved.specs.Outcome.{loading_by, Saves, Loads}
use Rattle.saved.proofs.Passed.{Savable, Loadable, save_passed, load_passed, savable_good, loadable_good}
use Rattle.saved.proofs.Saved.{saved_machine, saved_range, saved_size, saved_ports, saved_memory}
use Rattle.saved.proofs.Loaded.{Bytes, ranged, loaded_well, loaded_between, loaded_form}

-- an answer that is no refusal comes of a good verdict, and then it is the machine of the form
record Good (v : Result (Unit {0}) Refusal) (m n : Machine) : Type 0 where
  pub good : v ≡ Ok tt
  pub machine : m ≡ n

loaded_was_good : (v : Result (Unit {0}) Refusal) (m n k : Machine) → Ok m ≡ loading_by v n k → Good v m n
loaded_was_good (Ok good) m n k e = record { good = refl; machine = cc }
loaded_was_good (Err r) m n k e = absurd cc

-- what may be saved may be loaded again, into memory of a bytes and output ports of b
saved_loadable : (m : Machine) (x o : List ℕ) (l a b : ℕ) → Savable m (length x) (length o) l → a ≡ 65536 → b ≡ 256
    → Loadable (saved_of m o x) a b
saved_loadable m x o l a b can p q =
    record {
      size = saved_size m o x can.ports can.memory;
      range = saved_range m o x can.well can.between;
      memory = p;
      ports = q;
    }

-- what may be loaded may be saved again, into an output of l bytes
loaded_savable : (s : List ℕ) (a b l : ℕ) → Loadable s a b → l ≡ 65816
    → Savable (machine_in s) (length (memory_in s)) (length (ports_in s)) l
loaded_savable s a b l can p =
    record {
      memory = simp length-drop (omega (arith, can.size));
      ports = simp (length-take, length-drop) (omega (arith, can.size));
      well = loaded_well s (ranged s can.range);
      between = loaded_between s;
      size = p;
    }

-- what was saved, loaded into buffers of the right size: the machine m, memory x and output ports o
pub saved_loads : (m n : Machine) (x o z z' x₁ o₁ x' o' : List ℕ) (r : Result Machine NotLoaded) → Saves m x o z (Ok tt) z'
    → length x₁ ≡ 65536 → length o₁ ≡ 256 → Loads n z' x₁ o₁ r x' o' → (r ≡ Ok m) × (x' ≡ x) × (o' ≡ o)
saved_loads m n x o z z' x₁ o₁ x' o' r s p q l =
    let v = sym s.answer in
    let can = save_passed m (length x) (length o) (length z) v in
    let form : z' ≡ saved_of m o x = rw v at s.out in
    let good = loadable_good _ _ _ (saved_loadable m x o (length z) (length x₁) (length o₁) can p q) in (
      (rw (form, good) at l.answer) ∙ ap (λ (k : Machine). Ok k) (saved_machine m o x can.well can.between),
      (rw (form, good) at l.memory) ∙ saved_memory m o x can.ports,
      (rw (form, good) at l.outputs) ∙ saved_ports m o x can.ports,
    )

-- what was loaded from the form s, whose elements are bytes, saved into an output of the right size: the form s
pub loaded_saves : (m n : Machine) (s x o x' o' z z' : List ℕ) (r : Result (Unit {0}) Refusal) → Bytes s
    → Loads n s x o (Ok m) x' o' → length z ≡ 65816 → Saves m x' o' z r z' → (r ≡ Ok tt) × (z' ≡ s)
loaded_saves m n s x o x' o' z z' r b l p t =
    let g = loaded_was_good (load_verdict s (length x) (length o)) m (machine_in s) n l.answer in
    let can = load_passed s (length x) (length o) g.good in
    let memory : x' ≡ memory_in s = rw g.good at l.memory in
    let ports : o' ≡ ports_in s = rw g.good at l.outputs in
    let good = savable_good _ _ _ _ (loaded_savable s (length x) (length o) (length z) can p) in (
      rw (g.machine, memory, ports, good) at t.answer,
      (rw (g.machine, memory, ports, good) at t.out) ∙ loaded_form s can.size b (ranged s can.range),
    )
