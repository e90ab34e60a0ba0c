-- What the saved form of a machine between instructions says: the machine, its ports, its memory, each field inside its range.
-- Assumes nothing.
use Prim.Native.Nat.{ℕ}
use mathlib.Core.Path.{◌≡◌, sym}
use mathlib.Core.Bool.{true}
use mathlib.Core.List.{List, ◌++◌}
use native.Mathlib.Omega.{arith}
use borrow.Author.Tests.{le-leb}
use Rattle.std.specs.Prelude.{unwrap_or}
use lib.Dec.{leb}
use lib.ListN.{length, length-append}
use lib.Seq.{take_at, drop_at}
use Rattle.laws.proofs.Tests.{true→T, T→true, and_both}
use Rattle.machine.specs.declared.record.Machine.{Machine}
use Rattle.machine.specs.Well.{well_of}
use Rattle.machine.proofs.Parts.{parts_of}
use Rattle.saved.specs.Header.{mode_of, between_of, header_with, header_of, saved_of}
use Rattle.saved.specs.Fields.{lines_in, machine_in, ports_in, memory_in, in_range}
use Rattle.saved.proofs.Back.{bit_range, registers_back, lines_back, clock_back}
use Rattle.saved.proofs.Between.{between_kept, between_next, mode_range}

module _ (m : Machine) (o x : List ℕ) where
  pub saved_machine : well_of m ≡ true → between_of m ≡ true → machine_in (saved_of m o x) ≡ m
  unfolding saved_of header_of header_with machine_in
  saved_machine w b =
      let mode = unwrap_or (mode_of m.kept m.next) 3 in
      λ i.
      record {
        regs = registers_back mode m (o ++ x) i;
        kept = sym (between_kept m w b) i;
        lines = lines_back mode m (o ++ x) i;
        clock = clock_back mode m (o ++ x) i;
        next = between_next m w b i;
      }

  pub saved_range : well_of m ≡ true → between_of m ≡ true → in_range (saved_of m o x) ≡ true
  unfolding saved_of header_of header_with in_range lines_in
  saved_range w b =
      let p = parts_of m (true→T (well_of m) w) in
      let mode = unwrap_or (mode_of m.kept m.next) 3 in
      let moded = true→T (leb mode 2) (le-leb mode 2 (mode_range m b)) in
      let inte = true→T _ (bit_range m.regs.inte) in
      let fixed = p.ready.fixed in
      let listed = p.ready.listed in
      T→true _ (search and_both depth 8)

  pub saved_size : length o ≡ 256 → length x ≡ 65536 → length (saved_of m o x) ≡ 65816
  unfolding saved_of header_of header_with
  saved_size e f = simp length-append (omega arith)

  pub saved_ports : length o ≡ 256 → ports_in (saved_of m o x) ≡ o
  unfolding saved_of header_of header_with
  saved_ports e = take_at o x 256 e

  pub saved_memory : length o ≡ 256 → memory_in (saved_of m o x) ≡ x
  unfolding saved_of header_of header_with
  saved_memory e = drop_at o x 256 e
