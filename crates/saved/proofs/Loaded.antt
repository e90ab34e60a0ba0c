-- The machine that a saved form says is well formed and between instructions, and its saved form, with the same ports and
-- memory, is the one that it was loaded from. Assumes nothing.
use Prim.Native.Nat.{ℕ, zero, suc, ◌≤◌, ◌<◌}
use mathlib.Core.Path.{◌≡◌, refl, sym, ap, ◌∙◌}
use mathlib.Core.Bool.{true}
use mathlib.Core.List.{List, [], ◌∷◌, ◌++◌}
use native.Mathlib.Omega.{arith}
use lib.Dec.{T, eqb, leb, eqb→eq, leb→le}
use Rattle.std.specs.Prelude.{is_some, unwrap_or}
use lib.ListN.{length, get_or, take, drop, take-append-drop}
use lib.Seq.{ext_get_or, length-take-le, get_or-take, take-add}
use Rattle.laws.specs.Choice.{pick}
use Rattle.laws.specs.Lists.{tabulate}
use Rattle.laws.proofs.Every.{and_left, and_right}
use Rattle.laws.proofs.Listed.{tabulated}
use Rattle.laws.proofs.Tests.{true→T, T→true, pick_both}
use Rattle.opcodes.specs.declared.cycle.Acknowledge.TheVariants.{None}
use Rattle.alu.specs.Flags.{bit_of}
use Rattle.effect.specs.Kept.{kept_for}
use Rattle.machine.specs.declared.record.Position.{Position}
use Rattle.machine.specs.declared.record.Position.TheVariants.{Fetch, Halt, Stop}
use Rattle.machine.specs.Cycle.{cycles_of}
use Rattle.machine.specs.Ending.{clear_of}
use Rattle.machine.specs.Well.{fixed_of, levels_listed, there_of, well_of}
use Rattle.machine.proofs.Ends.{clear_well}
use Rattle.saved.specs.Header.{fetch_mode, mode_of, between_of, header_with, header_of, saved_of}
use Rattle.saved.specs.Fields.{word_at, long_at, registers_in, lines_in, position_of, machine_in, ports_in, memory_in, in_range}
use Rattle.saved.proofs.Numbers.{word_low, word_high, long_first, long_second, long_third, long_last}

-- each field inside its range
pub record Ranged (s : List ℕ) : Type 0 where
  pub fixed : T (fixed_of (get_or s 1 0))
  pub inte : T (leb (get_or s 12 0) 1)
  pub mode : T (leb (get_or s 13 0) 2)
  pub listed : T (levels_listed (lines_in s))
  pub first : T (eqb (get_or s 21 0) 0)
  pub second : T (eqb (get_or s 22 0) 0)
  pub third : T (eqb (get_or s 23 0) 0)

pub ranged : (s : List ℕ) → in_range s ≡ true → Ranged s
unfolding in_range
ranged s e = let t = true→T (in_range s) e in search (and_left, and_right) depth 9

-- what holds with a fetch, a halt state or a stop next holds of the position of any mode
at_position : (P : Position → Type 0) → P Fetch → P Halt → P Stop → (v : ℕ) → P (position_of v)
unfolding position_of
at_position P f h s v =
    pick_both P (eqb v 0) Fetch (pick (eqb v 1) Halt Stop) (λ e. f)
    (λ e. pick_both P (eqb v 1) Halt Stop (λ d. h) (λ d. s))

-- the machine of a form whose fields are inside their ranges may be saved
pub loaded_well : (s : List ℕ) → Ranged s → well_of (machine_in s) ≡ true
unfolding machine_in registers_in clear_of there_of
loaded_well s r =
    T→true (well_of (machine_in s))
    (clear_well (machine_in s) (position_of (get_or s 13 0)) r.fixed r.listed
    (at_position (λ (p : Position). T (there_of 0 (cycles_of 0 (get_or s 1 0)) p)) tt tt tt (get_or s 13 0)))

pub loaded_between : (s : List ℕ) → between_of (machine_in s) ≡ true
unfolding machine_in between_of mode_of fetch_mode kept_for
loaded_between s =
    at_position (λ (p : Position). is_some (mode_of (kept_for None 0) p) ≡ true) refl refl refl (get_or s 13 0)

-- mode and INTE come back
mode_back : (v : ℕ) → v ≤ 2 → unwrap_or (mode_of (kept_for None 0) (position_of v)) 3 ≡ v
unfolding mode_of fetch_mode kept_for position_of
mode_back zero h = refl
mode_back (suc zero) h = refl
mode_back (suc (suc zero)) h = refl
mode_back (suc (suc (suc v))) h = absurd (let no : ⊥ = omega arith in no)

inte_back : (v : ℕ) → v ≤ 1 → bit_of (eqb v 1) ≡ v
inte_back zero h = refl
inte_back (suc zero) h = refl
inte_back (suc (suc v)) h = absurd (let no : ⊥ = omega arith in no)

-- the first 24 elements, one by one
heads : (s : List ℕ) → 24 ≤ length s → tabulate (λ i. get_or s i 0) 24 0 ≡ take 24 s
heads s h =
    ext_get_or 0 (tabulate (λ i. get_or s i 0) 24 0) (take 24 s) (sym (length-take-le 24 s h))
    (λ i l. tabulated (λ j. get_or s j 0) 24 i l ∙ sym (get_or-take 24 s i 0 l))

-- each element is a byte
abbrev pub Bytes : List ℕ → Type 0
Bytes s = (i : ℕ) → i < length s → get_or s i 0 < 256

module _ (s : List ℕ) (size : length s ≡ 65816) (bytes : Bytes s) where
  byte : (i : ℕ) → i < 24 → get_or s i 0 < 256
  byte i h = bytes i (omega arith)

  -- the header, byte by byte
  loaded_heads : Ranged s → header_of (machine_in s) ≡ tabulate (λ i. get_or s i 0) 24 0
  unfolding header_of header_with machine_in registers_in lines_in word_at long_at
  loaded_heads r =
      let sp = byte 8 (omega arith) in
      let pc = byte 10 (omega arith) in
      let at : ℕ → ℕ = λ i. get_or s i 0 in
      let one = byte 14 (omega arith) in
      let two = byte 15 (omega arith) in
      let three = byte 16 (omega arith) in
      λ i.
      at 0
      ∷ at 1
      ∷ at 2
      ∷ at 3
      ∷ at 4
      ∷ at 5
      ∷ at 6
      ∷ at 7
      ∷ word_low (at 8) (at 9) sp i
      ∷ word_high (at 8) (at 9) sp i
      ∷ word_low (at 10) (at 11) pc i
      ∷ word_high (at 10) (at 11) pc i
      ∷ inte_back (at 12) (leb→le (at 12) 1 r.inte) i
      ∷ mode_back (at 13) (leb→le (at 13) 2 r.mode) i
      ∷ long_first (at 14) (at 15) (at 16) (at 17) one two three i
      ∷ long_second (at 14) (at 15) (at 16) (at 17) one two three i
      ∷ long_third (at 14) (at 15) (at 16) (at 17) one two three i
      ∷ long_last (at 14) (at 15) (at 16) (at 17) one two three i
      ∷ at 18
      ∷ at 19
      ∷ at 20
      ∷ sym (eqb→eq (at 21) 0 r.first) i
      ∷ sym (eqb→eq (at 22) 0 r.second) i
      ∷ sym (eqb→eq (at 23) 0 r.third) i
      ∷ []

  pub loaded_form : Ranged s → saved_of (machine_in s) (ports_in s) (memory_in s) ≡ s
  unfolding saved_of
  loaded_form r =
      ap (λ (h : List ℕ). h ++ ports_in s ++ memory_in s) (loaded_heads r ∙ heads s (omega arith))
      ∙ ap (λ (l : List ℕ). l ++ drop 280 s) (sym (take-add 24 256 s))
      ∙ take-append-drop 280 s
