-- There and back: what is written are data records and an end record, and reading it restores the range. `round_trip` and
-- `text_trip` speak of what the contracts of `write` and `read` allow. Assumes nothing.
use Prim.Native.Nat.{ℕ, ◌+◌, ◌≤◌}
use mathlib.Core.Path.{◌≡◌, refl, ◌∙◌}
use mathlib.Core.Bool.{Bool, true, false}
use mathlib.Core.List.{List, [], ◌++◌, append_assoc, append-nil}
use native.Mathlib.Omega.{arith}
use lib.Dec.{leb}
use lib.ListN.{length, take, drop, take-append-drop, drop_of_length-le}
use lib.Seq.{sets-eq, take_at, take_all, take-add}
use borrow.Author.Tests.{eqb-true, leb-true}
use Rattle.std.specs.Prelude.{Ok, Err}
use Rattle.laws.specs.Choice.{pick}
use Rattle.intel_hex.specs.declared.answer.Refusal.TheVariants.{MemorySize, PastEnd, OutputSize}
use Rattle.intel_hex.specs.Answer.{Reading}
use Rattle.intel_hex.specs.Lines.{text_lines}
use Rattle.intel_hex.specs.Read.{judged_from, landed_from, reading_of}
use Rattle.intel_hex.specs.Write.{records_for, hex_of, range_of, length_for, writing_of}
use Rattle.intel_hex.specs.Outcome.{Reads, Writes}
use Rattle.intel_hex.specs.Trip.{OnlyRecords, Restored}
use Rattle.text.specs.Bytes.{Bytes}
use Rattle.text.proofs.Bytes.{bytes_take, bytes_drop}
use Rattle.intel_hex.proofs.Sizes.{range_length, hex_length}
use Rattle.intel_hex.proofs.Written.{Held, judged, landed, only}

-- n bytes of memory x from start on
module _ (x : List ℕ) (start n : ℕ) (size : length x ≡ 65536) (bytes : Bytes x) (fits : start + n ≤ 65536) where
  long : length (range_of x start n) ≡ n
  long = range_length x start n (omega arith)

  held : Held (records_for (length (range_of x start n))) start (range_of x start n)
  held =
      record {
        all = omega arith;
        some = omega arith;
        room = λ some. omega (arith, long);
        bytes = bytes_take n (drop start x) (bytes_drop start x bytes);
      }

  pub only_records : OnlyRecords (text_lines (hex_of start (range_of x start n)))
  unfolding hex_of
  only_records = only _ start (range_of x start n) held

  -- its text is read, whatever follows: "What follows the end record is ignored"
  range_judged : (rest : List ℕ) → judged_from 1 (text_lines (hex_of start (range_of x start n) ++ rest)) ≡ Ok tt
  unfolding hex_of
  range_judged rest = rw append_assoc (judged 1 _ start (range_of x start n) rest held)

  range_landed : (rest y : List ℕ) → length y ≡ 65536
      → landed_from (text_lines (hex_of start (range_of x start n) ++ rest)) y ≡ take start y ++ range_of x start n ++ drop (start + n) y
  unfolding hex_of
  range_landed rest y e =
      let split = sets-eq (range_of x start n) y start (omega (arith, long)) in
      rw append_assoc (landed _ start (range_of x start n) rest y held) ∙ (rw long at split)

  pub restores : (rest y y' : List ℕ) (r : Reading) → length y ≡ 65536 → Reads (hex_of start (range_of x start n) ++ rest) y r y'
      → Restored x start n y r y'
  unfolding reading_of
  restores rest y y' r e l =
      record {
        answer = rw (e, range_judged rest) at l.answer;
        memory = (rw (e, range_judged rest) at l.memory) ∙ range_landed rest y e;
      }

-- an answer that is no refusal comes of tests that all pass
passed : (p q s : Bool) (j k : ℕ)
    → Ok k ≡ pick p (pick q (pick s (Ok j) (Err OutputSize)) (Err PastEnd)) (Err MemorySize)
    → (p ≡ true) × (q ≡ true) × (k ≡ j)
passed true true true j k e = (refl, refl, cc)
passed true true false j k e = (refl, refl, cc)
passed true false s j k e = (cc, cc, cc)
passed false q s j k e = (cc, cc, cc)

module _ (x z z' y y' : List ℕ) (start n k : ℕ) (r : Reading) (bytes : Bytes x) (w : Writes x start n z (Ok k) z')
    (whole : length y ≡ 65536) where
  good : (length x ≡ 65536) × (start + n ≤ 65536) × (k ≡ length_for n)
  unfolding writing_of
  good =
      let t = passed _ _ (leb (length_for n) (length z)) _ _ w.answer in (eqb-true _ _ t.0, leb-true _ _ t.1, t.2)

  text : z' ≡ hex_of start (range_of x start n) ++ drop k z
  text = rw (← w.answer) at w.output

  -- the whole output is read, with what it held before past the text
  pub round_trip : Reads z' y r y' → Restored x start n y r y'
  round_trip l = restores x start n good.0 bytes good.1 (drop k z) y y' r whole (rw text at l)

  -- the text alone is read
  pub text_trip : Reads (take k z') y r y' → Restored x start n y r y'
  text_trip l =
      let range = range_length x start n (omega (arith, good)) in
      let full : length (hex_of start (range_of x start n)) ≡ k = rw (hex_length, range, good.2) in
      let alone : take k z' ≡ hex_of start (range_of x start n) ++ [] = rw (text, take_at _ _ k full, append-nil) in
      restores x start n good.0 bytes good.1 [] y y' r whole (rw alone at l)

-- an empty range leaves memory y as it was, the whole of memory x makes it x, and x itself stays
pub empty_range : (x y y' : List ℕ) (start : ℕ) (r : Reading) → Restored x start 0 y r y' → y' ≡ y
empty_range x y y' start r t =
    let e : start + 0 ≡ start = omega arith in
    t.memory ∙ rw (append-nil, e, take-append-drop)

pub whole_memory : (x y y' : List ℕ) (r : Reading) → length x ≡ 65536 → length y ≡ 65536 → Restored x 0 65536 y r y' → y' ≡ x
whole_memory x y y' r p q t =
    t.memory ∙ rw (take_all 65536 x (omega arith), drop_of_length-le y {i = 65536} (omega arith), append-nil)

pub same_memory : (x x' : List ℕ) (start n : ℕ) (r : Reading) → Restored x start n x r x' → x' ≡ x
same_memory x x' start n r t = t.memory ∙ rw (← take-add, take-append-drop)
