-- Data records written and an end record after them, line by line: how they are judged, what they leave in memory, and that
-- there is no other line. Assumes nothing.
use Prim.Native.Nat.{ℕ, zero, suc, ◌+◌, ◌*◌, ◌≤◌, ◌<◌}
use mathlib.Core.Path.{◌≡◌, refl, ◌∙◌}
use mathlib.Core.List.{List, [], ◌∷◌, ◌++◌, append_assoc, append-nil}
use native.Mathlib.Omega.{arith}
use lib.ListN.{length, take, drop, set, length-take, length-drop}
use lib.Seq.{sets}
use Rattle.std.specs.Prelude.{Ok}
use Rattle.intel_hex.specs.declared.record.Line.TheVariants.{Data}
use Rattle.intel_hex.specs.Lines.{text_lines, bare_of}
use Rattle.intel_hex.specs.Record.{line_is, record_of}
use Rattle.intel_hex.specs.Read.{judged_from, landed_of, landed_from}
use Rattle.intel_hex.specs.Write.{records_of}
use Rattle.intel_hex.specs.Trip.{OnlyRecords}
use Rattle.text.specs.Bytes.{Bytes}
use Rattle.text.proofs.Bytes.{bytes_take, bytes_drop}
use Rattle.intel_hex.proofs.Split.{record_first}
use Rattle.intel_hex.proofs.Good.{end_line, data_line, data_address, data_data}

-- stores in two parts
sets_parts : (n : ℕ) (x l : List ℕ) (i : ℕ) → sets (sets l i (take n x)) (i + n) (drop n x) ≡ sets l i x
sets_parts zero x l i = let e : i + 0 ≡ i = omega arith in rw e
sets_parts (suc n) [] l i = refl
sets_parts (suc n) (b ∷ x) l i = let e : i + suc n ≡ suc i + n = omega arith in rw e (sets_parts n x (set l i b) (suc i))

-- what is asked of k records for the bytes d from address a on: they hold all of d, none is empty, and memory has room
pub record Held (k a : ℕ) (d : List ℕ) : Type 0 where
  pub all : length d ≤ 16 * k
  pub some : 16 * k < length d + 16
  pub room : 0 < length d → a + length d ≤ 65536
  pub bytes : Bytes d

-- the first record, and the others
module _ (k a : ℕ) (d : List ℕ) (h : Held (suc k) a d) where
  few : length (take 16 d) < 256
  few = simp length-take (omega arith)

  fits : a + length (take 16 d) ≤ 65536
  fits = simp length-take (omega (arith, h.room (omega (arith, h.some))))

  place : a < 65536
  place = omega (arith, h.some, h.room (omega (arith, h.some)))

  first_bytes : Bytes (take 16 d)
  first_bytes = bytes_take 16 d h.bytes

  first : (z : List ℕ)
      → text_lines (records_of (suc k) a d ++ z) ≡ record_of 0 a (take 16 d) ∷ text_lines (records_of k (a + 16) (drop 16 d) ++ z)
  unfolding records_of
  first z = rw (append_assoc, record_first 0 a (take 16 d) (omega arith) place few first_bytes)

  first_line : line_is (bare_of (record_of 0 a (take 16 d))) ≡ Ok Data
  first_line = data_line a (take 16 d) place few first_bytes fits

  first_landed : (y : List ℕ) → landed_of (bare_of (record_of 0 a (take 16 d))) y ≡ sets y a (take 16 d)
  unfolding landed_of
  first_landed y =
      rw (data_address a (take 16 d) place few first_bytes, data_data a (take 16 d) place few first_bytes)

  others : Held k (a + 16) (drop 16 d)
  others =
      record {
        all = simp length-drop (omega (arith, h.all));
        some = simp length-drop (omega (arith, h.some));
        room = simp length-drop (λ some. omega (arith, h.room (omega arith)));
        bytes = bytes_drop 16 d h.bytes;
      }

last : (z : List ℕ) → text_lines (record_of 1 0 [] ++ z) ≡ record_of 1 0 [] ∷ text_lines z
last = record_first 1 0 [] (omega arith) (omega arith) (omega arith) (λ j. omega arith)

-- all lines
pub judged : (n k a : ℕ) (d z : List ℕ) → Held k a d
    → judged_from n (text_lines (records_of k a d ++ (record_of 1 0 [] ++ z))) ≡ Ok tt
unfolding judged_from records_of
judged n zero a d z h = rw (last, end_line)
judged n (suc k) a d z h = rw (first k a d h, first_line k a d h) (judged (n + 1) k (a + 16) (drop 16 d) z (others k a d h))

pub landed : (k a : ℕ) (d z y : List ℕ) → Held k a d
    → landed_from (text_lines (records_of k a d ++ (record_of 1 0 [] ++ z))) y ≡ sets y a d
unfolding landed_from records_of
landed zero a [] z y h = rw (last, end_line)
landed zero a (b ∷ d) z y h = absurd (let no : ⊥ = omega (arith, h.all) in no)
landed (suc k) a d z y h =
    rw (first k a d h, first_line k a d h, first_landed k a d h)
    (landed k (a + 16) (drop 16 d) z (sets y a (take 16 d)) (others k a d h) ∙ sets_parts 16 d y a)

-- a data record before others
one_more : (line : List ℕ) (lines : List (List ℕ)) → line_is (bare_of line) ≡ Ok Data → OnlyRecords lines → OnlyRecords (line ∷ lines)
one_more line [] e o = absurd o
one_more line (next ∷ lines) e o = (e, o)

pub only : (k a : ℕ) (d : List ℕ) → Held k a d → OnlyRecords (text_lines (records_of k a d ++ record_of 1 0 []))
unfolding records_of text_lines
only zero a d h = rw (← append-nil (record_of 1 0 []), last) end_line
only (suc k) a d h =
    rw (first k a d h)
    (one_more _ (text_lines (records_of k (a + 16) (drop 16 d) ++ record_of 1 0 [])) (first_line k a d h)
    (only k (a + 16) (drop 16 d) (others k a d h)))
