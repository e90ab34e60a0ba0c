-- A whole listing. Source: document 01, the printing program. Cited by the public `listing`. l is the trace.
use Rattle.std.specs.Prelude.{ℕ, ◌+◌, ◌*◌, ◌/◌, ◌≤◌, ◌≡◌, ◌==◌, List, [], ◌∷◌, ◌++◌, length, take, drop, slice_index}
use Rattle.std.specs.List.{position_or_len}
use Rattle.std.specs.Simd.{first_chunks}
use Rattle.text.specs.Text.{text_of, written_of}
use Rattle.listing.specs.Lines.{state_line_of, last_line_of}

-- the rows of a trace, of eight bytes each
abbrev pub rows_of : List ℕ → List (List ℕ)
rows_of l = first_chunks 8 (length l / 8) l

-- "stops at halt": how many of the first n of these rows come before that of the first halt state
unfoldable pub before_halt_of : List (List ℕ) → ℕ → ℕ
before_halt_of rows n = position_or_len (λ row. slice_index row 0 == 8) (take n rows)

-- the lines of these rows, the first of which is that of state i
unfoldable pub state_lines_of : ℕ → List (List ℕ) → List ℕ
state_lines_of i [] = []
state_lines_of i (row ∷ rows) = state_line_of i row ++ state_lines_of (i + 1) rows

-- the lines of the states before the first halt state, and the last line
unfoldable pub listing_of : List ℕ → ℕ → ℕ → ℕ → List ℕ
listing_of l n a pc =
    let k = before_halt_of (rows_of l) n in
    state_lines_of 0 (take k (rows_of l)) ++ last_line_of a pc k

-- a listing from the start of the bytes out on leaves out' and ends at r; with room for 38 characters a row and 41 more it is
-- there whole, and what stands after it is as it was
pub record Lists (l : List ℕ) (n a pc : ℕ) (out : List ℕ) (r : ℕ) (out' : List ℕ) : Type 0 where
  pub text : text_of out' r ≡ written_of (listing_of l n a pc) (text_of out 0)
  pub whole : 38 * (length l / 8) + 41 ≤ length out
      → (r ≡ length (listing_of l n a pc)) × (out' ≡ listing_of l n a pc ++ drop r out)
