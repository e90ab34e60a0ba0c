-- One turn of the loop that writes the lines.
-- Assumes nothing.
use Prim.Native.Nat.{ℕ, suc, ◌+◌, ◌<◌}
use mathlib.Core.Path.{◌≡◌, refl}
use mathlib.Core.List.{List, [], ◌∷◌, ◌++◌}
use native.Mathlib.Omega.{arith}
use lib.ListN.{length, take, get_or}
use Rattle.std.proofs.Common.{append_assoc, append-nil, add-zero, zero-add}
use Rattle.std.proofs.lemmas.List.{take_more, length-take-le}
use Rattle.text.specs.Writer.{Adds}
use Rattle.text.specs.declared.Text.{Text}
use Rattle.text.proofs.Writer.{writes_both}
use Rattle.listing.specs.Lines.{state_line_of}
use Rattle.listing.specs.Listing.{state_lines_of}

-- the lines of some rows and of one more
one_more : (i : ℕ) (rows : List (List ℕ)) (row : List ℕ)
    → state_lines_of i (rows ++ row ∷ []) ≡ state_lines_of i rows ++ state_line_of (i + length rows) row
unfolding state_lines_of
one_more i [] row = rw (append-nil, add-zero) refl
one_more i (first ∷ rows) row =
    let here : i + 1 + length rows ≡ i + suc (length rows) = omega arith in
    rw (append_assoc, ← here, one_more (i + 1) rows row) refl

pub lines_turn : (i : ℕ) (rows : List (List ℕ)) {t u v : Text} → i < length rows → Adds (state_lines_of 0 (take i rows)) t u
    → Adds (state_line_of i (get_or rows i [])) u v → Adds (state_lines_of 0 (take (i + 1) rows)) t v
lines_turn i rows h p q =
    let all : length (take i rows) ≡ i = length-take-le i rows (omega arith) in
    rw (take_more rows i [] h, one_more, all, zero-add) (writes_both p q)
