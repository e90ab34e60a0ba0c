-- The states before the first halt state have rows in the trace.
-- Assumes nothing.
use Prim.Native.Nat.{ℕ, ◌≤◌}
use mathlib.Core.Path.{◌≡◌}
use mathlib.Core.List.{List}
use native.Mathlib.Omega.{arith}
use native.Mathlib.Nat.{min-le_right}
use lib.ListN.{length, take, get_or}
use Rattle.std.proofs.lemmas.List.{length-take, length-take-le}
use Rattle.std.proofs.lemmas.List.Sums.{prefix_len-le-length}
use Rattle.std.specs.Prelude.{not, ◌==◌}
use Rattle.listing.specs.Listing.{before_halt_of}

pub rows_within : (rows : List (List ℕ)) (n : ℕ) → before_halt_of rows n ≤ length rows
unfolding before_halt_of
rows_within rows n =
    let first = prefix_len-le-length (λ row. not (get_or row 0 0 == 8)) (take n rows) in
    omega (arith, first, length-take n rows, min-le_right n (length rows))

-- so as many of them are taken
pub rows_taken : (rows : List (List ℕ)) (n : ℕ) → length (take (before_halt_of rows n) rows) ≡ before_halt_of rows n
rows_taken rows n = length-take-le _ rows (rows_within rows n)
