-- The tests of a record, of which those for zeros are the library's. Assumes nothing.
use Rattle.std.proofs.Common.{◌≡◌, ℕ, zero, suc, ◌+◌, ◌<◌, ◌≤◌, ◌&&◌, leb, List, length, get_or, take, drop, refl, arith, drop-cons, add-one}
use Rattle.std.specs.Prelude.{◌==◌, slice_range}
use Rattle.std.specs.List.{list_all}
use Rattle.laws.proofs.Tests.{and_pick}
use Rattle.schedule.specs.Events.{all}
use Rattle.capi.specs.Handed.{zero_at, place_fits, formed_of}

-- the n bytes from i on are zeros
zeros_at : (z : List ℕ) (n i : ℕ) → i + n ≤ length z → list_all (λ x. x == 0) (take n (drop i z)) ≡ all (zero_at z) n i
unfolding all
zeros_at z zero i h = refl
zeros_at z (suc n) i h =
    let l : i < length z = omega arith in
    rw (drop-cons z i 0, ← add-one) (and_pick (zero_at z i) _ _ (zeros_at z n (i + 1) (omega arith)))

pub formed_is : (z : List ℕ) → length z ≡ 64
    → formed_of z
    ≡ (leb (get_or z 12 0) 1
    && leb (get_or z 13 0) 5
    && leb (get_or z 27 0) 2
    && place_fits (get_or z 13 0) (get_or z 24 0) (get_or z 25 0)
    && list_all (λ x. x == 0) (slice_range z 21 24)
    && list_all (λ x. x == 0) (slice_range z 33 64))
unfolding formed_of
formed_is z e = rw (zeros_at z 3 21 (omega arith), zeros_at z 31 33 (omega arith)) refl
