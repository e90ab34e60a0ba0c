-- The table of `alu::flags::parity`: each of its 256 bits is the parity of its place, which antt computes.
-- Assumes nothing.
use Rattle.std.proofs.Common.{◌≡◌, ℕ, ◌/◌, ◌%◌, ◌^◌, ◌<◌, Bool, T, ◌==◌, [], ◌∷◌, get_or}
use Rattle.laws.proofs.Every.{every, below, same, same→eq}
use Rattle.alu.specs.Flags.{parity_of}

-- bit v % 64 of row v / 64 is 1
abbrev set : ℕ → Bool
set v =
    get_or (0x9669699669969669 ∷ 0x6996966996696996 ∷ 0x6996966996696996 ∷ 0x9669699669969669 ∷ []) (v / 64) 0
    / 2 ^ (v % 64) % 2
    == 1

abbrev right : ℕ → Bool
right v = same (set v) (parity_of v)

all_right : T (every right 256)
unfolding parity_of
all_right = tt

pub parity_read : (v : ℕ) → v < 256 → set v ≡ parity_of v
parity_read v l = same→eq (set v) (parity_of v) (below right 256 all_right v l)
