-- A well-formed machine between instructions keeps nothing, and its mode says what comes next; and a machine that keeps nothing
-- is well formed. Assumes nothing.
use Prim.Native.Nat.{ℕ, ◌≤◌}
use mathlib.Core.Path.{◌≡◌, refl}
use mathlib.Core.Bool.{true, false, false≢true, not, ◌||◌}
use mathlib.Core.Logic.{⊎_elim}
use native.Mathlib.Omega.{arith}
use lib.Dec.{T, eqb, eqb→eq}
use Rattle.std.specs.Prelude.{is_some, unwrap_or}
use Rattle.laws.proofs.Every.{and_right}
use Rattle.laws.proofs.Tests.{true→T, or_either}
use Rattle.opcodes.specs.Kinds.{is_none}
use Rattle.opcodes.specs.declared.cycle.Acknowledge.{Acknowledge}
use Rattle.opcodes.specs.declared.cycle.Acknowledge.TheVariants.{None, Running, Halted}
use Rattle.effect.specs.declared.kept.Kept.{Kept}
use Rattle.effect.specs.Kept.{kept_for}
use Rattle.machine.specs.declared.record.Position.{Position}
use Rattle.machine.specs.declared.record.Position.TheVariants.{Fetch, Later, Wait, Hold, Halt, Stop}
use Rattle.machine.specs.declared.record.Machine.{Machine}
use Rattle.machine.specs.Well.{cycles_done, idle_of, zero_or_read, bytes_of, well_of}
use Rattle.machine.proofs.Parts.{name_of, parts_of}
use Rattle.machine.proofs.Bytes.{bytes_each}
use Rattle.saved.specs.Header.{fetch_mode, mode_of, between_of}
use Rattle.saved.specs.Fields.{position_of}

-- a byte that is 0 or was read where none was read
unread : (b : ℕ) → T (eqb b 0 || false) → b ≡ 0
unread b t = eqb→eq b 0 (⊎_elim (λ z. z) (λ z. absurd z) (or_either (eqb b 0) false t))

-- no acknowledge is named, so that the number taken is 0
no_number : (a : Acknowledge) (n : ℕ) → T (is_none a) → T (not (is_none a) || eqb n 0) → n ≡ 0
no_number None n t u = eqb→eq n 0 u
no_number Running n t u = absurd t
no_number Halted n t u = absurd t

no_name : (a : Acknowledge) → T (is_none a) → a ≡ None
no_name None t = refl
no_name Running t = absurd t
no_name Halted t = absurd t

-- nothing is kept where no acknowledge is named and no cycle has read
nothing : (k : Kept) → T (is_none k.ack) → T (name_of k 0) → T (bytes_of k 0) → k ≡ kept_for None 0
unfolding kept_for zero_or_read
nothing k a n b =
    let five = bytes_each k 0 b in
    λ i.
    record {
      opcode = unread k.opcode five.0 i;
      ack = no_name k.ack a i;
      rst = no_number k.ack k.rst a (search and_right) i;
      b1 = unread k.b1 five.1 i;
      b2 = unread k.b2 five.2 i;
      b3 = unread k.b3 five.3 i;
      b4 = unread k.b4 five.4 i;
    }

-- with a fetch next and a mode it is no acknowledge's
fetch_none : (a : Acknowledge) → is_some (fetch_mode a) ≡ true → T (is_none a)
unfolding fetch_mode
fetch_none None e = tt
fetch_none Running e = true→T false e
fetch_none Halted e = true→T false e

-- between instructions no acknowledge is named and no cycle has read
kept_at : (k : Kept) (p : Position) → is_some (mode_of k p) ≡ true → T (name_of k (cycles_done p)) → T (bytes_of k (cycles_done p))
    → T (is_none k.ack || not (idle_of p)) → k ≡ kept_for None 0
unfolding mode_of cycles_done idle_of
kept_at k Fetch e n b w = nothing k (fetch_none k.ack e) n b
kept_at k (Later c s) e n b w = absurd (false≢true e)
kept_at k (Wait c) e n b w = absurd (false≢true e)
kept_at k (Hold c) e n b w = absurd (false≢true e)
kept_at k Halt e n b w = nothing k (⊎_elim (λ z. z) (λ z. absurd z) (or_either (is_none k.ack) false w)) n b
kept_at k Stop e n b w = nothing k (⊎_elim (λ z. z) (λ z. absurd z) (or_either (is_none k.ack) false w)) n b

pub between_kept : (m : Machine) → well_of m ≡ true → between_of m ≡ true → m.kept ≡ kept_for None 0
unfolding between_of
between_kept m w b =
    let p = parts_of m (true→T (well_of m) w) in
    kept_at m.kept m.next b p.ready.named p.ready.bytes p.awake

-- the mode says what comes next
mode_at : (k : Kept) (p : Position) → k ≡ kept_for None 0 → is_some (mode_of k p) ≡ true
    → position_of (unwrap_or (mode_of k p) 3) ≡ p
unfolding mode_of fetch_mode position_of kept_for
mode_at k Fetch e b = rw e
mode_at k (Later c s) e b = absurd (false≢true b)
mode_at k (Wait c) e b = absurd (false≢true b)
mode_at k (Hold c) e b = absurd (false≢true b)
mode_at k Halt e b = refl
mode_at k Stop e b = refl

pub between_next : (m : Machine) → well_of m ≡ true → between_of m ≡ true
    → position_of (unwrap_or (mode_of m.kept m.next) 3) ≡ m.next
unfolding between_of
between_next m w b = mode_at m.kept m.next (between_kept m w b) b

-- and it is 0, 1 or 2
fetch_range : (a : Acknowledge) → is_some (fetch_mode a) ≡ true → unwrap_or (fetch_mode a) 3 ≤ 2
unfolding fetch_mode
fetch_range None b = omega arith
fetch_range Running b = absurd (false≢true b)
fetch_range Halted b = absurd (false≢true b)

mode_range_at : (k : Kept) (p : Position) → is_some (mode_of k p) ≡ true → unwrap_or (mode_of k p) 3 ≤ 2
unfolding mode_of fetch_mode
mode_range_at k Fetch b = fetch_range k.ack b
mode_range_at k (Later c s) b = absurd (false≢true b)
mode_range_at k (Wait c) b = absurd (false≢true b)
mode_range_at k (Hold c) b = absurd (false≢true b)
mode_range_at k Halt b = omega arith
mode_range_at k Stop b = omega arith

pub mode_range : (m : Machine) → between_of m ≡ true → unwrap_or (mode_of m.kept m.next) 3 ≤ 2
unfolding between_of
mode_range m b = mode_range_at m.kept m.next b
