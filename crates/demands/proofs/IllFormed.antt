-- A record is ill formed by the clauses of document 01 exactly where the test of `run` fails. Assumes nothing.
use Prim.Native.Nat.{ℕ, zero, suc, ◌+◌, ◌-◌, ◌*◌, ◌/◌, ◌%◌, ◌≤◌, ◌<◌}
use mathlib.Core.Path.{◌≡◌, refl}
use mathlib.Core.Bool.{Bool, true, false, not, ◌&&◌}
use mathlib.Core.Logic.{inl, inr, ⊎_elim}
use native.Mathlib.Omega.{arith}
use native.Mathlib.Nat.{eq-or-lt_of_le}
use borrow.Author.Tests.{leb-true, leb-false, le-leb, eqb-true, eqb-false}
use lib.Dec.{eqb, leb}
use Rattle.laws.specs.Choice.{pick}
use Rattle.opcodes.specs.Cycles.{code_of, defined_of}
use Rattle.opcodes.specs.Kinds.{states_of, waits_of, reads_of, is_none}
use Rattle.effect.specs.declared.kept.Kept.{Kept}
use Rattle.machine.specs.declared.record.Lines.{Lines}
use Rattle.machine.specs.declared.record.Position.{Position}
use Rattle.machine.specs.declared.record.Position.TheVariants.{Fetch, Later, Wait, Hold, Halt, Stop}
use Rattle.machine.specs.declared.record.Machine.{Machine}
use Rattle.machine.specs.Cycle.{cycles_of}
use Rattle.machine.specs.Request.{restart_of}
use Rattle.machine.specs.Well.{fixed_of, levels_listed, one_of, is_state, there_of, cycles_done, idle_of, acked_of, zero_or_read, bytes_of, well_of}
use Rattle.demands.specs.IllFormed.{◌or◌, ◌and◌, Not, WrongBit, Unlisted, Exists, Over, Idle, WrongRestart, Unread, EarlyByte}
use Rattle.demands.specs.IllFormed.{IllFormed}
use Rattle.demands.proofs.Decides.{Bars, Shows, always, never, shows_sure, bars_not, shows_so, bars_turned, shows_turned}
use Rattle.demands.proofs.Decides.{shows_eqb, shows_leb, bars_leb, shows_true, bars_true, bars_and, bars_or, shows_and}

-- the position
one_shows : (n c : ℕ) → Shows (one_of n c) ((1 ≤ c) and (c ≤ n))
unfolding one_of
one_shows n c = shows_and (leb 1 c) (leb c n) (shows_leb 1 c) (shows_leb c n)

state_shows : (n c s : ℕ) → Shows (is_state n c s) ((1 ≤ s) and (s ≤ n) and Not ((c ≡ 1) and (s ≡ 1)))
unfolding is_state
state_shows n c s =
    shows_and (leb 1 s && leb s n) (not (eqb c 1 && eqb s 1)) (shows_and (leb 1 s) (leb s n) (shows_leb 1 s) (shows_leb s n))
    (shows_turned (eqb c 1 && eqb s 1) (shows_and (eqb c 1) (eqb s 1) (shows_eqb c 1) (shows_eqb s 1)))

there_shows : (op n : ℕ) (p : Position) → Shows (there_of op n p) (Exists op n p)
unfolding there_of
there_shows op n Fetch = always
there_shows op n (Later c s) =
    shows_and (one_of n c) (is_state (states_of (code_of op c)) c s) (one_shows n c) (state_shows (states_of (code_of op c)) c s)
there_shows op n (Wait c) = shows_and (one_of n c) (waits_of (code_of op c)) (one_shows n c) (shows_true (waits_of (code_of op c)))
there_shows op n (Hold c) = one_shows n c
there_shows op n Halt = always
there_shows op n Stop = always

idle_shows : (p : Position) → Shows (idle_of p) (Idle p)
unfolding idle_of
idle_shows Fetch = never
idle_shows (Later c s) = never
idle_shows (Wait c) = never
idle_shows (Hold c) = never
idle_shows Halt = always
idle_shows Stop = always

-- what is over
later_over : (b : Bool) (d s c : ℕ) → leb s 3 ≡ b → 1 ≤ c
    → Shows (leb c (pick b (d - 1) d)) ((c < d) or ((c ≡ d) and (3 < s)))
later_over true d s c e h =
    let l = leb-true s 3 e in
    shows_so (shows_leb c (d - 1)) (λ x. inl (omega arith))
    (⊎_elim (λ x. omega arith) (λ x. let m = x.1 in absurd (let no : ⊥ = omega arith in no)))
later_over false d s c e h =
    let l = leb-false s 3 e in
    shows_so (shows_leb c d) (λ x. ⊎_elim (λ q. inr (q, l)) (λ q. inl q) (eq-or-lt_of_le x))
    (⊎_elim (λ x. omega arith) (λ x. let m = x.0 in omega arith))

over_shows : (p : Position) (c : ℕ) → 1 ≤ c → Shows (leb c (cycles_done p)) (Over p c)
unfolding cycles_done
over_shows Fetch c h = shows_so (shows_leb c 0) (λ x. let no : ⊥ = omega arith in no) (λ x. absurd x)
over_shows (Later d s) c h = later_over (leb s 3) d s c refl h
over_shows (Wait d) c h = shows_so (shows_leb c (d - 1)) (λ x. omega arith) (λ x. omega arith)
over_shows (Hold d) c h = shows_leb c d
over_shows Halt c h = shows_so (shows_leb c 0) (λ x. let no : ⊥ = omega arith in no) (λ x. absurd x)
over_shows Stop c h = shows_so (shows_leb c 0) (λ x. let no : ⊥ = omega arith in no) (λ x. absurd x)

some : (n : ℕ) → (n ≡ 0 → ⊥) → 1 ≤ n
some zero f = absurd (f refl)
some (suc n) f = omega arith

over_one : (p : Position) → Bars (eqb (cycles_done p) 0) (Over p 1)
over_one p =
    let d = over_shows p 1 (omega arith) in
    record {
      pass =
          λ e x.
          let z = eqb-true (cycles_done p) 0 e in
          let l = leb-true 1 (cycles_done p) (shows_sure (leb 1 (cycles_done p)) d x) in
          let no : ⊥ = omega (arith, z, l) in no;
      fail = λ e. d.pass (le-leb 1 (cycles_done p) (some (cycles_done p) (eqb-false (cycles_done p) 0 e)));
    }

unread_bars : (op : ℕ) (p : Position) (c b : ℕ) → 1 ≤ c → Bars (zero_or_read op (cycles_done p) c b) (Unread op p c b)
unfolding zero_or_read
unread_bars op p c b h =
    bars_or (eqb b 0) (leb c (cycles_done p) && reads_of (code_of op c)) (bars_not (shows_eqb b 0))
    (bars_not (shows_and (leb c (cycles_done p)) (reads_of (code_of op c)) (over_shows p c h) (shows_true (reads_of (code_of op c)))))

-- the clauses of document 01
pub bit_bars : (f : ℕ) → Bars (fixed_of f) (WrongBit f)
unfolding fixed_of
bit_bars f =
    bars_and (eqb (f / 32 % 2) 0 && eqb (f / 8 % 2) 0) (eqb (f / 2 % 2) 1)
    (bars_and (eqb (f / 32 % 2) 0) (eqb (f / 8 % 2) 0) (bars_not (shows_eqb (f / 32 % 2) 0)) (bars_not (shows_eqb (f / 8 % 2) 0)))
    (bars_not (shows_eqb (f / 2 % 2) 1))

pub line_bars : (l : Lines) → Bars (levels_listed l) (Unlisted l)
unfolding levels_listed
line_bars l =
    bars_and (leb l.ready 1 && leb l.hold 1) (leb l.int 8)
    (bars_and (leb l.ready 1) (leb l.hold 1) (bars_leb l.ready 1) (bars_leb l.hold 1)) (bars_leb l.int 8)

restart_bars : (k : Kept) (p : Position) → Bars (acked_of k p) (WrongRestart k p)
unfolding acked_of restart_of
restart_bars k p =
    let none = is_none k.ack in
    bars_and _ _
    (bars_and _ _
    (bars_and _ _
    (bars_or _ _ (bars_or _ _ (bars_true none) (over_one p)) (bars_not (shows_eqb k.opcode (0xC7 + 8 * (k.rst % 8)))))
    (bars_leb k.rst 7))
    (bars_or _ _ (bars_turned none (shows_true none)) (bars_not (shows_eqb k.rst 0))))
    (bars_or _ _ (bars_true none) (bars_turned (idle_of p) (idle_shows p)))

byte_bars : (k : Kept) (p : Position) → Bars (bytes_of k (cycles_done p)) (EarlyByte k p)
unfolding bytes_of
byte_bars k p =
    let op = k.opcode in
    bars_and _ _
    (bars_and _ _
    (bars_and _ _
    (bars_and _ _ (bars_or _ _ (bars_not (shows_eqb op 0)) (bars_not (over_shows p 1 (omega arith))))
    (unread_bars op p 2 k.b1 (omega arith)))
    (unread_bars op p 3 k.b2 (omega arith)))
    (unread_bars op p 4 k.b3 (omega arith)))
    (unread_bars op p 5 k.b4 (omega arith))

pub well_bars : (m : Machine) → Bars (well_of m) (IllFormed m)
unfolding well_of
well_bars m =
    bars_and _ _
    (bars_and _ _
    (bars_and _ _
    (bars_and _ _ (bars_and _ _ (bit_bars m.regs.f) (line_bars m.lines)) (bars_true (defined_of m.kept.opcode)))
    (bars_not (there_shows m.kept.opcode (cycles_of m.kept.opcode m.regs.f) m.next)))
    (restart_bars m.kept m.next))
    (byte_bars m.kept m.next)
