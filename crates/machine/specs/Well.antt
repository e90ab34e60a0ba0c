-- Which records are well formed: a run gives 8 exactly for the others. Source: document 01, "Numbers returned", last paragraph,
-- whose parts stand here in its order, each turned round. Cited by `machine::well`.
use Rattle.std.specs.Prelude.{ℕ, ◌-◌, ◌/◌, ◌%◌, Bool, true, not, ◌&&◌, ◌||◌, ◌==◌, nat_le}
use Rattle.laws.specs.Choice.{pick}
use Rattle.opcodes.specs.Cycles.{code_of, defined_of}
use Rattle.opcodes.specs.Kinds.{states_of, waits_of, reads_of, is_none}
use Rattle.effect.specs.declared.kept.Kept.{Kept}
use Rattle.machine.specs.declared.record.Lines.{Lines}
use Rattle.machine.specs.declared.record.Position.{Position}
use Rattle.machine.specs.declared.record.Position.TheVariants.{Fetch, Later, Wait, Hold, Halt, Stop}
use Rattle.machine.specs.declared.record.Machine.{Machine}
use Rattle.machine.specs.Record.{next_number}
use Rattle.machine.specs.Cycle.{cycles_of}
use Rattle.machine.specs.Request.{restart_of}

-- "a flag byte has a wrong fixed bit": bits 5 and 3 are 0, bit 1 is 1
unfoldable pub fixed_of : ℕ → Bool
fixed_of f = f / 32 % 2 == 0 && f / 8 % 2 == 0 && f / 2 % 2 == 1

-- "a line has an unlisted value"
unfoldable pub levels_listed : Lines → Bool
levels_listed l = nat_le l.ready 1 && nat_le l.hold 1 && nat_le l.int 8

-- cycle c is one of n
unfoldable pub one_of : ℕ → ℕ → Bool
one_of n c = nat_le 1 c && nat_le c n

-- state s of cycle c is one of its n states; T1 of the first cycle is a fetch and no later state
unfoldable pub is_state : ℕ → ℕ → ℕ → Bool
is_state n c s = nat_le 1 s && nat_le s n && not (c == 1 && s == 1)

-- "the cycle or state named doesn't exist for it under the present flags": of an opcode with n cycles
unfoldable pub there_of : ℕ → ℕ → Position → Bool
there_of op n Fetch = true
there_of op n (Later c s) = one_of n c && is_state (states_of (code_of op c)) c s
there_of op n (Wait c) = one_of n c && waits_of (code_of op c)
there_of op n (Hold c) = one_of n c
there_of op n Halt = true
there_of op n Stop = true

-- how many cycles have read what they read: from T4 and in a hold this one too
unfoldable pub cycles_done : Position → ℕ
cycles_done Fetch = 0
cycles_done (Later c s) = pick (nat_le s 3) (c - 1) c
cycles_done (Wait c) = c - 1
cycles_done (Hold c) = c
cycles_done Halt = 0
cycles_done Stop = 0

-- a halt state or a stop is next
unfoldable pub idle_of : Position → Bool
idle_of p = next_number p == 1 || next_number p == 2

-- "an acknowledge is named and the opcode kept, once read, is not the RST of the number taken; that number is over 7, or isn't
-- 0 without an acknowledge; an acknowledge is named with a halt state or a stop next"
unfoldable pub acked_of : Kept → Position → Bool
acked_of k p =
    (is_none k.ack || cycles_done p == 0 || k.opcode == restart_of k)
    && nat_le k.rst 7
    && (not (is_none k.ack) || k.rst == 0)
    && (is_none k.ack || not (idle_of p))

-- the byte b of cycle c is 0, or was read: the cycle is one of the first d, and reads
unfoldable pub zero_or_read : ℕ → ℕ → ℕ → ℕ → Bool
zero_or_read op d c b = b == 0 || (nat_le c d && reads_of (code_of op c))

-- "a byte not yet read, or any kept byte when a fetch's T1, a halt state or a stop is next, isn't zero"; d cycles have read
unfoldable pub bytes_of : Kept → ℕ → Bool
bytes_of k d =
    (k.opcode == 0 || nat_le 1 d)
    && zero_or_read k.opcode d 2 k.b1
    && zero_or_read k.opcode d 3 k.b2
    && zero_or_read k.opcode d 4 k.b3
    && zero_or_read k.opcode d 5 k.b4

unfoldable pub well_of : Machine → Bool
well_of m =
    fixed_of m.regs.f
    && levels_listed m.lines
    && defined_of m.kept.opcode
    && there_of m.kept.opcode (cycles_of m.kept.opcode m.regs.f) m.next
    && acked_of m.kept m.next
    && bytes_of m.kept (cycles_done m.next)
