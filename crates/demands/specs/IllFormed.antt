-- When a machine record is ill formed, as plain conditions. Source: document 01, "Numbers returned", last paragraph.
-- Cited by Refusals.
use Rattle.std.specs.Prelude.{ℕ, ◌+◌, ◌*◌, ◌/◌, ◌%◌, ◌≤◌, ◌<◌, ◌≡◌, true, false, ◌⊎◌}
use Rattle.opcodes.specs.Cycles.{code_of, defined_of}
use Rattle.opcodes.specs.Kinds.{states_of, waits_of, reads_of, is_none}
use Rattle.effect.specs.declared.kept.Kept.{Kept}
use Rattle.machine.specs.declared.record.Lines.{Lines}
use Rattle.machine.specs.declared.record.Position.{Position}
use Rattle.machine.specs.declared.record.Position.TheVariants.{Fetch, Later, Wait, Hold, Halt, Stop}
use Rattle.machine.specs.declared.record.Machine.{Machine}
use Rattle.machine.specs.Cycle.{cycles_of}

-- conditions put together, from the left
infixl 2 ◌or◌
abbrev pub ◌or◌ : Type 0 → Type 0 → Type 0
P or Q = P ⊎ Q

infixl 3 ◌and◌
abbrev pub ◌and◌ : Type 0 → Type 0 → Type 0
P and Q = P × Q

abbrev pub Not : Type 0 → Type 0
Not P = P → ⊥

-- "a flag byte has a wrong fixed bit": bits 5, 3 and 1
abbrev pub WrongBit : ℕ → Type 0
WrongBit f = Not (f / 32 % 2 ≡ 0) or Not (f / 8 % 2 ≡ 0) or Not (f / 2 % 2 ≡ 1)

-- "a line has an unlisted value"
abbrev pub Unlisted : Lines → Type 0
Unlisted l = (1 < l.ready) or (1 < l.hold) or (8 < l.int)

-- "the cycle or state named" exists in n cycles of the opcode op: T1 of cycle 1 is a fetch and no later state, and not every
-- cycle has waits
abbrev pub Exists : ℕ → ℕ → Position → Type 0
Exists op n Fetch = Unit {0}
Exists op n (Later c s) =
    (1 ≤ c) and (c ≤ n) and ((1 ≤ s) and (s ≤ states_of (code_of op c)) and Not ((c ≡ 1) and (s ≡ 1)))
Exists op n (Wait c) = (1 ≤ c) and (c ≤ n) and (waits_of (code_of op c) ≡ true)
Exists op n (Hold c) = (1 ≤ c) and (c ≤ n)
Exists op n Halt = Unit {0}
Exists op n Stop = Unit {0}

-- with p next, T3 of cycle c is over, and what it reads is read
abbrev pub Over : Position → ℕ → Type 0
Over Fetch c = ⊥
Over (Later d s) c = (c < d) or ((c ≡ d) and (3 < s))
Over (Wait d) c = c < d
Over (Hold d) c = c ≤ d
Over Halt c = ⊥
Over Stop c = ⊥

-- a halt state or a stop is next
abbrev pub Idle : Position → Type 0
Idle Fetch = ⊥
Idle (Later c s) = ⊥
Idle (Wait c) = ⊥
Idle (Hold c) = ⊥
Idle Halt = Unit {0}
Idle Stop = Unit {0}

-- "an acknowledge is named and the opcode kept, once read, is not the RST of the number taken; that number is over 7, or isn't
-- 0 without an acknowledge; an acknowledge is named with a halt state or a stop next"
abbrev pub WrongRestart : Kept → Position → Type 0
WrongRestart k p =
    ((is_none k.ack ≡ false) and Over p 1 and Not (k.opcode ≡ 0xC7 + 8 * (k.rst % 8)))
    or (7 < k.rst)
    or ((is_none k.ack ≡ true) and Not (k.rst ≡ 0))
    or ((is_none k.ack ≡ false) and Idle p)

-- the byte b of cycle c of the opcode op isn't zero, and is not read
abbrev pub Unread : ℕ → Position → ℕ → ℕ → Type 0
Unread op p c b = Not (b ≡ 0) and Not (Over p c and (reads_of (code_of op c) ≡ true))

-- "a byte not yet read, or any kept byte when a fetch's T1, a halt state or a stop is next, isn't zero"
abbrev pub EarlyByte : Kept → Position → Type 0
EarlyByte k p =
    (Not (k.opcode ≡ 0) and Not (Over p 1))
    or Unread k.opcode p 2 k.b1
    or Unread k.opcode p 3 k.b2
    or Unread k.opcode p 4 k.b3
    or Unread k.opcode p 5 k.b4

-- "A record is ill formed exactly when": also where "the opcode kept is undefined, or the cycle or state named doesn't exist for
-- it under the present flags"
abbrev pub IllFormed : Machine → Type 0
IllFormed m =
    WrongBit m.regs.f
    or Unlisted m.lines
    or (defined_of m.kept.opcode ≡ false)
    or Not (Exists m.kept.opcode (cycles_of m.kept.opcode m.regs.f) m.next)
    or WrongRestart m.kept m.next
    or EarlyByte m.kept m.next
