-- The starred bench cards, and the one statement over them. Source: document 01, "Bench cards", whose lines stand above each.
-- Proved in proofs/Bench.
use Rattle.std.specs.Prelude.{ℕ, ◌+◌, ◌*◌, List, [], ◌∷◌, ◌++◌}
use Rattle.effect.specs.declared.registers.Registers.{Registers}
use Rattle.effect.specs.Registers.{with_a, with_f, with_hl, with_sp, with_pc}
use Rattle.machine.specs.Record.{cold_of}
use Rattle.demands.specs.Symbols.{with_bc}
use Rattle.demands.specs.Cards.{Cell, cell, Shown, shown, Card, All}

-- the flag byte by its flags S, Z, AC, P and CY
abbrev pub szapc : ℕ → ℕ → ℕ → ℕ → ℕ → ℕ
szapc s z ac p cy = 128 * s + 64 * z + 16 * ac + 4 * p + 2 + cy

-- the registers of a cold machine
abbrev pub cold : Registers
cold = cold_of.regs

-- the states of a fetch, and of a later cycle of a kind
abbrev pub fetched4 : List Shown
fetched4 = shown 1 1 ∷ shown 2 1 ∷ shown 3 1 ∷ shown 4 1 ∷ []

abbrev pub fetched5 : List Shown
fetched5 = fetched4 ++ (shown 5 1 ∷ [])

abbrev pub cycle : ℕ → List Shown
cycle k = shown 1 k ∷ shown 2 k ∷ shown 3 k ∷ []

-- an event in the state t, which is below 256
abbrev pub event : ℕ → ℕ → ℕ → List ℕ
event t line value = t ∷ 0 ∷ 0 ∷ 0 ∷ line ∷ value ∷ []

-- a card of one instruction without events, that writes no memory
abbrev pub quiet : Registers → List Cell → Registers → List Shown → Card
quiet before program after states =
    record { before = before; program = program; events = []; after = after; written = []; states = states }

-- a card of a cold machine whose registers change in PC only
abbrev pub driven : List ℕ → ℕ → List Shown → Card
driven events pc states =
    record { before = cold; program = []; events = events; after = with_pc pc cold; written = []; states = states }

-- "ADD 6C and 2E: 9A, S 1, Z 0, AC 1, P 1, CY 0": ADD B
unfoldable pub add_b : Card
add_b =
    quiet (with_a 0x6C (with_bc 0x2E 0 cold)) (cell 0 0x80 ∷ [])
    (with_a 0x9A (with_f (szapc 1 0 1 1 0) (with_bc 0x2E 0 (with_pc 1 cold)))) fetched4

-- "SUB A with A 3E: 00, Z 1, P 1, AC 1, CY 0"
unfoldable pub sub_a : Card
sub_a =
    quiet (with_a 0x3E cold) (cell 0 0x97 ∷ []) (with_a 0x00 (with_f (szapc 0 1 1 1 0) (with_pc 1 cold))) fetched4

-- "DAA of 9B, CY and AC 0: 01, both 1"
unfoldable pub daa : Card
daa =
    quiet (with_a 0x9B cold) (cell 0 0x27 ∷ []) (with_a 0x01 (with_f (szapc 0 0 1 0 1) (with_pc 1 cold))) fetched4

-- "DCR of 00: FF, AC 0, CY kept": DCR A, with CY 0 and with CY 1
unfoldable pub dcr_a : Card
dcr_a =
    quiet cold (cell 0 0x3D ∷ []) (with_a 0xFF (with_f (szapc 1 0 0 1 0) (with_pc 1 cold))) fetched5

unfoldable pub dcr_carry : Card
dcr_carry =
    quiet (with_f (szapc 0 0 0 0 1) cold) (cell 0 0x3D ∷ []) (with_a 0xFF (with_f (szapc 1 0 0 1 1) (with_pc 1 cold))) fetched5

-- "INR of FF: 00, AC 1": INR A
unfoldable pub inr_a : Card
inr_a =
    quiet (with_a 0xFF cold) (cell 0 0x3C ∷ []) (with_a 0x00 (with_f (szapc 0 1 1 1 0) (with_pc 1 cold))) fetched5

-- "DAD H with H,L 8000: 0000, CY 1, Z kept", with Z 1
unfoldable pub dad_h : Card
dad_h =
    quiet (with_f (szapc 0 1 0 0 0) (with_hl 0x80 0x00 cold)) (cell 0 0x29 ∷ [])
    (with_f (szapc 0 1 0 0 1) (with_hl 0x00 0x00 (with_pc 1 cold))) (fetched4 ++ cycle 11 ++ cycle 11)

-- "INX H at FFFF: 0000, no flag", with every flag set
unfoldable pub inx_h : Card
inx_h =
    quiet (with_f (szapc 1 1 1 1 1) (with_hl 0xFF 0xFF cold)) (cell 0 0x23 ∷ [])
    (with_f (szapc 1 1 1 1 1) (with_hl 0x00 0x00 (with_pc 1 cold))) fetched5

-- "PUSH at SP 0000 writes FFFF, FFFE": PUSH H
unfoldable pub push_h : Card
push_h =
    record {
      before = with_hl 0x12 0x34 cold;
      program = cell 0 0xE5 ∷ [];
      events = [];
      after = with_hl 0x12 0x34 (with_sp 0xFFFE (with_pc 1 cold));
      written = cell 0xFFFF 0x12 ∷ cell 0xFFFE 0x34 ∷ [];
      states = fetched5 ++ cycle 5 ++ cycle 5;
    }

-- "MVI at FFFF takes its operand from 0000; PC 0001"
unfoldable pub mvi_a : Card
mvi_a =
    quiet (with_pc 0xFFFF cold) (cell 0xFFFF 0x3E ∷ cell 0 0x07 ∷ []) (with_a 0x07 (with_pc 1 cold)) (fetched4 ++ cycle 2)

-- "NOP from clock 0, READY down in states 1 and 2: 6 states"; the seventh is the next fetch's T1
unfoldable pub waits : Card
waits =
    driven (event 1 0 0 ++ event 3 0 1) 1
    (shown 1 1 ∷ shown 2 1 ∷ shown 6 1 ∷ shown 6 1 ∷ shown 3 1 ∷ shown 4 1 ∷ shown 1 1 ∷ [])

-- "Down in state 0 only: 4"
unfoldable pub early : Card
early =
    driven (event 0 0 0 ++ event 1 0 1) 1 (fetched4 ++ (shown 1 1 ∷ []))

-- "NOP, HOLD up in state 3 only: state 4 is a hold"
unfoldable pub hold_card : Card
hold_card =
    driven (event 3 1 1 ++ event 4 1 0) 1 (fetched4 ++ (shown 7 1 ∷ shown 1 1 ∷ []))

-- "EI, NOP, INT up from state 0: acknowledge begins at state 8"
unfoldable pub enabled : Card
enabled =
    record {
      before = cold;
      program = cell 0 0xFB ∷ [];
      events = event 0 2 3;
      after = with_pc 2 cold;
      written = [];
      states = fetched4 ++ fetched4 ++ (shown 1 8 ∷ []);
    }

-- the list
abbrev pub cards : List Card
cards =
    add_b ∷ sub_a ∷ daa ∷ dcr_a ∷ dcr_carry ∷ inr_a ∷ dad_h ∷ inx_h ∷ push_h ∷ mvi_a ∷ waits ∷ early ∷ hold_card ∷ enabled ∷ []

-- the statement over the starred cards
abbrev pub Starred : Type 0
Starred = All cards
