-- The starred bench cards of document 01, as one list with a single statement over it. Each is a call of `run`: what goes in,
-- and what its contract says comes out. Proved in proofs/Cards.
use Rattle.std.specs.Prelude.{ℕ, zero, suc, ◌+◌, ◌*◌, ◌≡◌, List, [], ◌∷◌, length, get_or, set, replicate}
use Rattle.effect.specs.declared.registers.Registers.{Registers}
use Rattle.machine.specs.Record.{cold_of, with_regs}
use Rattle.run.specs.declared.answer.Answer.TheVariants.{Done}
use Rattle.run.specs.Run.{World}
use Rattle.run.specs.Outcome.{start_of, left_of, answer_of}

-- a byte of memory
pub record Cell : Type 0 where
  pub address : ℕ
  pub byte : ℕ

abbrev pub cell : ℕ → ℕ → Cell
cell a v = record { address = a; byte = v }

-- state code and cycle kind of a state, as its row of the trace has them
pub record Shown : Type 0 where
  pub state : ℕ
  pub kind : ℕ

abbrev pub shown : ℕ → ℕ → Shown
shown s k = record { state = s; kind = k }

-- a card: registers, bytes in a memory of zeros, and events before; registers and bytes written after; and what the states show
pub record Card : Type 0 where
  pub before : Registers
  pub program : List Cell
  pub events : List ℕ
  pub after : Registers
  pub written : List Cell
  pub states : List Shown

-- memory x with some bytes stored, one after the other
abbrev pub stored : List Cell → List ℕ → List ℕ
stored [] x = x
stored (c ∷ cs) x = stored cs (set x c.address c.byte)

-- all ports 0
abbrev pub ports : List ℕ
ports = replicate 256 0

-- the world that the card begins with
abbrev pub card_world : Card → World
card_world k =
    start_of (with_regs k.before cold_of) (stored k.program (replicate 65536 0)) ports
    (replicate (8 * length k.states) 0)

-- what n rows of the trace l from the place i on show
abbrev pub shown_in : List ℕ → ℕ → ℕ → List Shown
shown_in l zero i = []
shown_in l (suc n) i = shown (get_or l i 0) (get_or l (i + 1) 0) ∷ shown_in l n (i + 8)

-- what the call of a card leaves
abbrev pub card_leaves : Card → World
card_leaves k = left_of (card_world k) ports k.events (length k.states)

-- the call of a card is answered with 0 and all its states; registers, memory and trace are those of the card, the ports stay
pub record Passes (k : Card) : Type 0 where
  pub answer : answer_of (card_world k) ports k.events (length k.states)
      ≡ Done (record { machine = (card_leaves k).machine; states = length k.states })
  pub regs : (card_leaves k).machine.regs ≡ k.after
  pub memory : (card_leaves k).memory ≡ stored k.written (card_world k).memory
  pub outputs : (card_leaves k).outputs ≡ ports
  pub states : shown_in (card_leaves k).trace (length k.states) 0 ≡ k.states

-- all cards of a list pass
abbrev pub All : List Card → Type 0
All [] = Unit {0}
All (k ∷ ks) = Passes k × All ks
