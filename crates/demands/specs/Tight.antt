-- The bound of 18 is met: by XTHL at address 0 of a machine that is cold but for INTE, with INT rising in its first state.
-- Proved by computing in proofs/Tight.
use Rattle.std.specs.Prelude.{ℕ, ◌+◌, ◌≡◌, true, List, [], ◌∷◌, replicate}
use Rattle.effect.specs.Registers.{with_inte}
use Rattle.machine.specs.Record.{cold_of, with_regs}
use Rattle.run.specs.Run.{World}
use Rattle.demands.specs.Board.{Board, board_of}
use Rattle.demands.specs.Own.{own}
use Rattle.demands.specs.Begins.{Beginning, Acknowledges}
use Rattle.demands.specs.Calls.{Reached}
use Rattle.demands.specs.Cards.{ports}
use Rattle.demands.specs.Bound.{sum_below, world_at, Rises}

-- XTHL, and all else zero
abbrev pub xthl : Board
xthl =
    record {
      machine = with_regs (with_inte true cold_of.regs) cold_of;
      memory = 0xE3 ∷ replicate 65535 0;
      outputs = ports;
    }

-- state 0, INT, up with the number 5
abbrev pub rising : List ℕ
rising = 0 ∷ 0 ∷ 0 ∷ 0 ∷ 2 ∷ 5 ∷ []

abbrev pub after : ℕ → World
after j = world_at rising ports xthl j

-- a run of 18 states from there is one of which the bound speaks; all 18 are neither waits nor holds; and then the acknowledge
-- cycle begins
pub record BoundMet : Type 0 where
  pub beginning : Beginning xthl.machine
  pub reached : Reached rising ports xthl 18 (board_of (after 18))
  pub rises : Rises rising ports xthl 0 0 18
  pub states : sum_below (λ j. own (after (0 + 0 + j)).machine.next) 18 ≡ 18
  pub taken : Acknowledges (after 18).machine
