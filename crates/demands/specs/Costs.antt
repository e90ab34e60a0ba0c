-- What a number of states is made up of. Cited by the statements of demands 2 and 3.
use Rattle.std.specs.Prelude.{ℕ, ◌≡◌}
use Rattle.demands.specs.Outside.{Outside}
use Rattle.demands.specs.Board.{Board}
use Rattle.demands.specs.Legs.{Tally, states_in, Trip}

-- n states from the board b to the board b' are those of instructions, acknowledged restarts and halt states one after the
-- other, with what is forced; and no other number of any of them makes up as many states
pub record Costs (E : Outside) (b : Board) (n : ℕ) (b' : Board) : Type 0 where
  pub tallied : Tally
  pub trip : Trip E b tallied b'
  pub states : n ≡ states_in tallied
  pub only : (q : Tally) (x : Board) → Trip E b q x → states_in q ≡ n → (q ≡ tallied) × (x ≡ b')
