-- How many cycles and states there are, by computed tests over all opcodes.
-- Assumes nothing.
use Prim.Native.Nat.{ℕ, ◌/◌, ◌%◌, ◌<◌, ◌≤◌}
use mathlib.Core.Path.{◌≡◌, subst}
use mathlib.Core.Bool.{Bool, true, false, not, ◌&&◌, ◌||◌}
use mathlib.Core.List.{[], ◌∷◌}
use mathlib.Core.Logic.{⊎_elim}
use native.Mathlib.Omega.{arith}
use lib.Dec.{T, leb, leb→le}
use lib.ListN.{get_or-eq_default}
use Rattle.laws.proofs.Every.{every, below, either, and_left, and_right}
use Rattle.laws.proofs.Order.{lt_or_le}
use Rattle.laws.proofs.Tests.{T→true}
use Rattle.opcodes.specs.Instructions.{Instruction, undefined, nth, decode, decode0, decode1, decode2, decode3}
use Rattle.opcodes.specs.Cycles.{cycles, code_of, count_of, defined_of, cycling}
use Rattle.opcodes.specs.Kinds.{states_of}

-- past the end of a list of four there is no instruction
past_four : (a b c d : Instruction) (q : ℕ) → 4 ≤ q → nth (a ∷ b ∷ c ∷ d ∷ []) q ≡ undefined
unfolding nth
past_four a b c d q h = get_or-eq_default (a ∷ b ∷ c ∷ d ∷ []) undefined h

-- an opcode that decodes to none is not defined
undefined_no : (op : ℕ) → decode op ≡ undefined → T (defined_of op) → ⊥
unfolding defined_of count_of cycles
undefined_no op e t = rw e at t

-- a number past the bytes decodes to none
past_none : (op : ℕ) → 256 ≤ op → decode op ≡ undefined
unfolding decode
past_none op h =
    past_four (decode0 (op / 8 % 8) (op % 8)) (decode1 (op / 8 % 8) (op % 8)) (decode2 (op / 8 % 8) (op % 8))
    (decode3 (op / 8 % 8) (op % 8)) (op / 64) (omega arith)

-- an opcode that is defined is a byte
pub defined_byte : (op : ℕ) → T (defined_of op) → op < 256
defined_byte op t =
    ⊎_elim (λ (l : op < 256). l) (λ (l : 256 ≤ op). absurd (undefined_no op (past_none op l) t)) (lt_or_le op 256)

-- every cycle has three states or more; past the last cycle the code 0 counts as three
three_right : ℕ → ℕ → Bool
three_right op c = leb 3 (states_of (code_of op c))

threes_right : ℕ → Bool
threes_right op = every (three_right op) 6

all_threes : T (every threes_right 256)
unfolding threes_right three_right cycling states_of
all_threes = tt

-- an opcode that is defined has one to five cycles
some_right : ℕ → Bool → Bool
some_right op met = not (defined_of op) || (leb 1 (count_of op met) && leb (count_of op met) 5)

somes_right : ℕ → Bool
somes_right op = some_right op true && some_right op false

all_somes : T (every somes_right 256)
unfolding somes_right some_right cycling
all_somes = tt

-- and its first cycle has four states or more
four_right : ℕ → Bool
four_right op = not (defined_of op) || leb 4 (states_of (code_of op 1))

all_fours : T (every four_right 256)
unfolding four_right cycling states_of
all_fours = tt

-- of an opcode that is defined
module _ (op : ℕ) (t : T (defined_of op)) where
  counted : (met : Bool) → T (leb 1 (count_of op met) && leb (count_of op met) 5)
  unfolding somes_right some_right
  counted met =
      subst (λ (x : Bool). T (not x || (leb 1 (count_of op met) && leb (count_of op met) 5))) (T→true (defined_of op) t)
      (either (some_right op) (below somes_right 256 all_somes op (defined_byte op t)) met)

  -- there is a cycle, and there are at most five
  pub count_some : (met : Bool) → 1 ≤ count_of op met
  count_some met = leb→le 1 (count_of op met) (and_left (leb 1 (count_of op met)) (leb (count_of op met) 5) (counted met))

  pub count_few : (met : Bool) → count_of op met ≤ 5
  count_few met = leb→le (count_of op met) 5 (and_right (leb 1 (count_of op met)) (leb (count_of op met) 5) (counted met))

  -- every cycle has three states or more, and the first has four or more
  pub states_three : (met : Bool) (c : ℕ) → c ≤ count_of op met → 3 ≤ states_of (code_of op c)
  unfolding threes_right three_right
  states_three met c l =
      leb→le 3 (states_of (code_of op c))
      (below (three_right op) 6 (below threes_right 256 all_threes op (defined_byte op t)) c (omega (arith, count_few met)))

  pub states_four : 4 ≤ states_of (code_of op 1)
  unfolding four_right
  states_four =
      leb→le 4 (states_of (code_of op 1))
      (subst (λ (x : Bool). T (not x || leb 4 (states_of (code_of op 1)))) (T→true (defined_of op) t)
      (below four_right 256 all_fours op (defined_byte op t)))
