-- A restart is defined, has 11 states, and is neither EI nor DI: a computed test over the eight. Assumes nothing.
use Prim.Native.Nat.{ℕ, ◌+◌, ◌*◌, ◌<◌}
use mathlib.Core.Path.{◌≡◌}
use mathlib.Core.Bool.{Bool, true, false, ◌&&◌}
use native.Mathlib.Omega.{arith}
use borrow.Author.Tests.{ne_eqb}
use lib.Dec.{eqb, T, eqb→eq}
use Rattle.laws.proofs.Every.{every, below, either, and_left, and_right}
use Rattle.laws.proofs.Tests.{T→true}
use Rattle.opcodes.specs.Instructions.{decode}
use Rattle.opcodes.specs.Cycles.{defined_of, cycling}
use Rattle.opcodes.specs.Totals.{listed_total}
use Rattle.demands.specs.Bound.{Neither}
use Rattle.demands.specs.Legs.{restart_byte}

-- a restart is defined, and has 11 states
eleven : ℕ → Bool → Bool
eleven k met = defined_of (0xC7 + 8 * k) && eqb (listed_total (decode (0xC7 + 8 * k)) met) 11

elevens : ℕ → Bool
elevens k = eleven k true && eleven k false

all_eleven : T (every elevens 8)
unfolding elevens eleven cycling listed_total
all_eleven = tt

module _ (n : ℕ) (l : n < 8) where
  eleven_is : (met : Bool) → T (eleven n met)
  unfolding elevens
  eleven_is met = either (eleven n) (below elevens 8 all_eleven n l) met

  pub restart_defined : defined_of (restart_byte n) ≡ true
  unfolding eleven
  restart_defined =
      T→true (defined_of (restart_byte n))
      (and_left (defined_of (restart_byte n)) (eqb (listed_total (decode (restart_byte n)) true) 11) (eleven_is true))

  pub restart_total : (met : Bool) → listed_total (decode (restart_byte n)) met ≡ 11
  unfolding eleven
  restart_total met =
      eqb→eq (listed_total (decode (restart_byte n)) met) 11
      (and_right (defined_of (restart_byte n)) (eqb (listed_total (decode (restart_byte n)) met) 11) (eleven_is met))

  -- and is neither EI nor DI
  pub restart_neither : Neither (restart_byte n)
  restart_neither = (ne_eqb (restart_byte n) 0xFB (λ e. omega arith), ne_eqb (restart_byte n) 0xF3 (λ e. omega arith))
