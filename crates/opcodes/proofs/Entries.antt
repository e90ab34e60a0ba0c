-- The table's rule at each opcode: what stands in its entry is what the rule says. One computed test over all opcodes, and
-- the laws that give it at any of them. Assumes nothing.
use Prim.Native.Nat.{ℕ, suc, ◌<◌, ◌≤◌}
use mathlib.Core.Path.{◌≡◌, sym, ◌∙◌}
use mathlib.Core.Bool.{Bool, true, false, ◌&&◌}
use mathlib.Core.List.{◌∷◌}
use native.Mathlib.Omega.{arith}
use mathlib.Core.Logic.{⊎_elim}
use borrow.Author.Tests.{le-leb, lt-leb}
use lib.Dec.{T, eqb, leb, eqb→eq, leb→le}
use lib.ListN.{length, get_or, get_or-eq_default}
use Rattle.laws.proofs.Every.{every, below, either, same, same→eq, and_each}
use Rattle.laws.proofs.Order.{lt_or_le}
use Rattle.laws.proofs.Listed.{tabulated}
use Rattle.opcodes.specs.Instructions.{decode}
use Rattle.opcodes.specs.Cycles.{cycles, code_of, count_of, defined_of, cycling}
use Rattle.opcodes.specs.Entries.{entry_of, entries, code_in, count_in, defined_in}

code_right : ℕ → ℕ → Bool
code_right op c = eqb (code_in (entry_of op) c) (code_of op c)

codes_right : ℕ → Bool
codes_right op = every (code_right op) 6

count_right : ℕ → Bool → Bool
count_right op met = eqb (count_in (entry_of op) met) (count_of op met)

counts_right : ℕ → Bool
counts_right op = count_right op true && count_right op false

mark_right : ℕ → Bool
mark_right op = same (defined_in (entry_of op)) (defined_of op)

at_most_five : ℕ → Bool
at_most_five op = leb (count_of op true) 5

-- the codes of the cycles, both counts, and whether it is defined; and there are at most five cycles
right : ℕ → Bool
right op = codes_right op && (counts_right op && (mark_right op && at_most_five op))

all_right : T (every right 256)
unfolding right codes_right code_right counts_right count_right mark_right at_most_five entry_of code_in count_in defined_in cycling
all_right = tt

-- what stands at an opcode's place of the table
pub entry_at : (op : ℕ) → op < 256 → get_or entries op 0 ≡ entry_of op
unfolding entries
entry_at op h = tabulated entry_of 256 op h

module _ (op : ℕ) (h : op < 256) where
  parts : T (codes_right op) × T (counts_right op) × T (mark_right op) × T (at_most_five op)
  unfolding right
  parts =
      and_each (codes_right op) (counts_right op) (mark_right op) (at_most_five op) (below right 256 all_right op h)

  pub few_cycles : count_of op true ≤ 5
  unfolding at_most_five
  few_cycles = leb→le (count_of op true) 5 parts.3

  first_codes : (c : ℕ) → c < 6 → code_in (entry_of op) c ≡ code_of op c
  unfolding codes_right code_right
  first_codes c l = eqb→eq (code_in (entry_of op) c) (code_of op c) (below (code_right op) 6 parts.0 c l)

  no_sixth : (c : ℕ) → 5 < c → code_of op c ≡ 0
  unfolding code_of count_of
  no_sixth c l =
      get_or-eq_default (0 ∷ cycles (decode op) true) 0
      (let past : suc (length (cycles (decode op) true)) ≤ c = omega (arith, few_cycles) in past)

  none_in : (p c : ℕ) → 5 < c → code_in p c ≡ 0
  unfolding code_in
  none_in p c l = simp (le-leb 1 c (omega arith), lt-leb c 5 l)

  -- the code of any cycle, the number of cycles, and whether the opcode is defined, as its entry has them
  pub code_in_lem : (c : ℕ) → code_in (entry_of op) c ≡ code_of op c
  code_in_lem c =
      ⊎_elim (λ (l : c < 6). first_codes c l)
      (λ (l : 6 ≤ c). none_in (entry_of op) c (omega arith) ∙ sym (no_sixth c (omega arith)))
      (lt_or_le c 6)

  pub count_in_lem : (met : Bool) → count_in (entry_of op) met ≡ count_of op met
  unfolding counts_right count_right
  count_in_lem met =
      eqb→eq (count_in (entry_of op) met) (count_of op met) (either (count_right op) parts.1 met)

  pub defined_in_lem : defined_in (entry_of op) ≡ defined_of op
  unfolding mark_right
  defined_in_lem = same→eq (defined_in (entry_of op)) (defined_of op) parts.2
