-- A run from the cold machine and the listing of its trace are what the program prints.
-- Assumes nothing.
use Prim.Native.Nat.{ℕ}
use mathlib.Core.Path.{◌≡◌, ap, subst, ◌∙◌}
use mathlib.Core.List.{List, [], ◌++◌}
use native.Mathlib.Omega.{arith}
use lib.ListN.{length, drop, replicate}
use Rattle.machine.specs.declared.record.Machine.{Machine}
use Rattle.machine.specs.Record.{cold_of}
use Rattle.run.specs.declared.answer.Ran.{Ran}
use Rattle.run.specs.declared.answer.Answer.{Answer}
use Rattle.run.specs.Answer.{ran_of}
use Rattle.run.specs.Outcome.{Outcome}
use Rattle.text.specs.Text.{text_of, written_of}
use Rattle.listing.specs.Listing.{listing_of, Lists}
use Rattle.print_states.specs.Printed.{world_after, ran_after, printed_of, Printed}

pub whole : (m : Machine) (x x' o' l' : List ℕ) (a : Answer) (ran : Ran) (out out' : List ℕ) (r : ℕ) → m ≡ cold_of
    → Outcome m x (replicate 256 0) (replicate 256 0) [] (replicate 32768 0) 4096 a x' o' l' → length l' ≡ 32768 → ran ≡ ran_of a
    → Lists l' ran.states ran.machine.regs.a ran.machine.regs.pc out r out' → Printed x out r x' out'
unfolding world_after ran_after printed_of
whole m x x' o' l' a ran out out' r cold w rows e t =
    let c : Outcome cold_of x (replicate 256 0) (replicate 256 0) [] (replicate 32768 0) 4096 a x' o' l' =
    subst (λ (n : Machine). Outcome n x (replicate 256 0) (replicate 256 0) [] (replicate 32768 0) 4096 a x' o' l') cold w
    in
    let same : listing_of l' ran.states ran.machine.regs.a ran.machine.regs.pc ≡ printed_of x =
    ap (λ l. listing_of l ran.states ran.machine.regs.a ran.machine.regs.pc) c.trace
    ∙ ap (λ (n : Ran). listing_of (world_after x).trace n.states n.machine.regs.a n.machine.regs.pc)
    (e ∙ ap ran_of c.answer)
    in
    record {
      memory = c.memory;
      text = t.text ∙ ap (λ s. written_of s (text_of out 0)) same;
      whole = λ room.
          let there = t.whole (omega arith) in
          (there.0 ∙ ap length same, there.1 ∙ ap (λ s. s ++ drop r out) same);
    }
