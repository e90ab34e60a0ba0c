-- A card passes where its states, computed, are what it says: its arguments are good by their lengths. Assumes nothing.
use Rattle.std.specs.Prelude.{Result, Ok}
use Prim.Native.Nat.{ℕ, ◌*◌}
use mathlib.Core.Path.{◌≡◌, refl, ap, ◌∙◌}
use mathlib.Core.Bool.{Bool, false}
use mathlib.Core.List.{List, [], ◌∷◌}
use lib.ListN.{length, length-set, length-replicate, replicate}
use Rattle.effect.specs.declared.registers.Registers.{Registers}
use Rattle.machine.specs.declared.record.Machine.{Machine}
use Rattle.machine.specs.Record.{cold_of, with_regs, stopped_of}
use Rattle.run.specs.declared.answer.Refusal.{Refusal}
use Rattle.run.specs.Run.{World, run_of}
use Rattle.run.specs.Check.{check_of}
use Rattle.run.specs.Outcome.{start_of, verdict_of, answered_of}
use Rattle.run.proofs.Laws.{good_left, good_answer}
use Rattle.demands.specs.Cards.{Cell, Shown, Card, stored, card_world, ports, card_leaves, shown_in, Passes}

length_stored : (cs : List Cell) (x : List ℕ) → length (stored cs x) ≡ length x
length_stored [] x = refl
length_stored (c ∷ cs) x = length_stored cs _ ∙ length-set x c.address c.byte

pub zeros : (n : ℕ) → length (replicate {A = ℕ} n 0) ≡ n
zeros n = length-replicate n 0

-- a call over a trace and ports of zeros passes the tests by its lengths
pub lengths_good : (m : Machine) (x s : List ℕ) (k n : ℕ) → length x ≡ 65536 → check_of m 65536 256 256 s k n ≡ Ok tt
    → verdict_of (start_of m x ports (replicate k 0)) ports s n ≡ Ok tt
unfolding verdict_of
lengths_good m x s k n e f = rw (e, zeros 256, zeros k) f

-- the tests of a card's call, its memory being as long as it is
abbrev pub fair : Card → Result (Unit {0}) Refusal
fair k =
    check_of (with_regs k.before cold_of) 65536 256 256 k.events (8 * length k.states) (length k.states)

good : (k : Card) → fair k ≡ Ok tt → verdict_of (card_world k) ports k.events (length k.states) ≡ Ok tt
good k f =
    lengths_good (with_regs k.before cold_of) (stored k.program (replicate 65536 0)) k.events (8 * length k.states)
    (length k.states) (length_stored k.program (replicate 65536 0) ∙ zeros 65536) f

-- the states of a card's call
abbrev pub ran : Card → World
ran k = run_of k.events ports (length k.states) (card_world k)

-- are what it leaves
pub left_is : (k : Card) → fair k ≡ Ok tt → card_leaves k ≡ ran k
left_is k f = good_left (card_world k) ports k.events (length k.states) (good k f)

-- what counts of them, as computed and as the card has it
pub record Seen : Type 0 where
  pub verdict : Result (Unit {0}) Refusal
  pub stopped : Bool
  pub count : ℕ
  pub regs : Registers
  pub memory : List ℕ
  pub outputs : List ℕ
  pub states : List Shown

abbrev pub seen_in : Card → Seen
seen_in k =
    record {
      verdict = fair k;
      stopped = stopped_of (ran k).machine.next;
      count = (ran k).states;
      regs = (ran k).machine.regs;
      memory = (ran k).memory;
      outputs = (ran k).outputs;
      states = shown_in (ran k).trace (length k.states) 0;
    }

abbrev pub expected : Card → Seen
expected k =
    record {
      verdict = Ok tt;
      stopped = false;
      count = length k.states;
      regs = k.after;
      memory = stored k.written (card_world k).memory;
      outputs = ports;
      states = k.states;
    }

pub passes : (k : Card) → seen_in k ≡ expected k → Passes k
unfolding answered_of
passes k c =
    let f = ap (λ (x : Seen). x.verdict) c in
    let e = left_is k f in
    let a = good_answer (card_world k) ports k.events (length k.states) (good k f) in
    record {
      answer = rw (a, e, ap (λ (x : Seen). x.stopped) c, ap (λ (x : Seen). x.count) c);
      regs = rw e (ap (λ (x : Seen). x.regs) c);
      memory = rw e (ap (λ (x : Seen). x.memory) c);
      outputs = rw e (ap (λ (x : Seen). x.outputs) c);
      states = rw e (ap (λ (x : Seen). x.states) c);
    }
