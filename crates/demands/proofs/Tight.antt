-- The bound of 18 is met, by computing the states of an XTHL. Assumes nothing.
use Rattle.std.specs.Prelude.{Ok}
use Prim.Native.Nat.{ℕ, suc, ◌+◌, ◌<◌}
use mathlib.Core.Path.{◌≡◌, refl, sym, ap, ◌∙◌, subst}
use mathlib.Core.Bool.{Bool, true, false, not, ◌||◌, true≢false}
use mathlib.Core.List.{[]}
use native.Mathlib.Omega.{arith}
use borrow.Author.Tests.{ne_eqb}
use lib.Dec.{T, eqb, lit<}
use lib.ListN.{replicate}
use Rattle.laws.proofs.Every.{every, below}
use Rattle.laws.specs.Choice.{pick}
use Rattle.machine.specs.declared.record.Lines.{Lines}
use Rattle.schedule.specs.Levels.{act_of}
use Rattle.run.specs.Check.{check_of}
use Rattle.run.specs.Outcome.{verdict_of}
use Rattle.demands.specs.Outside.{int_in}
use Rattle.demands.specs.Board.{Board, board_of}
use Rattle.demands.specs.Own.{own}
use Rattle.demands.specs.Begins.{begins, Acknowledges}
use Rattle.demands.specs.Calls.{world_on, Reached, amid}
use Rattle.demands.specs.Bound.{sum_below, Rises}
use Rattle.demands.specs.Cards.{ports}
use Rattle.demands.specs.Tight.{xthl, rising, after, BoundMet}
use Rattle.demands.proofs.Open.{everything}
use Rattle.demands.proofs.Cards.{zeros, lengths_good}
use Rattle.demands.proofs.Calling.{same_boards}

-- the run passes the tests
fair : check_of xthl.machine 65536 256 256 rising 144 18 ≡ Ok tt
unfolding everything
fair = refl

passes : verdict_of (world_on xthl (replicate 144 0)) ports rising 18 ≡ Ok tt
passes = lengths_good xthl.machine xthl.memory rising 144 18 (ap suc (zeros 65535)) fair

reached : Reached rising ports xthl 18 (board_of (after 18))
reached =
    subst (λ (x : Board). Reached rising ports xthl 18 x)
    (same_boards rising ports 18 (world_on xthl (replicate 144 0)) (world_on xthl []) refl refl)
    (amid (replicate 144 0) 18 18 passes (omega arith))

-- no leg begins in the states between
inner : ℕ → Bool
inner j = eqb j 0 || not (begins (after j).machine.next)

all_inner : T (every inner 18)
unfolding inner everything
all_inner = tt

not_false : (b : Bool) → T (not b) → b ≡ false
not_false true t = absurd t
not_false false t = refl

not_begun : (j : ℕ) → 0 < j → T (inner j) → begins (after j).machine.next ≡ false
unfolding inner
not_begun j h t =
    not_false (begins (after j).machine.next)
    (subst (λ (x : Bool). T (x || not (begins (after j).machine.next))) (ne_eqb j 0 (λ e. omega arith)) t)

-- the schedule has no other event
unmoved : (b : Bool) (l : Lines) → b ≡ false → (pick b (act_of 2 5 l) l).int ≡ l.int
unmoved true l e = absurd (true≢false e)
unmoved false l e = refl

stays : (u v : ℕ) → 0 < u → int_in rising u v ≡ v
unfolding everything int_in
stays u v h = unmoved (eqb 0 u) (record { ready = 0; hold = 0; int = v }) (ne_eqb 0 u (λ e. omega arith))

rises : Rises rising ports xthl 0 0 18
unfolding everything
rises =
    record {
      begun = refl;
      under = (refl, refl);
      owns = λ j p q. absurd (let no : ⊥ = omega arith in no);
      enabled = refl;
      up = lit< tt;
      kept = λ u v p q l. subst (λ (x : ℕ). x < 8) (sym (stays u v p)) l;
      untaken =
          λ j p q a.
          true≢false
          (sym (ap begins a.0)
          ∙ ap (λ (i : ℕ). begins (after i).machine.next) (let e : 0 + 0 + j ≡ j = omega arith in e)
          ∙ not_begun j p (below inner 18 all_inner j q));
    }

states : sum_below (λ j. own (after (0 + 0 + j)).machine.next) 18 ≡ 18
unfolding everything
states = refl

taken : Acknowledges (after 18).machine
unfolding everything
taken = (refl, refl)

pub bound_met : BoundMet
unfolding everything
bound_met = record { beginning = (refl, refl); reached = reached; rises = rises; states = states; taken = taken }
