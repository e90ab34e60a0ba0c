-- The theorem of demand 3, second sentence. Assumes nothing.
use Prim.Native.Nat.{ℕ, ◌+◌, ◌≤◌, ◌<◌}
use mathlib.Core.Path.{◌≡◌, sym, ap, ◌∙◌, subst}
use mathlib.Core.Bool.{true, false}
use mathlib.Core.List.{List, []}
use mathlib.Core.Logic.{⊎_elim}
use native.Mathlib.Omega.{arith}
use Rattle.machine.specs.Record.{stopped_of}
use Rattle.demands.specs.Outside.{Outside, int_in, outside_of}
use Rattle.demands.specs.Board.{Board, board_of}
use Rattle.demands.specs.Own.{own}
use Rattle.demands.specs.Begins.{begins, Acknowledges}
use Rattle.demands.specs.Calls.{world_on}
use Rattle.demands.specs.Bound.{sum_below, Neither, under_way, world_at, Rises, SoonTaken}
use Rattle.demands.proofs.Stretches.{bool}
use Rattle.demands.proofs.Steps.{run}
use Rattle.demands.proofs.Bridge.{bridge}
use Rattle.demands.proofs.Openings.{Start}
use Rattle.demands.proofs.Journeys.{Now, now_begin}
use Rattle.demands.proofs.Runs.{run_ends}
use Rattle.demands.proofs.Facts.{now_facts}
use Rattle.demands.proofs.Latency.{sum_same, own_from, own_stopped, soon}
use Rattle.demands.proofs.Fresh.{beginning_start}
use Rattle.demands.proofs.Calling.{reached_long, run_clock}
use Rattle.demands.proofs.Lines.{event_int}
use Rattle.demands.proofs.Stays.{ends_start, stays, run_add}

module _ (s inputs : List ℕ) (b : Board) (n : ℕ) (time : b.machine.clock + n ≤ 4294967295) (start : Start b) where
  abbrev E : Outside
  E = outside_of s inputs b.machine

  -- the world after j states
  at : (j : ℕ) → j ≤ n → board_of (world_at s inputs b j) ≡ run E j b
  at j l = bridge s inputs j (world_on b []) (omega arith)

  module _ (a i k : ℕ) (l : a + i + k ≤ n) (r : Rises s inputs b a i k) where
    abbrev b₁ : Board
    b₁ = run E a b

    abbrev b₂ : Board
    b₂ = run E (a + i) b

    first_at : board_of (world_at s inputs b a) ≡ b₁
    first_at = at a (omega arith)

    rise_at : board_of (world_at s inputs b (a + i)) ≡ b₂
    rise_at = at (a + i) (omega arith)

    begun_start : Start b₁
    begun_start =
        ends_start E b b₁ (0 + a) start (run_ends E a b b 0 0 (now_begin E b start))
        (ap (λ (x : Board). begins x.machine.next) (sym first_at) ∙ r.begun)

    neither : Neither (under_way b₁)
    neither = subst (λ (x : Board). Neither (under_way x)) first_at r.under

    inside : stopped_of b₂.machine.next ≡ false → (o : ℕ) × Now E b₁ b₂ (0 + i) o
    inside f =
        let e = run_add E a i b in
        let (o, x) =
        stays E i b₁ b₁ 0 0 (now_begin E b₁ begun_start)
        (λ j p q.
        ap (λ (x : Board). begins x.machine.next) (sym (at (a + j) (omega arith) ∙ run_add E a j b)) ∙ r.owns j p q)
        (ap (λ (x : Board). stopped_of x.machine.next) (sym e) ∙ f) in
        (o, subst (λ (z : Board). Now E b₁ z (0 + i) o) (sym e) x)

    -- the sum over the worlds is the sum over the boards
    same_sum : sum_below (λ j. own (world_at s inputs b (a + i + j)).machine.next) k ≡ own_from E b₂ k
    same_sum =
        sum_same (λ j. own (world_at s inputs b (a + i + j)).machine.next) (λ j. own (run E j b₂).machine.next) k
        (λ j h. ap (λ (x : Board). own x.machine.next) (at (a + i + j) (omega arith) ∙ run_add E (a + i) j b))

    awake : stopped_of b₂.machine.next ≡ false → own_from E b₂ k ≤ 18
    unfolding outside_of
    awake f =
        let (o, x) = inside f in
        let c : b₂.machine.clock ≡ b.machine.clock + (a + i) = run_clock E (a + i) b f in
        let on : b₁.machine.regs.inte ≡ true =
        sym (now_facts E b₁ neither x).inte
        ∙ ap (λ (z : Board). z.machine.regs.inte) (sym rise_at)
        ∙ r.enabled in
        let up : int_in s b₂.machine.clock b₂.machine.lines.int < 8 =
        subst (λ (z : Board). int_in s z.machine.clock z.machine.lines.int < 8) rise_at
        (subst (λ (z : ℕ). z < 8) (event_int s (world_at s inputs b (a + i)).machine) r.up) in
        let q =
        soon E b₁ neither on k (0 + i) o b₂ x (λ p. up)
        (λ u v p h. r.kept u v (omega arith) (omega arith))
        (λ j p h z.
        r.untaken j p h
        (subst (λ (y : Board). Acknowledges y.machine) (sym (at (a + i + j) (omega arith) ∙ run_add E (a + i) j b)) z)) in
        omega arith

    pub bounded : sum_below (λ j. own (world_at s inputs b (a + i + j)).machine.next) k ≤ 18
    bounded =
        ⊎_elim
        (λ (f : stopped_of b₂.machine.next ≡ true).
        let e = own_stopped E b₂ k f in omega (arith, same_sum))
        (λ (f : stopped_of b₂.machine.next ≡ false). let h = awake f in omega (arith, same_sum))
        (bool (stopped_of b₂.machine.next))

pub soon_taken : SoonTaken
soon_taken s inputs b b' n r w a i k l h =
    let x = reached_long s inputs b b' n r in
    bounded s inputs b n x.time (beginning_start b x.well w) a i k l h
