-- An instruction state by state: where it is after i states, o of them neither waits nor holds, or how it is over. Here cycles
-- count from 0. Assumes nothing.
use Prim.Native.Nat.{ℕ, suc, ◌+◌}
use mathlib.Core.Path.{◌≡◌}
use mathlib.Core.Bool.{true, false}
use mathlib.Core.List.{List, ◌∷◌}
use mathlib.Core.Logic.{◌⊎◌}
use lib.Dec.{T}
use lib.ListN.{drop}
use Rattle.opcodes.specs.Codes.{fetch4}
use Rattle.opcodes.specs.Cycles.{defined_of}
use Rattle.opcodes.specs.Kinds.{states_of}
use Rattle.opcodes.specs.Totals.{total_of, later_shape}
use Rattle.opcodes.specs.declared.cycle.Acknowledge.TheVariants.{None}
use Rattle.effect.specs.Kept.{kept_for}
use Rattle.effect.specs.Effect.{effect_of}
use Rattle.machine.specs.declared.record.Position.TheVariants.{Fetch, Later, Stop}
use Rattle.machine.specs.Ending.{ended_of}
use Rattle.demands.specs.Outside.{Outside, Moment, did_times}
use Rattle.demands.specs.Rows.{Waits, Forced}
use Rattle.demands.proofs.Work.{Work, risen, use_cycle, uses, opcode_of, here}
use Rattle.demands.specs.Board.{Board}
use Rattle.demands.specs.Course.{course_of}
use Rattle.demands.specs.Bound.{Neither}
use Rattle.demands.proofs.Steps.{size, with}
use Rattle.demands.proofs.Phases.{Early, Late}

-- of w' waits and h' holds, what is left after w and h is forced on the cycles l from the state t on
pub record Rest (E : Outside) (l : List ℕ) (t w h w' h' : ℕ) : Type 0 where
  pub waits : ℕ
  pub holds : ℕ
  pub forced : Forced E l t waits holds
  pub all_waits : w' ≡ w + waits
  pub all_holds : h' ≡ h + holds

-- the instruction with the work d after its cycles is over at the moment t
abbrev pub Ended : Work → Moment → Board
Ended d t =
    with d
    (ended_of (record { regs = effect_of d.kept d.regs; kept = d.kept; lines = t.lines; clock = t.clock; next = Fetch }))

module _ (E : Outside) (d₀ : Work) where
  -- the opcode of the instruction that begins with the work d₀, its cycles, and the work after its fetch
  abbrev pub op : ℕ
  op = opcode_of E d₀

  abbrev pub cs : List ℕ
  cs = course_of op d₀.regs.f

  abbrev pub after_fetch : Work
  after_fetch = use_cycle E fetch4 0 d₀

  module _ (t₀ : Moment) where
    -- the cycle c, with the code x, is done after i states, o of them its own and those of the cycles before; l is left
    pub record Sofar (c : ℕ) (d : Work) (t : Moment) (i o x : ℕ) (l : List ℕ) : Type 0 where
      pub defined : defined_of op ≡ true
      pub place : drop c cs ≡ x ∷ l
      pub opcode : d.kept.opcode ≡ op
      pub flags : d.regs.f ≡ d₀.regs.f
      pub inte : d.regs.inte ≡ d₀.regs.inte
      pub work : uses E (suc c) l d ≡ uses E 0 cs d₀
      pub moment : t ≡ did_times E i t₀
      pub owned : o + total_of l ≡ total_of cs
      pub later : T (later_shape l)
      pub w : ℕ
      pub h : ℕ
      pub count : i ≡ o + w + h
      pub close : (w' h' : ℕ) → Forced E l t.clock w' h' → Forced E cs t₀.clock (w + w') (h + h')
      pub apart : (w' h' : ℕ) → Forced E cs t₀.clock w' h' → Rest E l t.clock w h w' h'

    -- where the instruction is
    pub data Going : Board → ℕ → ℕ → Type 0 where
      begin : Going (here d₀ Fetch t₀) 0 0
      reading : {b : Board} {i o : ℕ} → Early E d₀ 0 fetch4 t₀ b i o → Going b i o
      read : {b : Board} {i o : ℕ} → defined_of op ≡ true → Late E after_fetch 0 fetch4 (size 0 op) t₀ b i o → Going b i o
      first : (c : ℕ) (d : Work) (t : Moment) (i o x y : ℕ) (l : List ℕ) → Sofar c d t i o x (y ∷ l)
          → Going (here d (Later (suc (suc c)) 1) t) i o
      early : {b : Board} (c : ℕ) (d : Work) (t : Moment) (i₀ o₀ x y : ℕ) (l : List ℕ) → Sofar c d t i₀ o₀ x (y ∷ l)
          → (i₁ o₁ i o : ℕ) → i ≡ i₀ + i₁ → o ≡ o₀ + o₁ → Early E d (suc c) y t b i₁ o₁ → Going b i o
      late : {b : Board} (c : ℕ) (d : Work) (t : Moment) (i₀ o₀ x y : ℕ) (l : List ℕ) → Sofar c d t i₀ o₀ x (y ∷ l)
          → (i₁ o₁ i o : ℕ) → i ≡ i₀ + i₁ → o ≡ o₀ + o₁ → Late E (use_cycle E y (suc c) d) (suc c) y (states_of y) t b i₁ o₁
          → Going b i o

    -- the instruction is over
    pub record Finished (b : Board) (i o : ℕ) : Type 0 where
      pub defined : defined_of op ≡ true
      pub w : ℕ
      pub h : ℕ
      pub forced : Forced E cs t₀.clock w h
      pub count : i ≡ total_of cs + w + h
      pub owned : o ≡ total_of cs
      pub opcode : (uses E 0 cs d₀).kept.opcode ≡ op
      pub inte : Neither op → (effect_of (uses E 0 cs d₀).kept (uses E 0 cs d₀).regs).inte ≡ d₀.regs.inte
      pub board : b ≡ Ended (uses E 0 cs d₀) (did_times E i t₀)

    -- the opcode is not defined
    pub record Stops (b : Board) (i o : ℕ) : Type 0 where
      pub undefined : defined_of op ≡ false
      pub w : ℕ
      pub waits : Waits true E (t₀.clock + 1) w
      pub count : i ≡ 3 + w
      pub owned : o ≡ 3
      pub board : b ≡
          here
          (record {
            regs = (risen fetch4 d₀).regs;
            kept = kept_for None 0;
            memory = after_fetch.memory;
            outputs = after_fetch.outputs;
          })
          Stop (did_times E i t₀)

    abbrev pub Next : Board → ℕ → ℕ → Type 0
    Next b i o = Going b i o ⊎ (Finished b i o ⊎ Stops b i o)
