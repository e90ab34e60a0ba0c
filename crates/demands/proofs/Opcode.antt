-- The cycles of an instruction keep the opcode that the first of them reads, and leave the flag byte and INTE. Assumes nothing.
use Prim.Native.Nat.{ℕ, suc, ◌/◌, ◌%◌}
use mathlib.Core.Path.{◌≡◌, refl, ◌∙◌}
use mathlib.Core.Bool.{Bool, true, false, ◌&&◌}
use mathlib.Core.List.{List, [], ◌∷◌}
use native.Mathlib.Omega.{arith}
use borrow.Author.Tests.{ne_eqb}
use lib.Dec.{T, eqb→eq}
use lib.ListN.{get_or}
use Rattle.laws.specs.Choice.{pick}
use Rattle.alu.specs.Words.{up_of, down_of}
use Rattle.opcodes.specs.declared.cycle.Acknowledge.TheVariants.{None}
use Rattle.opcodes.specs.Kinds.{is_fetch, kind_of, reads_of, raises_of}
use Rattle.opcodes.specs.Totals.{shape}
use Rattle.effect.specs.declared.registers.Registers.{Registers}
use Rattle.effect.specs.declared.kept.Kept.{Kept}
use Rattle.effect.specs.Kept.{kept_for, keep_of}
use Rattle.effect.specs.Bus.{address_of}
use Rattle.machine.specs.Look.{first_pc_of}
use Rattle.machine.specs.Request.{asked_of}
use Rattle.machine.specs.Step.{risen_of}
use Rattle.run.specs.State.{byte_on}
use Rattle.demands.specs.Outside.{Outside}
use Rattle.demands.proofs.Work.{Work, asking, risen, use_cycle, uses}

-- a byte read in a later cycle is not the opcode
keep_later : (b : Bool) (c v : ℕ) (k : Kept) → (pick b (keep_of (suc (suc c)) v k) k).opcode ≡ k.opcode
unfolding keep_of
keep_later true c v k = rw (ne_eqb (suc (suc c)) 1 (λ e. let no : ⊥ = omega (arith, e) in no))
keep_later false c v k = refl

-- of four tests in one, the first
and_first : (a b c d : Bool) → T (a && b && c && d) → T a
and_first true b c d t = tt
and_first false b c d t = t

-- PC goes back to what it was in T1
pub back : (a : ℕ) → down_of (up_of a 1) 1 ≡ a % 65536
back a = omega arith

module _ (E : Outside) where
  -- a later cycle does not change the opcode
  pub use_opcode : (code c : ℕ) (d : Work) → (use_cycle E code (suc c) d).kept.opcode ≡ d.kept.opcode
  use_opcode code c d =
      keep_later (reads_of code) c (byte_on (asking code (risen code d).regs d.kept) d.memory E.inputs) d.kept

  -- no cycle changes the flags or INTE
  pub use_flags : (code c : ℕ) (d : Work) → (use_cycle E code c d).regs.f ≡ d.regs.f
  unfolding risen_of
  use_flags code c d = refl

  pub use_inte : (code c : ℕ) (d : Work) → (use_cycle E code c d).regs.inte ≡ d.regs.inte
  unfolding risen_of
  use_inte code c d = refl

  -- so the cycles of a list
  later_opcode : (cs : List ℕ) (c : ℕ) (d : Work) → (uses E (suc c) cs d).kept.opcode ≡ d.kept.opcode
  later_opcode [] c d = refl
  later_opcode (code ∷ cs) c d = later_opcode cs (suc c) (use_cycle E code (suc c) d) ∙ use_opcode code c d

  pub same_flags : (cs : List ℕ) (c : ℕ) (d : Work) → (uses E c cs d).regs.f ≡ d.regs.f
  same_flags [] c d = refl
  same_flags (code ∷ cs) c d = same_flags cs (suc c) (use_cycle E code c d) ∙ use_flags code c d

  -- nothing is kept yet
  module _ (r : Registers) (memory outputs : List ℕ) where
    abbrev pub fresh : Work
    fresh = record { regs = r; kept = kept_for None 0; memory = memory; outputs = outputs }

    raises : (code : ℕ) → code / 16 ≡ 1 → raises_of code None ≡ true
    unfolding raises_of
    raises code e = rw (ne_eqb code 32 (λ q. let no : ⊥ = omega (arith, e, q) in no), e)

    fetched : (code : ℕ) → code / 16 ≡ 1 → (use_cycle E code 0 fresh).kept.opcode ≡ get_or memory (r.pc % 65536) 0
    unfolding kept_for keep_of kind_of reads_of address_of first_pc_of asked_of risen_of byte_on
    fetched code e = rw (raises code e, e, back r.pc)

    pub same_opcode : (cs : List ℕ) → T (shape cs) → (uses E 0 cs fresh).kept.opcode ≡ get_or memory (r.pc % 65536) 0
    same_opcode [] s = absurd s
    same_opcode (code ∷ cs) s =
        later_opcode cs 0 (use_cycle E code 0 fresh) ∙ fetched code (eqb→eq (code / 16) 1 (and_first (is_fetch code) _ _ _ s))
