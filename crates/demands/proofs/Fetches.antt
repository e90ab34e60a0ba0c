-- A fetch of four states and one of five do the same, and what a fetch reads. Assumes nothing.
use Prim.Native.Nat.{ℕ, ◌/◌, ◌%◌}
use mathlib.Core.Path.{◌≡◌, refl, sym, ap, ◌∙◌}
use mathlib.Core.Logic.{◌⊎◌, inl, inr, ⊎_elim}
use native.Mathlib.Omega.{arith}
use lib.Dec.{eqb, T, eqb→eq}
use lib.ListN.{get_or}
use Rattle.laws.specs.Choice.{pick}
use Rattle.laws.proofs.Tests.{T→true}
use Rattle.opcodes.specs.Codes.{fetch4, fetch5}
use Rattle.opcodes.specs.Kinds.{states_of, waits_of, reads_of, raises_of, writes_of, kind_of, fetch_kind, is_fetch}
use Rattle.opcodes.specs.declared.cycle.Acknowledge.{Acknowledge}
use Rattle.opcodes.specs.declared.cycle.Acknowledge.TheVariants.{None, Running, Halted}
use Rattle.effect.specs.declared.kept.Kept.{Kept}
use Rattle.effect.specs.Kept.{keep_of}
use Rattle.effect.specs.Bus.{address_of, given_of}
use Rattle.machine.specs.declared.request.Request.{Request}
use Rattle.machine.specs.declared.request.Request.TheVariants.{Nothing}
use Rattle.machine.specs.Look.{first_pc_of}
use Rattle.machine.specs.Request.{asks, asked_of}
use Rattle.machine.specs.Step.{risen_of}
use Rattle.run.specs.State.{byte_on, memory_after, outputs_after}
use Rattle.demands.specs.Outside.{Outside}
use Rattle.demands.proofs.Work.{Work, use_cycle, opcode_of}

-- the code of a fetch of four or five states
fetch_code : (code : ℕ) → T (is_fetch code) → (states_of code ≡ 4) ⊎ (states_of code ≡ 5) → (code ≡ fetch4) ⊎ (code ≡ fetch5)
unfolding states_of
fetch_code code f h =
    let q = eqb→eq (code / 16) 1 f in
    let e : pick (is_fetch code) (code % 16) (pick (eqb code 0x7C) 5 3) ≡ code % 16 = rw (T→true (is_fetch code) f) in
    ⊎_elim (λ (x : states_of code ≡ 4). inl (let y : code % 16 ≡ 4 = sym e ∙ x in omega arith))
    (λ (x : states_of code ≡ 5). inr (let y : code % 16 ≡ 5 = sym e ∙ x in omega arith)) h

-- READY counts in it
pub fetch_waits : (code : ℕ) → T (is_fetch code) → (states_of code ≡ 4) ⊎ (states_of code ≡ 5) → waits_of code ≡ waits_of fetch4
unfolding waits_of kind_of writes_of
fetch_waits code f h = ⊎_elim (λ e. ap waits_of e) (λ e. ap waits_of e) (fetch_code code f h)

-- what it asks does not depend on the byte that would go out
fetch_asks : (a : Acknowledge) (x b b' : ℕ) (k : Kept) → get_or (asks x b k) (fetch_kind a) Nothing ≡ get_or (asks x b' k) (fetch_kind a) Nothing
fetch_asks None x b b' k = refl
fetch_asks Running x b b' k = refl
fetch_asks Halted x b b' k = refl

module _ (E : Outside) where
  five_same : (d : Work) → use_cycle E fetch5 0 d ≡ use_cycle E fetch4 0 d
  unfolding reads_of raises_of writes_of kind_of risen_of first_pc_of address_of asked_of
  five_same d =
      ap
      (λ (q : Request).
      record {
        regs = risen_of fetch4 d.kept d.regs;
        kept = keep_of 1 (byte_on q d.memory E.inputs) d.kept;
        memory = memory_after q d.memory;
        outputs = outputs_after q d.outputs;
      })
      (fetch_asks d.kept.ack
      (address_of fetch4 (first_pc_of fetch4 3 d.kept (risen_of fetch4 d.kept d.regs)) d.kept (risen_of fetch4 d.kept d.regs))
      (given_of fetch5 d.kept (risen_of fetch4 d.kept d.regs)) (given_of fetch4 d.kept (risen_of fetch4 d.kept d.regs))
      d.kept)

  pub fetch_same : (code : ℕ) (d : Work) → T (is_fetch code) → (states_of code ≡ 4) ⊎ (states_of code ≡ 5)
      → use_cycle E code 0 d ≡ use_cycle E fetch4 0 d
  fetch_same code d f h =
      ⊎_elim (λ e. ap (λ (x : ℕ). use_cycle E x 0 d) e) (λ e. ap (λ (x : ℕ). use_cycle E x 0 d) e ∙ five_same d) (fetch_code code f h)

  -- the opcode kept after it
  pub fetch_opcode : (d : Work) → (use_cycle E fetch4 0 d).kept.opcode ≡ opcode_of E d
  unfolding reads_of writes_of kind_of keep_of
  fetch_opcode d = refl
