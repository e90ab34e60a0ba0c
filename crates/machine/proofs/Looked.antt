-- What stands in the opcode table for an opcode is what the rules say. Assumes nothing.
use Rattle.std.proofs.Common.{◌≡◌, ℕ, ◌<◌, Bool, get_or, sym, ◌∙◌, ap}
use Rattle.opcodes.specs.Cycles.{code_of, count_of, defined_of}
use Rattle.opcodes.specs.Entries.{entries, code_in, count_in, defined_in}
use Rattle.opcodes.proofs.Entries.{entry_at, code_in_lem, count_in_lem, defined_in_lem}

pub code_looked : (op c : ℕ) → op < 256 → code_of op c ≡ code_in (get_or entries op 0) c
code_looked op c h = sym (ap (λ (p : ℕ). code_in p c) (entry_at op h) ∙ code_in_lem op h c)

pub count_looked : (op : ℕ) (met : Bool) → op < 256 → count_of op met ≡ count_in (get_or entries op 0) met
count_looked op met h = sym (ap (λ (p : ℕ). count_in p met) (entry_at op h) ∙ count_in_lem op h met)

pub defined_looked : (op : ℕ) → op < 256 → defined_of op ≡ defined_in (get_or entries op 0)
defined_looked op h = sym (ap defined_in (entry_at op h) ∙ defined_in_lem op h)
