-- The lines of a text, judged and put into memory one by one.
-- Assumes nothing.
use Prim.Native.Nat.{ℕ, ◌+◌}
use mathlib.Core.Path.{◌≡◌, refl, sym, ap, ◌∙◌}
use mathlib.Core.Bool.{true, false}
use mathlib.Core.List.{List, [], ◌∷◌}
use borrow.Author.Tests.{eq-eqb, ne_eqb}
use lib.Dec.{eqb}
use Rattle.std.specs.Prelude.{Result, Ok, Err}
use Rattle.intel_hex.specs.declared.answer.Refusal.{Refusal}
use Rattle.intel_hex.specs.declared.answer.Refusal.TheVariants.{NoEnd}
use Rattle.intel_hex.specs.declared.record.Fields.{Fields}
use Rattle.intel_hex.specs.declared.record.Line.{Line}
use Rattle.intel_hex.specs.declared.record.Line.TheVariants.{Data, End}
use Rattle.intel_hex.specs.Answer.{Reading, fault_at}
use Rattle.intel_hex.specs.Lines.{bare_of}
use Rattle.intel_hex.specs.Record.{Readable, fields_of, record_type, line_formed, line_is}
use Rattle.intel_hex.specs.Read.{judged_by, judged_from, landed_of, landed_from}
use Rattle.intel_hex.proofs.Formed.{no_read, good_line, formed_fields}

-- the answer at the first of some lines, by what it is, and where there is none
module _ (n : ℕ) (ls : List (List ℕ)) (l : List ℕ) (k : List (List ℕ)) (s : ls ≡ l ∷ k) where
  pub judged_data : line_is (bare_of l) ≡ Ok Data → judged_from (n + 1) k ≡ judged_from n ls
  unfolding judged_from
  judged_data e = rw (s, e)

  pub judged_end : line_is (bare_of l) ≡ Ok End → Ok tt ≡ judged_from n ls
  unfolding judged_from
  judged_end e = rw (s, e)

  pub judged_fault : (r : Refusal) → line_is (bare_of l) ≡ Err r → Err (fault_at r n) ≡ judged_from n ls
  unfolding judged_from
  judged_fault r e = rw (s, e)

pub judged_none : (n : ℕ) (ls : List (List ℕ)) → ls ≡ [] → Err (fault_at NoEnd 0) ≡ judged_from n ls
unfolding judged_from
judged_none n ls e = rw e

-- whether all goes well does not hang on the number of the first line
anyhow : (d : Result Line Refusal) (n m : ℕ) (r q : Reading) → (r ≡ Ok tt → q ≡ Ok tt) → judged_by d n r ≡ Ok tt → judged_by d m q ≡ Ok tt
anyhow (Ok Data) n m r q f h = f h
anyhow (Ok End) n m r q f h = refl
anyhow (Err e) n m r q f h = absurd (no_read _ refl h)

pub any_number : (n m : ℕ) (ls : List (List ℕ)) → judged_from n ls ≡ Ok tt → judged_from m ls ≡ Ok tt
unfolding judged_from
any_number n m [] h = absurd (no_read _ refl h)
any_number n m (l ∷ ls) h = anyhow (line_is (bare_of l)) n m _ _ (any_number (n + 1) (m + 1) ls) h

-- where all goes well: the fields of the first line, b without its ending, can be read; by them an end record leaves memory, and
-- a data record goes into it
module _ (ls : List (List ℕ)) (l : List ℕ) (k : List (List ℕ)) (s : ls ≡ l ∷ k) (h : judged_from 1 ls ≡ Ok tt) (b : List ℕ) (bare : b ≡ bare_of l) where
  good : (line_formed b ≡ true) × (eqb (record_type b) 1 ≡ true → line_is b ≡ Ok End) × (eqb (record_type b) 1 ≡ false → line_is b ≡ Ok Data)
  unfolding judged_from
  good = rw bare (good_line (bare_of l) 1 (judged_from (1 + 1) k) (ap (judged_from 1) (sym s) ∙ h))

  pub good_fields : Readable b
  good_fields = formed_fields b good.0

  module _ (f : Fields) (o : f ≡ fields_of b) where
    pub good_end : f.kind ≡ 1 → (x : List ℕ) → x ≡ landed_from ls x
    unfolding landed_from
    good_end e x = rw (s, ← bare, good.1 (eq-eqb _ 1 (rw o at e)))

    module _ (e : f.kind ≡ 1 → ⊥) where
      pub good_data : line_is b ≡ Ok Data
      good_data = good.2 (ne_eqb _ 1 (λ k. e (rw o k)))

      pub good_landed : (x : List ℕ) → landed_from k (landed_of b x) ≡ landed_from ls x
      unfolding landed_from
      good_landed x = rw (s, ← bare, good_data)

      pub good_next : judged_from 1 k ≡ Ok tt
      good_next = any_number (1 + 1) 1 k (judged_data 1 ls l k s (rw bare at good_data) ∙ h)

pub landed_none : (ls : List (List ℕ)) (x : List ℕ) → ls ≡ [] → x ≡ landed_from ls x
unfolding landed_from
landed_none ls x e = rw e
