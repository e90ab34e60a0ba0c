-- What a line is, from the tests that say it, and what it shows where it was judged good.
-- Assumes nothing.
use Prim.Native.Nat.{ℕ, ◌+◌, ◌*◌, ◌≤◌, ◌<◌}
use mathlib.Core.Path.{◌≡◌, refl, sym, ap, ◌∙◌, subst}
use mathlib.Core.Bool.{Bool, true, false, ◌&&◌, ◌||◌, not}
use mathlib.Core.List.{List}
use native.Mathlib.Omega.{arith}
use borrow.Author.Tests.{ne_eqb, eqb-true, leb-true}
use lib.Dec.{T, eqb, leb}
use lib.ListN.{length, get_or, drop}
use Rattle.std.specs.Prelude.{Result, Ok, Err}
use Rattle.laws.specs.Choice.{pick}
use Rattle.intel_hex.specs.declared.answer.Refusal.{Refusal}
use Rattle.intel_hex.specs.declared.answer.Refusal.TheVariants.{Malformed, OtherType, PastEnd}
use Rattle.intel_hex.specs.declared.record.Line.{Line}
use Rattle.intel_hex.specs.declared.record.Line.TheVariants.{Data, End}
use Rattle.intel_hex.specs.Answer.{Reading}
use Rattle.intel_hex.specs.Digits.{all_hex, bytes_in}
use Rattle.intel_hex.specs.Record.{Readable, record_count, record_address, record_type, checked, record_sound, line_formed, line_is}
use Rattle.intel_hex.specs.Read.{judged_by}

-- three tests in one
third_false : (a b : Bool) → (a && b && false) ≡ false
third_false true true = refl
third_false true false = refl
third_false false b = refl

all_true : (a b c : Bool) → (a && b && c) ≡ true → (a ≡ true) × (b ≡ true) × (c ≡ true)
all_true true true true h = (refl, refl, refl)
all_true true true false h = absurd (subst T (sym h) tt)
all_true true false c h = absurd (subst T (sym h) tt)
all_true false b c h = absurd (subst T (sym h) tt)

-- the last test of a record
abbrev end_rule : List ℕ → Bool
end_rule l = not (eqb (record_type l) 1) || (eqb (record_count l) 0 && eqb (record_address l) 0)

module _ (l : List ℕ) where
  -- a sound record has the length that its count says
  sound_length : record_sound l ≡ true → length l ≡ 2 * record_count l + 11
  unfolding record_sound
  sound_length e =
      eqb-true (length l) (2 * record_count l + 11)
      (all_true (eqb (length l) (2 * record_count l + 11)) (checked (bytes_in (drop 1 l))) (end_rule l) e).0

  -- a formed line has the length that its count says, and its fields can be read
  formed_tests : line_formed l ≡ true → (eqb (get_or l 0 0) 58 ≡ true) × (all_hex (drop 1 l) ≡ true) × (record_sound l ≡ true)
  unfolding line_formed
  formed_tests e = all_true (eqb (get_or l 0 0) 58) (all_hex (drop 1 l)) (record_sound l) e

  pub formed_length : line_formed l ≡ true → length l ≡ 2 * record_count l + 11
  formed_length e = sound_length (formed_tests e).2

  pub formed_fields : line_formed l ≡ true → Readable l
  formed_fields e = let size = formed_length e in (omega (arith, size), (formed_tests e).1)

  -- so a shorter line is none
  pub formed_short : length l < 11 → line_formed l ≡ false
  unfolding line_formed record_sound
  formed_short h = rw (ne_eqb (length l) (2 * record_count l + 11) (λ e. let no : ⊥ = omega (arith, e, h) in no)) (third_false (eqb (get_or l 0 0) 58) (all_hex (drop 1 l)))

-- what a line is, by the four tests: formed, type 01, type 00, inside memory
abbrev line_by : Bool → Bool → Bool → Bool → Result Line Refusal
line_by f e d i = pick f (pick e (Ok End) (pick d (pick i (Ok Data) (Err PastEnd)) (Err OtherType))) (Err Malformed)

abbrev is_data : Result Line Refusal → Bool
is_data (Ok Data) = true
is_data (Ok End) = false
is_data (Err r) = false

no_data : (k : Result Line Refusal) → is_data k ≡ false → k ≡ Ok Data → ⊥
no_data k f e = subst T (sym (ap is_data e) ∙ f) tt

data_tests : (f e d i : Bool) → line_by f e d i ≡ Ok Data → (f ≡ true) × (i ≡ true)
data_tests false e d i h = absurd (no_data _ refl h)
data_tests true true d i h = absurd (no_data _ refl h)
data_tests true false false i h = absurd (no_data _ refl h)
data_tests true false true false h = absurd (no_data _ refl h)
data_tests true false true true h = (refl, refl)

pub data_shows : (l : List ℕ) → line_is l ≡ Ok Data → (line_formed l ≡ true) × (record_address l + record_count l ≤ 65536)
unfolding line_is
data_shows l h =
    let both = data_tests (line_formed l) (eqb (record_type l) 1) (eqb (record_type l) 0) (leb (record_address l + record_count l) 65536) h in
    (both.0, leb-true _ _ both.1)

-- a line at which reading goes well: it is formed, and its type tells an end record from data
abbrev is_read : Reading → Bool
is_read (Ok done) = true
is_read (Err fault) = false

pub no_read : (k : Reading) → is_read k ≡ false → k ≡ Ok tt → ⊥
no_read k f e = subst T (sym (ap is_read e) ∙ f) tt

good_tests : (f e d i : Bool) (n : ℕ) (r : Reading) → judged_by (line_by f e d i) n r ≡ Ok tt
    → (f ≡ true) × (e ≡ true → line_by f e d i ≡ Ok End) × (e ≡ false → line_by f e d i ≡ Ok Data)
good_tests false e d i n r h = absurd (no_read _ refl h)
good_tests true true d i n r h = (refl, λ b. refl, λ b. absurd (subst T b tt))
good_tests true false false i n r h = absurd (no_read _ refl h)
good_tests true false true false n r h = absurd (no_read _ refl h)
good_tests true false true true n r h = (refl, λ b. absurd (subst T (sym b) tt), λ b. refl)

pub good_line : (l : List ℕ) (n : ℕ) (r : Reading) → judged_by (line_is l) n r ≡ Ok tt
    → (line_formed l ≡ true) × (eqb (record_type l) 1 ≡ true → line_is l ≡ Ok End) × (eqb (record_type l) 1 ≡ false → line_is l ≡ Ok Data)
unfolding line_is
good_line l n r h = good_tests (line_formed l) (eqb (record_type l) 1) (eqb (record_type l) 0) (leb (record_address l + record_count l) 65536) n r h
