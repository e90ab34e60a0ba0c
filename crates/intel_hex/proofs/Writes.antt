-- What writing answers and leaves, test by test.
-- Assumes nothing.
use Prim.Native.Nat.{ℕ, ◌+◌, ◌≤◌, ◌<◌, min}
use mathlib.Core.Path.{◌≡◌, sym, ap, ◌∙◌}
use mathlib.Core.List.{List, []}
use native.Mathlib.Omega.{arith}
use borrow.Author.Tests.{eq-eqb, ne_eqb, le-leb, lt-leb}
use mathlib.Core.Logic.{◌⊎◌, ⊎_elim}
use lib.ListN.{length}
use Rattle.std.specs.Prelude.{Ok, Err}
use Rattle.text.specs.Text.{text_of, written_of}
use Rattle.text.specs.Writer.{Adds}
use Rattle.text.specs.declared.Text.{Text as Writer}
use Rattle.intel_hex.specs.declared.answer.Refusal.{Refusal}
use Rattle.intel_hex.specs.declared.answer.Refusal.TheVariants.{MemorySize, PastEnd, OutputSize}
use Rattle.intel_hex.specs.Record.{record_of}
use Rattle.intel_hex.specs.Write.{records_for, records_of, hex_of, range_of, length_for, writing_of}
use Rattle.intel_hex.specs.Outcome.{Writes}
use Rattle.text.proofs.Writer.{writes_both}
use Rattle.text.proofs.Room.{whole}
use Rattle.intel_hex.proofs.Sizes.{range_length, hex_length}

-- n bytes of memory x from start on, and the output z
module _ (x : List ℕ) (start n : ℕ) (z : List ℕ) where
  -- a refusal changes nothing
  refused : (reason : Refusal) → writing_of (length x) start n (length z) ≡ Err reason → Writes x start n z (Err reason) z
  refused reason e = record { answer = sym e; output = rw e }

  pub no_memory : (length x ≡ 65536 → ⊥) → Writes x start n z (Err MemorySize) z
  unfolding writing_of
  no_memory h = refused MemorySize (rw (ne_eqb _ _ h))

  module _ (memory : length x ≡ 65536) where
    pub past_end : 65536 < start + n → Writes x start n z (Err PastEnd) z
    unfolding writing_of
    past_end h = refused PastEnd (rw (eq-eqb _ _ memory, lt-leb _ _ h))

    -- `get` lends no range up to e, the end as a `usize`
    pub past_all : (e : ℕ) → start < 18446744073709551616 → e ≡ min (start + n) 18446744073709551615 → (e < start) ⊎ (65536 < e) → Writes x start n z (Err PastEnd) z
    past_all e s m h = past_end (⊎_elim (λ (k : e < start). omega (arith, s, m, k)) (λ (k : 65536 < e). omega (arith, m, k)) h)

    module _ (range : start + n ≤ 65536) where
      pub no_room : length z < length_for n → Writes x start n z (Err OutputSize) z
      unfolding writing_of
      no_room h = refused OutputSize (rw (eq-eqb _ _ memory, le-leb _ _ range, lt-leb _ _ h))

      good : length_for n ≤ length z → writing_of (length x) start n (length z) ≡ Ok (length_for n)
      unfolding writing_of
      good h = rw (eq-eqb _ _ memory, le-leb _ _ range, le-leb _ _ h)

      text_length : length (hex_of start (range_of x start n)) ≡ length_for n
      text_length = hex_length start (range_of x start n) ∙ ap length_for (range_length x start n (omega arith))

      -- the data records of the range d and the end record, one after the other, are the text
      pub written : (d : List ℕ) (size : ℕ) {t u v : Writer} (z' : List ℕ) → d ≡ range_of x start n → size ≡ length_for n → size ≤ length z
          → Adds (records_of (records_for (length d)) start d) t u → Adds (record_of 1 0 []) u v
          → t.out.now ≡ z → t.at ≡ 0 → z' ≡ v.out.now
          → Writes x start n z (Ok size) z'
      unfolding hex_of
      written d size {t} {u} {v} z' r l h p q e f g =
          let wrote = (writes_both p q).text in
          let text : text_of v.out.now v.at ≡ written_of (hex_of start (range_of x start n)) (text_of z 0) = rw (r, e, f) at wrote in
          let there = whole _ _ _ _ text (omega (arith, text_length, l, h)) in
          let place : v.at ≡ size = there.0 ∙ text_length ∙ sym l in
          record {
            answer = rw l (sym (good (rw l at h)));
            output = rw (good (rw l at h), ← l, ← place) (g ∙ there.1);
          }
