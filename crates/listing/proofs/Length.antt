-- How long a listing can be: 38 characters a line, and 41 for the last. So a buffer can be given in which every listing fits.
-- Assumes nothing.
use Prim.Native.Nat.{ℕ, zero, suc, ◌+◌, ◌*◌, ◌/◌, ◌≤◌, ◌<◌}
use mathlib.Core.Path.{◌≡◌, refl, subst}
use mathlib.Core.Bool.{Bool, true, false}
use mathlib.Core.List.{List, ◌∷◌, ◌++◌}
use mathlib.Core.Logic.{⊎_elim}
use native.Mathlib.Omega.{arith}
use lib.ListN.{length, get_or, take, drop, length-append}
use lib.Dec.{eqb}
use Rattle.laws.specs.Choice.{pick}
use Rattle.laws.proofs.Order.{lt_or_le}
use Rattle.text.specs.Text.{text_of, written_of}
use Rattle.text.specs.declared.Text.{Text}
use Rattle.text.specs.Numbers.{byte_of, decimal_of}
use Rattle.listing.specs.Lines.{tw, hold, halt, name_of, state_line_of, last_line_of}
use Rattle.listing.specs.Listing.{rows_of, before_halt_of, state_lines_of, listing_of, Lists}
use Rattle.std.specs.Simd.{first_chunks}
use Rattle.text.specs.Bytes.{Bytes}
use Rattle.text.proofs.Bytes.{bytes_take, bytes_drop}
use Rattle.text.proofs.Decimal.{decimal_small, decimal_large}
use Rattle.laws.proofs.Chunks.{chunks_length}
use Rattle.listing.proofs.Halt.{rows_within}
use Rattle.text.specs.Writer.{Adds}
use Rattle.text.proofs.Writer.{writes_both}
use Rattle.text.proofs.Room.{whole}

-- the numbers of k digits lie below tens k
abbrev tens : ℕ → ℕ
tens zero = 1
tens (suc k) = 10 * tens k

decimal_length : (k n : ℕ) → n < tens (suc k) → length (decimal_of n) ≤ suc k
decimal_length zero n h = rw (decimal_small n (omega arith)) (omega arith)
decimal_length (suc k) n h =
    ⊎_elim (λ (l : n < 10). rw (decimal_small n l) (omega arith))
    (λ (l : 10 ≤ n). rw (decimal_large n l, length-append) (omega (arith, decimal_length k (n / 10) (omega arith))))
    (lt_or_le n 10)

-- a byte in decimal, and a number of the machine that prints
byte_decimal : (n : ℕ) → n < 256 → length (decimal_of n) ≤ 3
byte_decimal n h = decimal_length 2 n (omega arith)

usize_decimal : (n : ℕ) → n < 18446744073709551616 → length (decimal_of n) ≤ 20
usize_decimal n h = decimal_length 19 n (omega arith)

byte_length : (b : ℕ) → length (byte_of b) ≡ 2
unfolding byte_of
byte_length b = refl

either : (b : Bool) (x y : List ℕ) → length x ≤ 4 → length y ≤ 4 → length (pick b x y) ≤ 4
either true x y p q = p
either false x y p q = q

name_length : (code : ℕ) → code < 256 → length (name_of code) ≤ 4
unfolding name_of
name_length code h =
    let other : List ℕ = 84 ∷ decimal_of code in
    let more = either (eqb code 8) halt other (omega arith) (omega (arith, byte_decimal code h)) in
    either (eqb code 6) tw (pick (eqb code 7) hold (pick (eqb code 8) halt other)) (omega arith)
    (either (eqb code 7) hold (pick (eqb code 8) halt other) (omega arith) more)

line_length : (number : ℕ) (row : List ℕ) → number < 18446744073709551616 → Bytes row → length (state_line_of number row) ≤ 38
unfolding state_line_of
line_length number row h b =
    simp (length-append, byte_length)
    (omega (arith, usize_decimal number h, name_length (get_or row 0 0) (b 0), byte_decimal (get_or row 1 0) (b 1)))

last_length : (a pc states : ℕ) → states < 18446744073709551616 → length (last_line_of a pc states) ≤ 41
unfolding last_line_of
last_length a pc states h = simp (length-append, byte_length) (omega (arith, usize_decimal states h))

rows_length : (l : List ℕ) (i k n : ℕ) → i + k < 18446744073709551616 → Bytes l
    → length (state_lines_of i (take n (first_chunks 8 k l))) ≤ 38 * k
unfolding state_lines_of
rows_length l i k zero h b = omega arith
rows_length l i zero (suc n) h b = omega arith
rows_length l i (suc k) (suc n) h b =
    rw length-append
    (omega (arith, line_length i (take 8 l) (omega arith) (bytes_take 8 l b), rows_length (drop 8 l) (i + 1) k n (omega arith) (bytes_drop 8 l b)))

-- so a listing of a trace of n bytes has at most this many characters
pub listing_length : (l : List ℕ) (n a pc : ℕ) → length l < 18446744073709551616 → Bytes l
    → length (listing_of l n a pc) ≤ 38 * (length l / 8) + 41
unfolding listing_of
listing_length l n a pc h b =
    let k = before_halt_of (rows_of l) n in
    let few = rows_within (rows_of l) n in
    rw length-append
    (omega (arith, rows_length l 0 (length l / 8) k (omega arith) b, last_length a pc k (omega (arith, few, chunks_length 8 (length l / 8) l))))

-- the lines of the states before the halt and the last line, one after the other, are the listing
pub listed : (l : List ℕ) (n a pc k : ℕ) {t u v : Text} {out' : List ℕ} → length l < 18446744073709551616 → Bytes l → t.at ≡ 0
    → k ≡ before_halt_of (rows_of l) n → Adds (state_lines_of 0 (take k (rows_of l))) t u → Adds (last_line_of a pc k) u v
    → out' ≡ v.out.now → Lists l n a pc t.out.now v.at out'
unfolding listing_of
listed l n a pc k {t} {u} {v} {out'} h b start e p q left =
    let both : List ℕ = state_lines_of 0 (take k (rows_of l)) ++ last_line_of a pc k in
    let there = subst (λ at. text_of v.out.now v.at ≡ written_of both (text_of t.out.now at)) start (writes_both p q).text in
    let text : text_of out' v.at ≡ written_of (listing_of l n a pc) (text_of t.out.now 0) = rw (← e, left) there in
    record { text = text; whole = λ room. whole _ _ _ _ text (omega (arith, listing_length l n a pc h b)) }
