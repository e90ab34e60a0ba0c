-- A text as its lines. Source: request W1, "Lines end in LF or CR LF, which the last may lack". Cited by `intel_hex::lines`.
use Rattle.std.specs.Prelude.{ℕ, ◌-◌, List, [], ◌∷◌, eqb, length, get_or, take}
use Rattle.laws.specs.Choice.{pick}
use Rattle.text.specs.Text.{feed}

-- CR
abbrev pub carriage : ℕ
carriage = 13

-- the character c in front of the first of some lines
abbrev pub in_front : ℕ → List (List ℕ) → List (List ℕ)
in_front c [] = (c ∷ []) ∷ []
in_front c (line ∷ lines) = (c ∷ line) ∷ lines

-- the lines of a text, each with its ending: a line goes up to an LF, or up to the end of the text
unfoldable pub text_lines : List ℕ → List (List ℕ)
text_lines [] = []
text_lines (c ∷ text) = pick (eqb c feed) ((c ∷ []) ∷ text_lines text) (in_front c (text_lines text))

-- how many characters end a line: LF, or CR LF; a CR with no LF after it ends nothing
unfoldable pub ending_of : List ℕ → ℕ
ending_of line =
    pick (eqb (get_or line (length line - 1) 0) feed) (pick (eqb (get_or line (length line - 2) 0) carriage) 2 1) 0

-- a line without its ending
unfoldable pub bare_of : List ℕ → List ℕ
bare_of line = take (length line - ending_of line) line
