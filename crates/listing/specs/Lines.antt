-- The lines of a listing. Source: document 01, the printing program and "Trace". Cited by `listing::lines`.
use Rattle.std.specs.Prelude.{ℕ, ◌/◌, ◌%◌, List, [], ◌∷◌, ◌++◌, get_or, eqb}
use Rattle.laws.specs.Choice.{pick}
use Rattle.text.specs.Text.{feed}
use Rattle.text.specs.Numbers.{byte_of, decimal_of}

abbrev pub blank : ℕ
blank = 32

-- the words TW, HOLD and HALT, and those of the last line: "A ", " PC ", " STATES "
abbrev pub tw : List ℕ
tw = 84 ∷ 87 ∷ []

abbrev pub hold : List ℕ
hold = 72 ∷ 79 ∷ 76 ∷ 68 ∷ []

abbrev pub halt : List ℕ
halt = 72 ∷ 65 ∷ 76 ∷ 84 ∷ []

abbrev pub a_is : List ℕ
a_is = 65 ∷ 32 ∷ []

abbrev pub pc_is : List ℕ
pc_is = 32 ∷ 80 ∷ 67 ∷ 32 ∷ []

abbrev pub states_are : List ℕ
states_are = 32 ∷ 83 ∷ 84 ∷ 65 ∷ 84 ∷ 69 ∷ 83 ∷ 32 ∷ []

-- the name of a state code: "T1 to T5 as 1 to 5, wait 6, hold 7, halt 8"; any other code stands after a T too
unfoldable pub name_of : ℕ → List ℕ
name_of code = pick (eqb code 6) tw (pick (eqb code 7) hold (pick (eqb code 8) halt (84 ∷ decimal_of code)))

-- "state number (decimal), state name, kind (decimal), address (4 hex digits), data (2)", from a row of the trace
unfoldable pub state_line_of : ℕ → List ℕ → List ℕ
state_line_of number row =
    decimal_of number
    ++ blank ∷ name_of (get_or row 0 0)
    ++ blank ∷ decimal_of (get_or row 1 0)
    ++ blank ∷ byte_of (get_or row 3 0)
    ++ byte_of (get_or row 2 0)
    ++ blank ∷ byte_of (get_or row 4 0)
    ++ feed ∷ []

-- "The last line gives A, PC (hex) and the states done (decimal)"
unfoldable pub last_line_of : ℕ → ℕ → ℕ → List ℕ
last_line_of a pc states =
    a_is ++ byte_of a ++ pc_is ++ byte_of (pc / 256) ++ byte_of (pc % 256) ++ states_are ++ decimal_of states ++ feed ∷ []
