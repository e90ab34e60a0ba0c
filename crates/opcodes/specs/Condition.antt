-- When a condition is met. Source: Intel's 8080 manual, condition codes; document 01 for the flag byte.
-- Cited by `opcodes::condition`.
use Rattle.std.specs.Prelude.{ℕ, ◌/◌, ◌%◌, Bool, [], ◌∷◌, eqb, get_or}

-- NZ Z NC C PO PE P M, numbered by the opcode's middle digit: the flag Z, CY, P or S of the flag byte f, by that digit's
-- upper two bits, is its lowest bit
unfoldable pub met_of : ℕ → ℕ → Bool
met_of op f = eqb (get_or (f / 64 % 2 ∷ f % 2 ∷ f / 4 % 2 ∷ f / 128 % 2 ∷ []) (op / 16 % 4) 0) (op / 8 % 2)
