-- 16-bit numbers. Source: document 01: "SP and PC, which count modulo 65,536", and "DAD sets CY only".
-- Cited by `alu::words`; every step of PC and SP goes through `up_of` and `down_of`.
use Rattle.std.specs.Prelude.{ℕ, ◌+◌, ◌-◌, ◌%◌, nat_lt}
use Rattle.alu.specs.declared.words.Sum16.{Sum16}

-- DAD: the sum of the pairs h and x, with its carry
unfoldable pub dad_of : ℕ → ℕ → Sum16
dad_of h x = record { value = (h + x) % 65536; cy = nat_lt 65535 (h + x) }

-- x + n and x - n modulo 65,536
abbrev pub up_of : ℕ → ℕ → ℕ
up_of x n = (x + n) % 65536

abbrev pub down_of : ℕ → ℕ → ℕ
down_of x n = (x + (65536 - n)) % 65536
