-- The instructions of the 8080, and which one an opcode is, by its three octal digits: op / 64, op / 8 % 8 and op % 8.
-- Source: Intel's 8080 manual, instruction codes; document 01 for the twelve that Intel leaves undefined.
-- Cited by the cycles below and by the register effects.
use Rattle.std.specs.Prelude.{ℕ, ◌/◌, ◌%◌, List, [], ◌∷◌, eqb, get_or}
use Rattle.laws.specs.Choice.{pick}

-- Registers r, d and s are numbered B C D E H L M A, pairs p BC DE HL and SP or PSW, operations o as in the manual.
-- M, the byte at HL, has instructions of its own. rcc, jcc and ccc are the conditional RET, JMP and CALL.
pub data Instruction : Type 0 where
  nop hlt xchg xthl pchl sphl di ei : Instruction
  jmp call ret rcc jcc ccc : Instruction
  shld lhld sta lda inr_m dcr_m mvi_m out inp undefined : Instruction
  lxi dad stax ldax inx dcx push pop : (p : ℕ) → Instruction
  inr_r dcr_r mvi_r mov_rm mov_mr : (r : ℕ) → Instruction
  mov_rr : (d s : ℕ) → Instruction
  alu_r : (o s : ℕ) → Instruction
  alu_m alu_i acc : (o : ℕ) → Instruction
  rst : (n : ℕ) → Instruction

unfoldable pub nth : List Instruction → ℕ → Instruction
nth xs n = get_or xs n undefined

-- a where the register number r stands for M, else b
unfoldable pub is_m : ℕ → Instruction → Instruction → Instruction
is_m r a b = pick (eqb r 6) a b

-- a where the digit y is even, else b
unfoldable pub even : ℕ → Instruction → Instruction → Instruction
even y a b = pick (eqb (y % 2) 0) a b

-- 002 to 072: loads and stores of A and HL
unfoldable pub transfers : ℕ → Instruction
transfers y = nth (stax 0 ∷ ldax 0 ∷ stax 1 ∷ ldax 1 ∷ shld ∷ lhld ∷ sta ∷ lda ∷ []) y

-- 311, 331, 351, 371
unfoldable pub rets : ℕ → Instruction
rets p = nth (ret ∷ undefined ∷ pchl ∷ sphl ∷ []) p

-- 315, 335, 355, 375
unfoldable pub calls : ℕ → Instruction
calls p = pick (eqb p 0) call undefined

-- 303 to 373
unfoldable pub others : ℕ → Instruction
others y = nth (jmp ∷ undefined ∷ out ∷ inp ∷ xthl ∷ xchg ∷ di ∷ ei ∷ []) y

-- 000 to 077
unfoldable pub decode0 : ℕ → ℕ → Instruction
decode0 y z =
    nth
    (pick (eqb y 0) nop undefined
    ∷ even y (lxi (y / 2)) (dad (y / 2))
    ∷ transfers y
    ∷ even y (inx (y / 2)) (dcx (y / 2))
    ∷ is_m y inr_m (inr_r y)
    ∷ is_m y dcr_m (dcr_r y)
    ∷ is_m y mvi_m (mvi_r y)
    ∷ acc y
    ∷ [])
    z

-- 100 to 177
unfoldable pub decode1 : ℕ → ℕ → Instruction
decode1 y z = is_m y (is_m z hlt (mov_mr z)) (is_m z (mov_rm y) (mov_rr y z))

-- 200 to 277
unfoldable pub decode2 : ℕ → ℕ → Instruction
decode2 y z = is_m z (alu_m y) (alu_r y z)

-- 300 to 377
unfoldable pub decode3 : ℕ → ℕ → Instruction
decode3 y z =
    nth
    (rcc
    ∷ even y (pop (y / 2)) (rets (y / 2))
    ∷ jcc
    ∷ others y
    ∷ ccc
    ∷ even y (push (y / 2)) (calls (y / 2))
    ∷ alu_i y
    ∷ rst y
    ∷ [])
    z

unfoldable pub decode : ℕ → Instruction
decode op =
    nth
    (decode0 (op / 8 % 8) (op % 8)
    ∷ decode1 (op / 8 % 8) (op % 8)
    ∷ decode2 (op / 8 % 8) (op % 8)
    ∷ decode3 (op / 8 % 8) (op % 8)
    ∷ [])
    (op / 64)

-- one name that opens all that decodes
unfoldable pub decoding : ℕ
unfolding nth is_m even transfers rets calls others decode0 decode1 decode2 decode3 decode
decoding = 0
