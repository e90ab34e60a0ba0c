-- The cycles of each instruction. Source: document 01, "Cycles", and Intel's 8080 manual.
-- Cited by the packed table, and by everything that walks an instruction.
use Rattle.std.specs.Prelude.{ℕ, Bool, true, not, List, [], ◌∷◌, eqb, length, get_or}
use Rattle.laws.specs.Choice.{pick}
use Rattle.opcodes.specs.Instructions.{Instruction, decode, decoding}
use Rattle.opcodes.specs.Instructions.{nop, hlt, xchg, xthl, pchl, sphl, di, ei, jmp, call, ret, rcc, jcc, ccc}
use Rattle.opcodes.specs.Instructions.{shld, lhld, sta, lda, inr_m, dcr_m, mvi_m, out, inp, undefined}
use Rattle.opcodes.specs.Instructions.{lxi, dad, stax, ldax, inx, dcx, push, pop, inr_r, dcr_r, mvi_r, mov_rm, mov_mr}
use Rattle.opcodes.specs.Instructions.{mov_rr, alu_r, alu_m, alu_i, acc, rst}
use Rattle.opcodes.specs.Codes.{fetch4, fetch5, operand, read_hl, read_pair, read_wz, read_wz1, read_sp, read_sp1}
use Rattle.opcodes.specs.Codes.{input, halting, internal, write_reg, write_byte, write_more, write_less, write_pair}
use Rattle.opcodes.specs.Codes.{write_a, write_l, write_h, push_pch, push_pcl, push_high, push_low, swap_h, swap_l, output}

-- the two address bytes after the opcode, PC to the stack, and two bytes from it
abbrev pub address : List ℕ → List ℕ
address rest = operand ∷ operand ∷ rest

abbrev pub pushes : List ℕ
pushes = push_pch ∷ push_pcl ∷ []

abbrev pub pops : List ℕ
pops = read_sp ∷ read_sp1 ∷ []

-- the cycles of an instruction; t says whether its condition is met
unfoldable pub cycles : Instruction → Bool → List ℕ
cycles nop t = fetch4 ∷ []
cycles hlt t = fetch4 ∷ halting ∷ []
cycles xchg t = fetch4 ∷ []
cycles xthl t = fetch4 ∷ read_sp ∷ read_sp1 ∷ swap_h ∷ swap_l ∷ []
cycles pchl t = fetch5 ∷ []
cycles sphl t = fetch5 ∷ []
cycles di t = fetch4 ∷ []
cycles ei t = fetch4 ∷ []
cycles jmp t = fetch4 ∷ address []
cycles call t = fetch5 ∷ address pushes
cycles ret t = fetch4 ∷ pops
cycles rcc t = fetch5 ∷ pick t pops []
cycles jcc t = fetch4 ∷ address []
cycles ccc t = fetch5 ∷ address (pick t pushes [])
cycles shld t = fetch4 ∷ address (write_l ∷ write_h ∷ [])
cycles lhld t = fetch4 ∷ address (read_wz ∷ read_wz1 ∷ [])
cycles sta t = fetch4 ∷ address (write_a ∷ [])
cycles lda t = fetch4 ∷ address (read_wz ∷ [])
cycles inr_m t = fetch4 ∷ read_hl ∷ write_more ∷ []
cycles dcr_m t = fetch4 ∷ read_hl ∷ write_less ∷ []
cycles mvi_m t = fetch4 ∷ operand ∷ write_byte ∷ []
cycles out t = fetch4 ∷ operand ∷ output ∷ []
cycles inp t = fetch4 ∷ operand ∷ input ∷ []
cycles undefined t = []
cycles (lxi p) t = fetch4 ∷ address []
cycles (dad p) t = fetch4 ∷ internal ∷ internal ∷ []
cycles (stax p) t = fetch4 ∷ write_pair ∷ []
cycles (ldax p) t = fetch4 ∷ read_pair ∷ []
cycles (inx p) t = fetch5 ∷ []
cycles (dcx p) t = fetch5 ∷ []
cycles (push p) t = fetch5 ∷ push_high ∷ push_low ∷ []
cycles (pop p) t = fetch4 ∷ pops
cycles (inr_r r) t = fetch5 ∷ []
cycles (dcr_r r) t = fetch5 ∷ []
cycles (mvi_r r) t = fetch4 ∷ operand ∷ []
cycles (mov_rm r) t = fetch4 ∷ read_hl ∷ []
cycles (mov_mr r) t = fetch4 ∷ write_reg ∷ []
cycles (mov_rr d s) t = fetch5 ∷ []
cycles (alu_r o s) t = fetch4 ∷ []
cycles (alu_m o) t = fetch4 ∷ read_hl ∷ []
cycles (alu_i o) t = fetch4 ∷ operand ∷ []
cycles (acc o) t = fetch4 ∷ []
cycles (rst n) t = fetch5 ∷ pushes

-- the code of cycle c of an opcode, counted from 1; 0 where there is none
unfoldable pub code_of : ℕ → ℕ → ℕ
code_of op c = get_or (0 ∷ cycles (decode op) true) c 0

-- how many cycles an opcode has, as its condition is met or not
unfoldable pub count_of : ℕ → Bool → ℕ
count_of op t = length (cycles (decode op) t)

-- an undefined opcode has no cycles
unfoldable pub defined_of : ℕ → Bool
defined_of op = not (eqb (count_of op true) 0)

-- one name that opens the cycles of an opcode
unfoldable pub cycling : ℕ
unfolding decoding cycles code_of count_of defined_of
cycling = 0
