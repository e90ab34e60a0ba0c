-- What an instruction of the 8080 does, as one function of registers, memory and ports: no cycles, no states, no bytes kept
-- between them. Source: Intel's 8080 manual, instruction set. With the rules below it shares the arithmetic of `alu` and the
-- decoding of an opcode, which is Intel's table of instruction codes (opcodes, specs/Instructions); not the register effects.
-- Cited by the statements of the demands.
use Rattle.std.specs.Prelude.{ℕ, ◌*◌, ◌/◌, ◌%◌, Bool, true, false, List, get_or, set}
use Rattle.laws.specs.Choice.{pick}
use Rattle.alu.specs.declared.flags.Flagged.{Flagged}
use Rattle.alu.specs.Flags.{with_cy}
use Rattle.alu.specs.Sums.{inr_of, dcr_of}
use Rattle.alu.specs.Words.{dad_of, up_of, down_of}
use Rattle.alu.specs.Groups.{arithmetic_of, accumulator_of}
use Rattle.opcodes.specs.Instructions.{Instruction, decode}
use Rattle.opcodes.specs.Instructions.{nop, hlt, xchg, xthl, pchl, sphl, di, ei, jmp, call, ret, rcc, jcc, ccc}
use Rattle.opcodes.specs.Instructions.{shld, lhld, sta, lda, inr_m, dcr_m, mvi_m, out, inp, undefined}
use Rattle.opcodes.specs.Instructions.{lxi, dad, stax, ldax, inx, dcx, push, pop, inr_r, dcr_r, mvi_r, mov_rm, mov_mr}
use Rattle.opcodes.specs.Instructions.{mov_rr, alu_r, alu_m, alu_i, acc, rst}
use Rattle.effect.specs.declared.registers.Registers.{Registers}
use Rattle.effect.specs.Registers.{word, with_a, with_de, with_hl, with_sp, with_pc, with_inte}
use Rattle.demands.specs.Symbols.{high, low, flags, flagging, register, to_register, pair, to_pair, first, second, to_both}
use Rattle.demands.specs.Symbols.{condition}

-- what an instruction leaves
pub record Result : Type 0 where
  pub regs : Registers
  pub memory : List ℕ
  pub outputs : List ℕ

-- of the registers r, memory, input and output ports before it
module _ (r : Registers) (memory inputs outputs : List ℕ) where
  -- the address n bytes on from PC; the byte at an address; the instruction's second and third byte, and the address in them
  abbrev pub on : ℕ → ℕ
  on n = up_of r.pc n

  abbrev pub byte_at : ℕ → ℕ
  byte_at a = get_or memory a 0

  abbrev pub byte2 : ℕ
  byte2 = byte_at (on 1)

  abbrev pub byte3 : ℕ
  byte3 = byte_at (on 2)

  abbrev pub address : ℕ
  address = word byte3 byte2

  -- HL, and the byte M there
  abbrev pub hl : ℕ
  hl = word r.h r.l

  abbrev pub m : ℕ
  m = byte_at hl

  -- the byte on top of the stack and the one above it, the number in them, and memory with two bytes pushed
  abbrev pub top : ℕ
  top = byte_at r.sp

  abbrev pub above : ℕ
  above = byte_at (up_of r.sp 1)

  abbrev pub stacked : ℕ
  stacked = word above top

  abbrev pub pushing : ℕ → ℕ → List ℕ
  pushing x y = set (set memory (down_of r.sp 1) x) (down_of r.sp 2) y

  -- PC is pc, the other registers are those of s, memory is x
  abbrev pub storing : List ℕ → ℕ → Registers → Result
  storing x pc s = record { regs = with_pc pc s; memory = x; outputs = outputs }

  -- and memory stays
  abbrev pub going : ℕ → Registers → Result
  going pc s = storing memory pc s

  -- a result in A, with its flags
  abbrev pub resulting : Flagged → Registers
  resulting x = with_a x.value (flagging x.flags r)

  -- operation o of A and the byte v
  abbrev pub operating : ℕ → ℕ → Registers
  operating o v = resulting (arithmetic_of o r.a v (flags r).cy)

  -- a call of the subroutine at an address, with PC at back for the way back; and the return from one
  abbrev pub calling : ℕ → ℕ → Result
  calling back a = storing (pushing (high back) (low back)) a (with_sp (down_of r.sp 2) r)

  abbrev pub returning : Result
  returning = going stacked (with_sp (up_of r.sp 2) r)

  -- an instruction; t says whether its condition is met. What HLT does besides is for the states after it, and so is the EI
  -- rule; of an opcode that Intel leaves undefined document 01 says that PC is past it
  unfoldable pub does : Instruction → Bool → Result
  does (mov_rr d s) t = going (on 1) (to_register d (register s r) r)
  does (mov_rm d) t = going (on 1) (to_register d m r)
  does (mov_mr s) t = storing (set memory hl (register s r)) (on 1) r
  does (mvi_r d) t = going (on 2) (to_register d byte2 r)
  does mvi_m t = storing (set memory hl byte2) (on 2) r
  does (lxi p) t = going (on 3) (to_pair p address r)
  does lda t = going (on 3) (with_a (byte_at address) r)
  does sta t = storing (set memory address r.a) (on 3) r
  does lhld t = going (on 3) (with_hl (byte_at (up_of address 1)) (byte_at address) r)
  does shld t = storing (set (set memory address r.l) (up_of address 1) r.h) (on 3) r
  does (ldax p) t = going (on 1) (with_a (byte_at (pair p r)) r)
  does (stax p) t = storing (set memory (pair p r) r.a) (on 1) r
  does xchg t = going (on 1) (with_hl r.d r.e (with_de r.h r.l r))
  does (alu_r o s) t = going (on 1) (operating o (register s r))
  does (alu_m o) t = going (on 1) (operating o m)
  does (alu_i o) t = going (on 2) (operating o byte2)
  does (inr_r d) t =
      let x = inr_of (register d r) (flags r).cy in going (on 1) (flagging x.flags (to_register d x.value r))
  does (dcr_r d) t =
      let x = dcr_of (register d r) (flags r).cy in going (on 1) (flagging x.flags (to_register d x.value r))
  does inr_m t = let x = inr_of m (flags r).cy in storing (set memory hl x.value) (on 1) (flagging x.flags r)
  does dcr_m t = let x = dcr_of m (flags r).cy in storing (set memory hl x.value) (on 1) (flagging x.flags r)
  does (inx p) t = going (on 1) (to_pair p (up_of (pair p r) 1) r)
  does (dcx p) t = going (on 1) (to_pair p (down_of (pair p r) 1) r)
  does (dad p) t =
      let x = dad_of hl (pair p r) in
      going (on 1) (flagging (with_cy x.cy (flags r)) (with_hl (high x.value) (low x.value) r))
  does (acc o) t = going (on 1) (resulting (accumulator_of o r.a (flags r)))
  does jmp t = going address r
  does jcc t = pick t (going address r) (going (on 3) r)
  does call t = calling (on 3) address
  does ccc t = pick t (calling (on 3) address) (going (on 3) r)
  does ret t = returning
  does rcc t = pick t returning (going (on 1) r)
  does (rst n) t = calling (on 1) (8 * n)
  does pchl t = going hl r
  does (push p) t = storing (pushing (first p r) (second p r)) (on 1) (with_sp (down_of r.sp 2) r)
  does (pop p) t = going (on 1) (with_sp (up_of r.sp 2) (to_both p above top r))
  does xthl t = storing (set (set memory (up_of r.sp 1) r.h) r.sp r.l) (on 1) (with_hl above top r)
  does sphl t = going (on 1) (with_sp hl r)
  does inp t = going (on 2) (with_a (get_or inputs byte2 0) r)
  does out t = record { regs = with_pc (on 2) r; memory = memory; outputs = set outputs byte2 r.a }
  does ei t = going (on 1) (with_inte true r)
  does di t = going (on 1) (with_inte false r)
  does hlt t = going (on 1) r
  does nop t = going (on 1) r
  does undefined t = going (on 1) r

  -- the instruction with the opcode op, at PC
  unfoldable pub manual : ℕ → Result
  manual op = does (decode op) (condition (op / 8 % 8) (flags r))

  -- a restart n that answers an interrupt: PC as it is goes to the stack, and interrupts are disabled
  unfoldable pub restart : ℕ → Result
  restart n = storing (pushing (high r.pc) (low r.pc)) (8 * n) (with_sp (down_of r.sp 2) (with_inte false r))
