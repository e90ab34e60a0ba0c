-- Where a leg begins: what opcode it has, and that a leg begins where one ends. Assumes nothing.
use Prim.Native.Nat.{ℕ, ◌%◌, ◌<◌}
use mathlib.Core.Path.{◌≡◌, refl, ap, ◌∙◌}
use mathlib.Core.Bool.{Bool, true, false}
use mathlib.Core.List.{List}
use native.Mathlib.Omega.{arith}
use borrow.Author.Tests.{lt-ltb}
use lib.Dec.{eqb, ltb, ltb→lt}
use lib.ListN.{get_or}
use Rattle.laws.specs.Choice.{pick}
use Rattle.laws.proofs.Every.{and_left}
use Rattle.laws.proofs.Tests.{true→T, pick_both}
use Rattle.opcodes.specs.Codes.{fetch4}
use Rattle.opcodes.specs.Cycles.{code_of, cycling}
use Rattle.opcodes.specs.Kinds.{kind_of, writes_of, raises_of, is_none}
use Rattle.opcodes.specs.declared.cycle.Acknowledge.{Acknowledge}
use Rattle.opcodes.specs.declared.cycle.Acknowledge.TheVariants.{None, Running, Halted}
use Rattle.effect.specs.Kept.{kept_for}
use Rattle.effect.specs.Bus.{address_of}
use Rattle.machine.specs.declared.record.Position.{Position}
use Rattle.machine.specs.declared.record.Position.TheVariants.{Fetch, Halt}
use Rattle.machine.specs.declared.record.Machine.{Machine}
use Rattle.machine.specs.Ending.{takes_of, acknowledge_of, clear_of, is_hlt, ended_of}
use Rattle.machine.specs.Look.{first_pc_of}
use Rattle.machine.specs.Request.{asked_of, restart_of}
use Rattle.machine.specs.Step.{risen_of}
use Rattle.run.specs.State.{byte_on}
use Rattle.demands.specs.Begins.{Acknowledges}
use Rattle.demands.specs.Outside.{Outside, Moment}
use Rattle.demands.proofs.Work.{Work, closing, opcode_of, work_of}
use Rattle.demands.specs.Manual.{Result}
use Rattle.demands.specs.Board.{Board}
use Rattle.demands.specs.Legs.{afterwards, opcode_at, restart_byte}
use Rattle.demands.proofs.Opcode.{back}
use Rattle.demands.proofs.Going.{Ended}

-- two positions are not one
pub fetch_halt : {A : Type 0} (b : Board) → b.machine.next ≡ Fetch → b.machine.next ≡ Halt → A
fetch_halt b e f = absurd (let z : ◌≡◌ {A = ℕ} 0 1 = cc in let no : ⊥ = omega arith in no)

-- a leg begins on the board b: a fetch or an acknowledge, with nothing read, or a halt state
pub data Start (b : Board) : Type 0 where
  fetching : b.machine.next ≡ Fetch → b.machine.kept ≡ kept_for None 0 → Start b
  answering : (a : Acknowledge) (n : ℕ) → is_none a ≡ false → n < 8 → b.machine.regs.inte ≡ false → b.machine.next ≡ Fetch
      → b.machine.kept ≡ kept_for a n → Start b
  halting : b.machine.next ≡ Halt → Start b

-- the first cycle is a fetch while nothing is read
code_first : (b : Board) (a : Acknowledge) (n : ℕ) → b.machine.kept ≡ kept_for a n → code_of b.machine.kept.opcode 1 ≡ fetch4
unfolding kept_for cycling
code_first b a n k = rw k

pub fetch_code : (b : Board) → Start b → b.machine.next ≡ Fetch → code_of b.machine.kept.opcode 1 ≡ fetch4
fetch_code b (fetching e k) f = code_first b None 0 k
fetch_code b (answering a n z l i e k) f = code_first b a n k
fetch_code b (halting e) f = fetch_halt b f e

-- the opcode of an instruction
pub opcode_none : (E : Outside) (b : Board) → b.machine.kept ≡ kept_for None 0 → opcode_of E (work_of b) ≡ opcode_at b
unfolding kept_for byte_on asked_of kind_of writes_of raises_of risen_of first_pc_of address_of
opcode_none E b k =
    rw k
    (ap (λ (a : ℕ). get_or b.memory a 0) (back b.machine.regs.pc))

-- and of an acknowledge
restarts : (E : Outside) (d : Work) (a : Acknowledge) (n : ℕ) → is_none a ≡ false → d.kept ≡ kept_for a n
    → opcode_of E d ≡ restart_byte (n % 8)
unfolding kept_for byte_on asked_of kind_of writes_of restart_of
restarts E d None n e k = absurd (let z : ◌≡◌ {A = ℕ} 0 1 = cc in let no : ⊥ = omega arith in no)
restarts E d Running n e k = rw k
restarts E d Halted n e k = rw k

pub opcode_ack : (E : Outside) (b : Board) (a : Acknowledge) (n : ℕ) → is_none a ≡ false → n < 8 → b.machine.kept ≡ kept_for a n
    → opcode_of E (work_of b) ≡ restart_byte n
opcode_ack E b a n e l k =
    restarts E (work_of b) a n e k ∙ ap restart_byte (let q : n % 8 ≡ n = omega arith in q)

-- the end of an instruction asks for the opcode only
pub ended_as : (d : Work) (op : ℕ) (t : Moment) → d.kept.opcode ≡ op → Ended d t ≡ afterwards op (closing d) t
unfolding ended_of takes_of acknowledge_of clear_of
ended_as d op t e = rw e

-- and a leg begins there
pub acked : (b : Bool) → is_none (pick b Halted Running) ≡ false
acked true = refl
acked false = refl

taken_up : (m : Machine) → takes_of m ≡ true → m.lines.int < 8
unfolding takes_of
taken_up m e = let t = true→T (takes_of m) e in search (ltb→lt, and_left)

ended_start : (m : Machine) (x o : List ℕ) → Start (record { machine = ended_of m; memory = x; outputs = o })
unfolding ended_of acknowledge_of clear_of
ended_start m x o =
    pick_both (λ (z : Machine). Start (record { machine = z; memory = x; outputs = o })) (takes_of m)
    (acknowledge_of (pick (is_hlt m) Halted Running) m) (clear_of (pick (is_hlt m) Halt Fetch) m)
    (λ (e : takes_of m ≡ true).
    answering (pick (is_hlt m) Halted Running) m.lines.int (acked (is_hlt m)) (taken_up m e) refl refl refl)
    (λ e.
    pick_both (λ (p : Position). Start (record { machine = clear_of p m; memory = x; outputs = o })) (is_hlt m) Halt Fetch
    (λ z. halting refl) (λ z. fetching refl refl))

pub after_start : (op : ℕ) (a : Result) (t : Moment) → Start (afterwards op a t)
after_start op a t = ended_start _ a.memory a.outputs

-- an interrupt is taken after an instruction that is not EI, where INTE is on and INT up
pub after_takes : (op : ℕ) (a : Result) (t : Moment) → eqb op 0xFB ≡ false → a.regs.inte ≡ true → t.lines.int < 8
    → Acknowledges (afterwards op a t).machine
unfolding ended_of takes_of acknowledge_of kept_for
after_takes op a t e i u =
    let l : ltb t.lines.int 8 ≡ true = lt-ltb t.lines.int 8 u in
    (rw (l, i, e), rw (l, i, e) (acked (eqb op 0x76)))
