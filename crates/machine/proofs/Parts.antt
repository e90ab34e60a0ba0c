-- A well-formed record taken apart and put together: what does not depend on the position, and what does.
-- Assumes nothing.
use Rattle.std.proofs.Common.{ℕ, Bool, not, ◌&&◌, ◌||◌, T, eqb, leb}
use Rattle.laws.proofs.Every.{and_left, and_right}
use Rattle.laws.proofs.Tests.{and_both, or_right}
use Rattle.opcodes.specs.Cycles.{defined_of}
use Rattle.opcodes.specs.Kinds.{is_none}
use Rattle.effect.specs.declared.kept.Kept.{Kept}
use Rattle.machine.specs.declared.record.Lines.{Lines}
use Rattle.machine.specs.declared.record.Position.{Position}
use Rattle.machine.specs.declared.record.Machine.{Machine}
use Rattle.machine.specs.Record.{with_next}
use Rattle.machine.specs.Cycle.{cycles_of}
use Rattle.machine.specs.Request.{restart_of}
use Rattle.machine.specs.Well.{fixed_of, levels_listed, there_of, cycles_done, idle_of, acked_of, bytes_of, well_of}

-- the acknowledge named and the number taken are right where d cycles have read
abbrev pub name_of : Kept → ℕ → Bool
name_of k d =
    (is_none k.ack || eqb d 0 || eqb k.opcode (restart_of k))
    && leb k.rst 7
    && (not (is_none k.ack) || eqb k.rst 0)

-- the flag byte f, the lines l and what is kept, k, are right where d cycles have read
pub record Ready (f : ℕ) (l : Lines) (k : Kept) (d : ℕ) : Type 0 where
  pub fixed : T (fixed_of f)
  pub listed : T (levels_listed l)
  pub defined : T (defined_of k.opcode)
  pub named : T (name_of k d)
  pub bytes : T (bytes_of k d)

-- the same of a machine, how many cycles its opcode has, and that a position exists for it
abbrev pub ReadyAt : Machine → ℕ → Type 0
ReadyAt m d = Ready m.regs.f m.lines m.kept d

abbrev pub cycles_in : Machine → ℕ
cycles_in m = cycles_of m.kept.opcode m.regs.f

abbrev pub There : Machine → Position → Type 0
There m p = T (there_of m.kept.opcode (cycles_in m) p)

-- an acknowledge is named with no halt state and no stop next
abbrev pub Awake : Machine → Position → Type 0
Awake m p = T (is_none m.kept.ack || not (idle_of p))

-- the machine's record is well formed
abbrev pub Well : Machine → Type 0
Well m = T (well_of m)

-- all of it at the position p
pub record Parts (m : Machine) (p : Position) : Type 0 where
  pub ready : ReadyAt m (cycles_done p)
  pub there : There m p
  pub awake : Awake m p

-- a well-formed record has the parts, and a record with the parts is well formed
pub parts_of : (m : Machine) → Well m → Parts m m.next
unfolding well_of acked_of
parts_of m t = search (and_left, and_right)

pub well_of_lem : (m : Machine) → Parts m m.next → Well m
unfolding well_of acked_of
well_of_lem m p = search and_both depth 8

-- a record with the rest right becomes well formed at a position that exists and is no halt state and no stop
pub next_well : (m : Machine) (p : Position) → ReadyAt m (cycles_done p) → There m p → T (not (idle_of p)) → Well (with_next p m)
unfolding with_next
next_well m p r t i =
    well_of_lem (with_next p m)
    record { ready = r; there = t; awake = or_right (is_none m.kept.ack) (not (idle_of p)) i }
