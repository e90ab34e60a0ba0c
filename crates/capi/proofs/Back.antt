-- A record holds every machine: the machine of its record is the machine. And what is no record, or has a byte outside its
-- range, is ill formed. Assumes nothing.
use Prim.Native.Nat.{ℕ}
use mathlib.Core.Path.{◌≡◌, refl}
use mathlib.Core.Bool.{Bool, true, false, ◌&&◌}
use mathlib.Core.List.{List}
use lib.Dec.{eqb, leb}
use lib.ListN.{length}
use borrow.Author.Tests.{eq-eqb}
use Rattle.opcodes.specs.declared.cycle.Acknowledge.{Acknowledge}
use Rattle.opcodes.specs.declared.cycle.Acknowledge.TheVariants.{None, Running, Halted}
use Rattle.machine.specs.declared.record.Position.{Position}
use Rattle.machine.specs.declared.record.Position.TheVariants.{Fetch, Later, Wait, Hold, Halt, Stop}
use Rattle.machine.specs.declared.record.Machine.{Machine}
use Rattle.machine.specs.Record.{cold_of, with_regs, next_number}
use Rattle.machine.specs.Well.{fixed_of, well_of}
use Rattle.schedule.specs.Events.{all}
use Rattle.saved.specs.Header.{header_with}
use Rattle.saved.proofs.Back.{bit_range, registers_back, lines_back, clock_back}
use Rattle.capi.specs.Flat.{cycle_byte, state_byte, acknowledge_byte, inside_bytes, flat_of, record_with}
use Rattle.capi.specs.Handed.{position_in, acknowledge_in, kept_in, recorded_of, place_fits, formed_of, broken_of, handed_of}

-- what comes next and the acknowledge, from their bytes
position_back : (p : Position) → position_in (next_number p) (cycle_byte p) (state_byte p) ≡ p
unfolding position_in cycle_byte state_byte
position_back Fetch = refl
position_back (Later c s) = refl
position_back (Wait c) = refl
position_back (Hold c) = refl
position_back Halt = refl
position_back Stop = refl

acknowledge_back : (a : Acknowledge) → acknowledge_in (acknowledge_byte a) ≡ a
unfolding acknowledge_in acknowledge_byte
acknowledge_back None = refl
acknowledge_back Running = refl
acknowledge_back Halted = refl

pub read_flat : (m : Machine) → recorded_of (flat_of m) ≡ m
unfolding recorded_of flat_of kept_in header_with
read_flat m =
    let what = next_number m.next in
    λ i.
    record {
      regs = registers_back what m (inside_bytes m) i;
      kept =
          record {
            opcode = m.kept.opcode;
            ack = acknowledge_back m.kept.ack i;
            rst = m.kept.rst;
            b1 = m.kept.b1;
            b2 = m.kept.b2;
            b3 = m.kept.b3;
            b4 = m.kept.b4;
          };
      lines = lines_back what m (inside_bytes m) i;
      clock = clock_back what m (inside_bytes m) i;
      next = position_back m.next i;
    }

-- each byte that is written is inside its range
place_range : (p : Position) → (leb (next_number p) 5 && place_fits (next_number p) (cycle_byte p) (state_byte p)) ≡ true
unfolding cycle_byte state_byte place_fits
place_range Fetch = refl
place_range (Later c s) = refl
place_range (Wait c) = refl
place_range (Hold c) = refl
place_range Halt = refl
place_range Stop = refl

acknowledge_range : (a : Acknowledge) → leb (acknowledge_byte a) 2 ≡ true
unfolding acknowledge_byte
acknowledge_range None = refl
acknowledge_range Running = refl
acknowledge_range Halted = refl

-- tests in their order, and as they are proved
in_order : (inte what ack place : Bool) → inte ≡ true → (what && place) ≡ true → ack ≡ true
    → (inte && what && ack && place && true && true) ≡ true
in_order true true true true e f g = refl
in_order true true true false e f g = f
in_order true true false place e f g = g
in_order true false ack place e f g = f
in_order false what ack place e f g = e

pub flat_formed : (m : Machine) → formed_of (flat_of m) ≡ true
unfolding formed_of flat_of header_with all
flat_formed m =
    in_order _ _ _ _ (bit_range m.regs.inte) (place_range m.next) (acknowledge_range m.kept.ack)

flat_size : (m : Machine) → length (flat_of m) ≡ 64
unfolding flat_of header_with
flat_size m = refl

pub handed_flat : (m : Machine) → handed_of (flat_of m) ≡ m
unfolding handed_of
handed_flat m = rw (flat_size m, flat_formed m) (read_flat m)

-- so a record into which a machine was put holds it
pub handed_record : (z : List ℕ) (m : Machine) → length z ≡ 64 → handed_of (record_with z m) ≡ m
unfolding record_with
handed_record z m e = rw (eq-eqb (length z) 64 e) (handed_flat m)

-- what is no record, or has a byte outside its range, is ill formed
broken_ill : well_of broken_of ≡ false
unfolding broken_of with_regs cold_of well_of fixed_of
broken_ill = refl

pub malformed_ill : (z : List ℕ) → (eqb (length z) 64 && formed_of z) ≡ false → well_of (handed_of z) ≡ false
unfolding handed_of
malformed_ill z e = rw e broken_ill
