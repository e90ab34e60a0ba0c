-- One state keeps a well-formed record well formed, whatever the state, if an acknowledge is answered by its RST byte.
-- Assumes nothing.
use Rattle.std.proofs.Common.{◌≡◌, ℕ, false, ◌||◌, T, eqb, ◌⊎◌, refl, inl, inr, ⊎_elim, eqb→eq, eq-eqb}
use Rattle.laws.proofs.Tests.{true→T, or_either}
use Rattle.opcodes.specs.Cycles.{cycling}
use Rattle.opcodes.specs.Kinds.{kind_of, fetch_kind, is_none}
use Rattle.opcodes.specs.declared.cycle.Acknowledge.{Acknowledge}
use Rattle.opcodes.specs.declared.cycle.Acknowledge.TheVariants.{None, Running, Halted}
use Rattle.machine.specs.declared.record.Position.TheVariants.{Later}
use Rattle.machine.specs.declared.record.Machine.{Machine}
use Rattle.machine.specs.declared.request.Request.TheVariants.{Restart}
use Rattle.machine.specs.Record.{with_clock}
use Rattle.machine.specs.Step.{step_of}
use Rattle.machine.specs.Look.{place_of, shown_of, look_at, look_of}
use Rattle.machine.specs.Request.{restart_of, asked_of, request_of}
use Rattle.machine.specs.Well.{cycles_done, well_of}
use Rattle.machine.proofs.Parts.{Parts, parts_of}
use Rattle.machine.proofs.Bytes.{bytes_each}
use Rattle.machine.proofs.Ready.{Names}
use Rattle.machine.proofs.Moves.{moved_well}

-- the byte v on the bus is the one asked for: in an acknowledge's T3 it is the RST byte
abbrev pub Answered : ℕ → Machine → Type 0
Answered v m = (b : ℕ) → request_of (look_of m) m ≡ Restart b → v ≡ b

-- T3 of an acknowledge, whose opcode is not read yet, asks for the RST of the number taken
asks_restart : (m : Machine) → m.next ≡ Later 1 3 → m.kept.opcode ≡ 0
    → (fetch_kind m.kept.ack ≡ 8) ⊎ (fetch_kind m.kept.ack ≡ 10)
    → request_of (look_of m) m ≡ Restart (restart_of m.kept)
unfolding request_of look_of look_at place_of shown_of kind_of asked_of cycling
asks_restart m e o (inl k) = rw (e, o, k)
asks_restart m e o (inr k) = rw (e, o, k)

-- before T3 of a fetch is over the opcode kept is 0
unread : (m : Machine) → m.next ≡ Later 1 3 → Parts m m.next → m.kept.opcode ≡ 0
unfolding cycles_done
unread m e p =
    let b = (bytes_each m.kept 0 (rw e at p.ready.bytes)).0 in
    ⊎_elim (λ (z : T (eqb m.kept.opcode 0)). eqb→eq m.kept.opcode 0 z) (λ z. absurd z)
    (or_either (eqb m.kept.opcode 0) false b)

-- so the byte that answers it is the one that the record must have
answered_names : (v : ℕ) (m : Machine) → m.next ≡ Later 1 3 → m.kept.opcode ≡ 0 → Answered v m → Names v m.kept
answered_names v m e o a = go m.kept.ack refl
  where
    byte : ℕ
    byte = restart_of m.kept

    right : (fetch_kind m.kept.ack ≡ 8) ⊎ (fetch_kind m.kept.ack ≡ 10) → T (eqb v byte)
    right k = true→T (eqb v byte) (eq-eqb v byte (a byte (asks_restart m e o k)))

    go : (x : Acknowledge) → m.kept.ack ≡ x → T (is_none x || eqb v byte)
    go None q = tt
    go Running q = right (inl (rw q))
    go Halted q = right (inr (rw q))

-- one state keeps a well-formed record well formed
pub step_keeps : (v : ℕ) (m : Machine) → Answered v m → T (well_of m) → T (well_of (step_of v m))
unfolding step_of well_of with_clock
step_keeps v m a w =
    let p = parts_of m w in
    moved_well m.next v m w p
    (λ (e : m.next ≡ Later 1 3). answered_names v m e (unread m e p) a)
