-- What a state asks of the bus. Source: document 01, "Cycles". Cited by `machine::request`.
use Rattle.std.specs.Prelude.{ℕ, ◌+◌, ◌*◌, ◌%◌, List, [], ◌∷◌, ◌==◌, slice_index_or}
use Rattle.laws.specs.Choice.{pick}
use Rattle.effect.specs.declared.kept.Kept.{Kept}
use Rattle.effect.specs.Bus.{given_of}
use Rattle.machine.specs.declared.record.Machine.{Machine}
use Rattle.machine.specs.declared.look.Look.{Look}
use Rattle.machine.specs.declared.request.Request.{Request}
use Rattle.machine.specs.declared.request.Request.TheVariants.{Nothing, Read, Write, Input, Output, Restart}

-- the byte that answers an acknowledge: RST of the number taken
unfoldable pub restart_of : Kept → ℕ
restart_of k = 0xC7 + 8 * (k.rst % 8)

-- what a cycle of each kind, from 0 on, asks of the bus at the address a, where b is the byte that goes out
abbrev pub asks : ℕ → ℕ → Kept → List Request
asks a b k =
    Nothing
    ∷ Read a
    ∷ Read a
    ∷ Write a b
    ∷ Read a
    ∷ Write a b
    ∷ Input k.b1
    ∷ Output k.b1 b
    ∷ Restart (restart_of k)
    ∷ Nothing
    ∷ Restart (restart_of k)
    ∷ []

unfoldable pub asked_of : ℕ → ℕ → ℕ → Kept → Request
asked_of kind a b k = slice_index_or (asks a b k) kind Nothing

-- what the state asks: "Bytes are read, and memory or output bytes written, in T3"
unfoldable pub request_of : Look → Machine → Request
request_of y m =
    pick (y.state == 3) (asked_of y.kind y.address (given_of y.code m.kept m.regs) m.kept) Nothing
