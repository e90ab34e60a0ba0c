-- The 64 bytes of a machine, copied over a record. Assumes nothing.
use Prim.Native.Nat.{ℕ}
use mathlib.Core.Path.{◌≡◌, ◌∙◌}
use mathlib.Core.List.{List}
use lib.ListN.{length}
use Rattle.machine.specs.declared.record.Machine.{Machine}
use Rattle.capi.specs.Flat.{flat_of, record_with}

pub put_flat : (m : Machine) (z h z' : List ℕ) → length z ≡ 64 → h ≡ flat_of m → z' ≡ h → z' ≡ record_with z m
unfolding record_with
put_flat m z h z' n e c = c ∙ e ∙ rw n
