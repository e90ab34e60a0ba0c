-- Choice by a test. Cited by the definitions of every crate.
use Rattle.std.specs.Prelude.{Bool, true, false}

-- a where the test holds, b where it does not
abbrev pub pick : {A : Type 0} → Bool → A → A → A
pick true a b = a
pick false a b = b
