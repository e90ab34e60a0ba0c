-- The states other than waits and holds. Cited by the bound of 18.
use Rattle.std.specs.Prelude.{ℕ}
use Rattle.machine.specs.declared.record.Position.{Position}
use Rattle.machine.specs.declared.record.Position.TheVariants.{Fetch, Later, Wait, Hold, Halt, Stop}

-- 0 for a wait and a hold, 1 for any other state; at a stop none is done
abbrev pub own : Position → ℕ
own Fetch = 1
own (Later c s) = 1
own (Wait c) = 0
own (Hold c) = 0
own Halt = 1
own Stop = 0
