-- `intel_hex::digits::all_hex`: the loop keeps whether all characters so far are hex digits.
use Rattle.std.proofs.Common.{◌≡◌, take}
use Rattle.intel_hex.specs.Digits.{all_hex}
use Rattle.intel_hex.proofs.digits.all_hex.Given as goal

abbrev pub invariant-loop-c : goal.invariant-loop-c
invariant-loop-c l = l.all ≡ all_hex (take l.c-index l.s)
