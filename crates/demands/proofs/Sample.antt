-- The printed sample, computed. Assumes nothing.
use Rattle.std.specs.Prelude.{Ok}
use mathlib.Core.Path.{◌≡◌, refl}
use Rattle.machine.specs.declared.record.Position.TheVariants.{Halt}
use Rattle.demands.specs.Cards.{Passes}
use Rattle.demands.specs.Sample.{lines_of, sample, printed, Sample}
use Rattle.demands.proofs.Cards.{fair, ran, left_is, passes}
use Rattle.demands.proofs.Open.{everything}

good : fair sample ≡ Ok tt
unfolding everything sample
good = refl

lines_right : lines_of (ran sample).trace 14 0 ≡ printed
unfolding everything sample
lines_right = refl

halts_right : (ran sample).machine.next ≡ Halt
unfolding everything sample
halts_right = refl

card_right : Passes sample
unfolding everything sample
card_right = passes sample refl

pub sampled : Sample
sampled =
    record {
      card = card_right;
      lines = rw (left_is sample good) lines_right;
      halts = rw (left_is sample good) halts_right;
    }
