-- Every starred card passes, by computing its states. Assumes nothing.
use mathlib.Core.Path.{refl}
use Rattle.demands.specs.Bench.{add_b, sub_a, daa, dcr_a, dcr_carry, inr_a, dad_h, inx_h, push_h, mvi_a, waits, early, hold_card, enabled}
use Rattle.demands.specs.Bench.{Starred}
use Rattle.demands.proofs.Cards.{passes}
use Rattle.demands.proofs.Open.{everything}

pub starred : Starred
unfolding everything add_b sub_a daa dcr_a dcr_carry inr_a dad_h inx_h push_h mvi_a waits early hold_card enabled
starred = (
  passes add_b refl,
  (
    passes sub_a refl,
    (
      passes daa refl,
      (
        passes dcr_a refl,
        (
          passes dcr_carry refl,
          (
            passes inr_a refl,
            (
              passes dad_h refl,
              (
                passes inx_h refl,
                (
                  passes push_h refl,
                  (
                    passes mvi_a refl,
                    (
                      passes waits refl,
                      (
                        passes early refl,
                        (
                          passes hold_card refl,
                          (
                            passes enabled refl,
                            tt,
                          ),
                        ),
                      ),
                    ),
                  ),
                ),
              ),
            ),
          ),
        ),
      ),
    ),
  ),
)
