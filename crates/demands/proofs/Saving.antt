-- Demand 1 for `save` and `load`. Assumes nothing.
use Rattle.std.specs.Prelude.{Result, Ok, Err}
use Prim.Native.Nat.{ℕ}
use mathlib.Core.Path.{refl, sym, ap, subst}
use mathlib.Core.List.{List}
use lib.ListN.{length}
use Rattle.machine.specs.declared.record.Machine.{Machine}
use Rattle.saved.specs.declared.answer.Refusal.{Refusal}
use Rattle.saved.specs.Answer.{refusal_number}
use Rattle.saved.specs.Header.{saved_of}
use Rattle.saved.specs.Fields.{machine_in, ports_in, memory_in}
use Rattle.saved.specs.Check.{save_verdict, load_verdict}
use Rattle.saved.specs.Outcome.{filled_by, loading_by}
use Rattle.saved.proofs.Unique.{save_unique, load_unique}
use Rattle.demands.specs.Saving.{FirstOf, save_tests, load_tests, SaveGiven, LoadGiven}
use Rattle.demands.specs.Saving.{SaveTaken, LoadTaken, SavesOrRefuses}
use Rattle.demands.proofs.Tested.{same_number, not_zero, Sound, one_first, not_both, save_sound, load_sound}

-- by the verdict
save_by : (m : Machine) (x o z : List ℕ) (v : Result (Unit {0}) Refusal) → Sound (SaveGiven m x o z) save_tests v
    → SaveTaken m x o z v (filled_by v (saved_of m o x) z)
save_by m x o z (Ok u) n =
    record {
      refused = λ q. (λ e. not_zero q (sym e), λ f. absurd (not_both (SaveGiven m x o z) save_tests q f n));
      unchanged = λ q e. not_zero q (sym e);
      accepted = (λ e. n, λ e. refl);
    }
save_by m x o z (Err p) f =
    record {
      refused = λ q. (
        λ e. subst (FirstOf (SaveGiven m x o z) save_tests) (same_number p q e) f,
        λ g. ap refusal_number (one_first (SaveGiven m x o z) save_tests p q f g),
      );
      unchanged = λ q e. refl;
      accepted = (not_zero p, λ n. absurd (not_both (SaveGiven m x o z) save_tests p f n));
    }

load_by : (m : Machine) (s x o : List ℕ) (v : Result (Unit {0}) Refusal) → Sound (LoadGiven s x o) load_tests v
    → LoadTaken m s x o (loading_by v (machine_in s) m) (filled_by v (memory_in s) x) (filled_by v (ports_in s) o)
load_by m s x o (Ok u) n =
    record {
      refused = λ q. (λ e. not_zero q (sym e), λ f. absurd (not_both (LoadGiven s x o) load_tests q f n));
      unchanged = λ q e. not_zero q (sym e);
      accepted = (λ e. n, λ e. refl);
    }
load_by m s x o (Err p) f =
    record {
      refused = λ q. (
        λ e. subst (FirstOf (LoadGiven s x o) load_tests) (same_number p q e) f,
        λ g. ap refusal_number (one_first (LoadGiven s x o) load_tests p q f g),
      );
      unchanged = λ q e. (refl, refl, refl);
      accepted = (not_zero p, λ n. absurd (not_both (LoadGiven s x o) load_tests p f n));
    }

pub saves_or_refuses : SavesOrRefuses
saves_or_refuses =
    record {
      saves =
          λ m x o z r z' c.
          rw (c.answer, c.out)
          (save_by m x o z (save_verdict m (length x) (length o) (length z)) (save_sound m x o z));
      saves_once = save_unique;
      loads =
          λ m s x o r x' o' c.
          rw (c.answer, c.memory, c.outputs)
          (load_by m s x o (load_verdict s (length x) (length o)) (load_sound s x o));
      loads_once = load_unique;
    }
