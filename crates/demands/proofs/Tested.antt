-- The verdict on a save or a load is the first condition of its table that holds. Assumes nothing.
use Rattle.std.specs.Prelude.{Result, Ok, Err, is_some}
use Prim.Native.Nat.{ℕ}
use mathlib.Core.Path.{◌≡◌, refl, sym, ap, ◌∙◌}
use mathlib.Core.Bool.{Bool, true, false}
use mathlib.Core.List.{List, [], ◌∷◌}
use mathlib.Core.Logic.{inl, inr, ⊎_elim}
use native.Mathlib.Omega.{arith}
use lib.Dec.{eqb}
use lib.ListN.{length, get_or}
use Rattle.opcodes.specs.Kinds.{is_none}
use Rattle.opcodes.specs.declared.cycle.Acknowledge.{Acknowledge}
use Rattle.opcodes.specs.declared.cycle.Acknowledge.TheVariants as ack
use Rattle.effect.specs.declared.kept.Kept.{Kept}
use Rattle.machine.specs.declared.record.Position.{Position}
use Rattle.machine.specs.declared.record.Position.TheVariants.{Fetch, Later, Wait, Hold, Halt, Stop}
use Rattle.machine.specs.declared.record.Machine.{Machine}
use Rattle.machine.specs.Well.{well_of}
use Rattle.saved.specs.declared.answer.Refusal.{Refusal}
use Rattle.saved.specs.declared.answer.Refusal.TheVariants as refusal
use Rattle.saved.specs.Answer.{refusal_number}
use Rattle.saved.specs.Header.{fetch_mode, mode_of, between_of}
use Rattle.saved.specs.Fields.{lines_in, in_range}
use Rattle.saved.specs.Check.{pass, save_verdict, load_verdict}
use Rattle.demands.specs.IllFormed.{Not}
use Rattle.demands.specs.Saving.{FirstOf, None, save_tests, load_tests, HasMode, OutOfRange, SaveGiven, LoadGiven}
use Rattle.demands.proofs.Decides.{Bars, Shows, always, never, bars_not, bars_leb, bars_and, shows_eqb, shows_true}
use Rattle.demands.proofs.IllFormed.{bit_bars, line_bars, well_bars}

-- the refusals by their numbers
abbrev reasons : List Refusal
reasons =
    refusal.MemorySize ∷ refusal.MemorySize ∷ refusal.PortSize ∷ refusal.MemorySize ∷ refusal.MemorySize ∷ refusal.MemorySize
    ∷ refusal.MemorySize ∷ refusal.MemorySize ∷ refusal.IllFormed ∷ refusal.MemorySize ∷ refusal.MemorySize
    ∷ refusal.InsideInstruction ∷ refusal.SavedSize ∷ refusal.FieldRange ∷ refusal.OutputSize ∷ []

number_back : (q : Refusal) → get_or reasons (refusal_number q) refusal.MemorySize ≡ q
number_back refusal.MemorySize = refl
number_back refusal.PortSize = refl
number_back refusal.IllFormed = refl
number_back refusal.InsideInstruction = refl
number_back refusal.SavedSize = refl
number_back refusal.FieldRange = refl
number_back refusal.OutputSize = refl

pub same_number : (p q : Refusal) → refusal_number p ≡ refusal_number q → p ≡ q
same_number p q e = sym (number_back p) ∙ ap (λ (n : ℕ). get_or reasons n refusal.MemorySize) e ∙ number_back q

pub not_zero : {A : Type 0} (q : Refusal) → refusal_number q ≡ 0 → A
not_zero refusal.MemorySize e = absurd (let no : ⊥ = omega (arith, e) in no)
not_zero refusal.PortSize e = absurd (let no : ⊥ = omega (arith, e) in no)
not_zero refusal.IllFormed e = absurd (let no : ⊥ = omega (arith, e) in no)
not_zero refusal.InsideInstruction e = absurd (let no : ⊥ = omega (arith, e) in no)
not_zero refusal.SavedSize e = absurd (let no : ⊥ = omega (arith, e) in no)
not_zero refusal.FieldRange e = absurd (let no : ⊥ = omega (arith, e) in no)
not_zero refusal.OutputSize e = absurd (let no : ⊥ = omega (arith, e) in no)

-- a mode applies
fetch_shows : (a : Acknowledge) → Shows (is_some (fetch_mode a)) (is_none a ≡ true)
unfolding fetch_mode
fetch_shows ack.None = shows_true true
fetch_shows ack.Running = shows_true false
fetch_shows ack.Halted = shows_true false

mode_shows : (k : Kept) (p : Position) → Shows (is_some (mode_of k p)) (HasMode k p)
unfolding mode_of
mode_shows k Fetch = fetch_shows k.ack
mode_shows k (Later c s) = never
mode_shows k (Wait c) = never
mode_shows k (Hold c) = never
mode_shows k Halt = always
mode_shows k Stop = always

between_bars : (m : Machine) → Bars (between_of m) (Not (HasMode m.kept m.next))
unfolding between_of
between_bars m = bars_not (mode_shows m.kept m.next)

-- the fields of a saved form
range_bars : (s : List ℕ) → Bars (in_range s) (OutOfRange s)
unfolding in_range lines_in
range_bars s =
    bars_and _ _
    (bars_and _ _
    (bars_and _ _
    (bars_and _ _ (bars_and _ _ (bars_and _ _ (bit_bars (get_or s 1 0)) (bars_leb (get_or s 12 0) 1)) (bars_leb (get_or s 13 0) 2))
    (line_bars (lines_in s)))
    (bars_not (shows_eqb (get_or s 21 0) 0)))
    (bars_not (shows_eqb (get_or s 22 0) 0)))
    (bars_not (shows_eqb (get_or s 23 0) 0))

-- tests one after the other: what their verdict says, and that it says it of one refusal only
module _ (Given : Refusal → Type 0) where
  abbrev pub Sound : List Refusal → Result (Unit {0}) Refusal → Type 0
  Sound ps (Ok u) = None Given ps
  Sound ps (Err q) = FirstOf Given ps q

  step : (p : Refusal) (ps : List Refusal) (b : Bool) (v : Result (Unit {0}) Refusal) → Bars b (Given p) → Sound ps v → Sound (p ∷ ps) (pass b p v)
  step p ps true (Ok u) d s = (d.pass refl, s)
  step p ps true (Err q) d s = inr (d.pass refl, s)
  step p ps false v d s = inl (refl, d.fail refl)

  pub one_first : (ps : List Refusal) (q q' : Refusal) → FirstOf Given ps q → FirstOf Given ps q' → q ≡ q'
  one_first [] q q' f g = absurd f
  one_first (p ∷ ps) q q' f g =
      ⊎_elim (λ x. ⊎_elim (λ y. sym x.0 ∙ y.0) (λ y. absurd (y.0 x.1)) g)
      (λ x. ⊎_elim (λ y. absurd (x.0 y.1)) (λ y. one_first ps q q' x.1 y.1) g) f

  pub not_both : (ps : List Refusal) (q : Refusal) → FirstOf Given ps q → None Given ps → ⊥
  not_both [] q f n = f
  not_both (p ∷ ps) q f n = ⊎_elim (λ x. n.0 x.1) (λ x. not_both ps q x.1 n.1) f

pub save_sound : (m : Machine) (x o z : List ℕ)
    → Sound (SaveGiven m x o z) save_tests (save_verdict m (length x) (length o) (length z))
unfolding save_verdict
save_sound m x o z =
    let G = SaveGiven m x o z in
    let from_output = refusal.OutputSize ∷ [] in
    let from_inside = refusal.InsideInstruction ∷ from_output in
    let from_form = refusal.IllFormed ∷ from_inside in
    step G refusal.MemorySize (refusal.PortSize ∷ from_form) (eqb (length x) 65536) _ (bars_not (shows_eqb (length x) 65536))
    (step G refusal.PortSize from_form (eqb (length o) 256) _ (bars_not (shows_eqb (length o) 256))
    (step G refusal.IllFormed from_inside (well_of m) _ (well_bars m)
    (step G refusal.InsideInstruction from_output (between_of m) _ (between_bars m)
    (step G refusal.OutputSize [] (eqb (length z) 65816) (Ok tt) (bars_not (shows_eqb (length z) 65816)) tt))))

pub load_sound : (s x o : List ℕ) → Sound (LoadGiven s x o) load_tests (load_verdict s (length x) (length o))
unfolding load_verdict
load_sound s x o =
    let G = LoadGiven s x o in
    let from_ports = refusal.PortSize ∷ [] in
    let from_memory = refusal.MemorySize ∷ from_ports in
    step G refusal.SavedSize (refusal.FieldRange ∷ from_memory) (eqb (length s) 65816) _ (bars_not (shows_eqb (length s) 65816))
    (step G refusal.FieldRange from_memory (in_range s) _ (range_bars s)
    (step G refusal.MemorySize from_ports (eqb (length x) 65536) _ (bars_not (shows_eqb (length x) 65536))
    (step G refusal.PortSize [] (eqb (length o) 256) (Ok tt) (bars_not (shows_eqb (length o) 256)) tt)))
