-- The verdict on a call of `run` is the first of the table's conditions that holds. Assumes nothing.
use Rattle.std.specs.Prelude.{Result, Ok, Err}
use Prim.Native.Nat.{ℕ, suc, ◌+◌, ◌-◌, ◌*◌, ◌/◌, ◌%◌, ◌<◌}
use mathlib.Core.Path.{◌≡◌, refl, sym, ap, ◌∙◌, subst}
use mathlib.Core.Bool.{Bool, true, false, ◌&&◌}
use mathlib.Core.List.{List, [], ◌∷◌}
use mathlib.Core.Logic.{⊎_elim}
use native.Mathlib.Omega.{arith}
use native.Mathlib.Nat.{eq-or-lt_of_le, le_of_suc-le-suc}
use lib.Dec.{lit<, eqb, ltb, leb}
use lib.ListN.{length, get_or}
use Rattle.laws.specs.Choice.{pick}
use Rattle.machine.specs.Well.{well_of}
use Rattle.schedule.specs.declared.order.Fault.TheVariants as fault
use Rattle.schedule.specs.Events as events
use Rattle.schedule.specs.Events.{line_of, value_of, listed_of, listed_at, follows_of, all, ordered_of, checked_of}
use Rattle.run.specs.declared.answer.Refusal.{Refusal}
use Rattle.run.specs.declared.answer.Refusal.TheVariants.{MemorySize, PortSize, ScheduleLength, EventValue, EventOrder}
use Rattle.run.specs.declared.answer.Refusal.TheVariants.{TooManyStates, TraceShort, IllFormed, ClockRange}
use Rattle.run.specs.Answer.{refusal_number}
use Rattle.run.specs.Check.{and_then, unless, of_schedule, schedule_verdict, states_verdict, check_of}
use Rattle.run.specs.Run.{World}
use Rattle.run.specs.Outcome.{start_of, verdict_of}
use Rattle.demands.specs.IllFormed.{Not}
use Rattle.demands.specs.Refusals.{Call, Listed, Follows, Given, First}
use Rattle.demands.proofs.Decides.{Bars, Shows, bars_not, shows_eqb, shows_ltb, bars_leb, bars_and}
use Rattle.demands.proofs.IllFormed.{well_bars}
use Rattle.demands.proofs.Decides.{shows_and, shows_or, bars_all}

-- the refusals in the order of their numbers
abbrev reasons : List Refusal
reasons =
    MemorySize ∷ MemorySize ∷ PortSize ∷ ScheduleLength ∷ EventValue ∷ EventOrder ∷ TooManyStates ∷ TraceShort ∷ IllFormed
    ∷ ClockRange ∷ []

number_back : (q : Refusal) → get_or reasons (refusal_number q) MemorySize ≡ q
number_back MemorySize = refl
number_back PortSize = refl
number_back ScheduleLength = refl
number_back EventValue = refl
number_back EventOrder = refl
number_back TooManyStates = refl
number_back TraceShort = refl
number_back IllFormed = refl
number_back ClockRange = refl

pub same_number : (p q : Refusal) → refusal_number p ≡ refusal_number q → p ≡ q
same_number p q e = sym (number_back p) ∙ ap (λ (n : ℕ). get_or reasons n MemorySize) e ∙ number_back q

-- none is 0, and none is over 9
pub number_range : (q : Refusal) → (0 < refusal_number q) × (refusal_number q < 10)
number_range MemorySize = (lit< tt, lit< tt)
number_range PortSize = (lit< tt, lit< tt)
number_range ScheduleLength = (lit< tt, lit< tt)
number_range EventValue = (lit< tt, lit< tt)
number_range EventOrder = (lit< tt, lit< tt)
number_range TooManyStates = (lit< tt, lit< tt)
number_range TraceShort = (lit< tt, lit< tt)
number_range IllFormed = (lit< tt, lit< tt)
number_range ClockRange = (lit< tt, lit< tt)

-- the tests of an event
listed_shows : (line value : ℕ) → Shows (listed_of line value) (Listed line value)
unfolding listed_of
listed_shows line value =
    shows_or (ltb line 2 && ltb value 2) (eqb line 2 && ltb value 9)
    (shows_and (ltb line 2) (ltb value 2) (shows_ltb line 2) (shows_ltb value 2))
    (shows_and (eqb line 2) (ltb value 9) (shows_eqb line 2) (shows_ltb value 9))

follows_shows : (s : List ℕ) (i : ℕ) → Shows (follows_of s i) (Follows s i)
unfolding follows_of
follows_shows s i =
    let a = events.state_number_of s i in
    let b = events.state_number_of s (i + 1) in
    let x = line_of s i in
    let y = line_of s (i + 1) in
    shows_or (ltb a b) (eqb a b && ltb x y) (shows_ltb a b)
    (shows_and (eqb a b) (ltb x y) (shows_eqb a b) (shows_ltb x y))

ordered_bars : (s : List ℕ) (n : ℕ) → Bars (ordered_of s n) ((i : ℕ) × (i + 1 < n) × Not (Follows s i))
unfolding ordered_of
ordered_bars s n =
    let d = bars_all (follows_of s) (λ i. Not (Follows s i)) (λ i. bars_not (follows_shows s i)) (n - 1) in
    record {
      pass = λ e x. d.pass e (x.0, omega (arith, x.1), x.2);
      fail = λ e. let y = d.fail e in (y.0, omega (arith, y.1), y.2);
    }

module _ (c : Call) where
  -- no condition with a number below k holds
  abbrev Clear : ℕ → Type 0
  Clear k = (p : Refusal) → refusal_number p < k → Not (Given c p)

  -- what a verdict says of the call
  abbrev pub Sound : Result (Unit {0}) Refusal → Type 0
  Sound (Ok u) = (q : Refusal) → Not (Given c q)
  Sound (Err q) = First c q

  clear_next : (q : Refusal) → Clear (refusal_number q) → Not (Given c q) → Clear (suc (refusal_number q))
  clear_next q f g p l =
      ⊎_elim (λ e. subst (λ (x : Refusal). Not (Given c x)) (sym (same_number p q e)) g) (λ m. f p m)
      (eq-or-lt_of_le (le_of_suc-le-suc l))

  -- one test more
  step : (q : Refusal) (b : Bool) (v : Result (Unit {0}) Refusal) → Bars b (Given c q) → Clear (refusal_number q)
      → (Clear (suc (refusal_number q)) → Sound v) → Sound (and_then (unless b q) v)
  step q true v d f g = g (clear_next q f (d.pass refl))
  step q false v d f g = (d.fail refl, f)

  final : (b : Bool) → Bars b (Given c ClockRange) → Clear 9 → Sound (unless b ClockRange)
  final true d f = λ q. clear_next ClockRange f (d.pass refl) q (number_range q).1
  final false d f = (d.fail refl, f)

  steps : (a b d : Bool) (v : Result (Unit {0}) Refusal) → Bars a (Given c ScheduleLength) → Bars b (Given c EventValue)
      → Bars d (Given c EventOrder) → Clear 3 → (Clear 6 → Sound v)
      → Sound (and_then (of_schedule (pick a (pick b (pick d (Ok tt) (Err fault.Order)) (Err fault.Value)) (Err fault.Length))) v)
  steps false b d v x y z f g = (x.fail refl, f)
  steps true false d v x y z f g = (y.fail refl, clear_next ScheduleLength f (x.pass refl))
  steps true true false v x y z f g =
      (z.fail refl, clear_next EventValue (clear_next ScheduleLength f (x.pass refl)) (y.pass refl))
  steps true true true v x y z f g =
      g (clear_next EventOrder (clear_next EventValue (clear_next ScheduleLength f (x.pass refl)) (y.pass refl))
      (z.pass refl))

  -- the world that the call begins with
  abbrev pub before : World
  before = start_of c.machine c.memory c.outputs c.trace

  pub verdict_sound : Sound (verdict_of before c.inputs c.schedule c.states)
  unfolding verdict_of check_of schedule_verdict states_verdict checked_of
  verdict_sound =
      let s = c.schedule in
      let n = length s / 6 in
      step MemorySize (eqb (length c.memory) 65536) _ (bars_not (shows_eqb (length c.memory) 65536))
      (λ p l. let r = (number_range p).0 in absurd (let no : ⊥ = omega (arith, l, r) in no))
      (λ k₁. step PortSize (eqb (length c.inputs) 256 && eqb (length c.outputs) 256) _
      (bars_and (eqb (length c.inputs) 256) (eqb (length c.outputs) 256) (bars_not (shows_eqb (length c.inputs) 256))
      (bars_not (shows_eqb (length c.outputs) 256))) k₁
      (λ k₂. steps (eqb (length s % 6) 0 && leb (length s) 6000) (all (listed_at s) n 0) (ordered_of s n) _
      (bars_and (eqb (length s % 6) 0) (leb (length s) 6000) (bars_not (shows_eqb (length s % 6) 0)) (bars_leb (length s) 6000))
      (bars_all (listed_at s) (λ i. Not (Listed (line_of s i) (value_of s i)))
      (λ i. bars_not (listed_shows (line_of s i) (value_of s i))) n)
      (ordered_bars s n) k₂
      (λ k₃. step TooManyStates (leb c.states 8192) _ (bars_leb c.states 8192) k₃
      (λ k₄. step TraceShort (leb (8 * c.states) (length c.trace)) _ (bars_leb (8 * c.states) (length c.trace)) k₄
      (λ k₅. step IllFormed (well_of c.machine) _ (well_bars c.machine) k₅
      (final (leb (c.machine.clock + c.states) 4294967295) (bars_leb (c.machine.clock + c.states) 4294967295)))))))
