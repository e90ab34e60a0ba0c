-- A cycle that is over: what is done so far, and what is left. Here cycles count from 0. Assumes nothing.
use Prim.Native.Nat.{ℕ, suc, ◌+◌, ◌-◌}
use mathlib.Core.Path.{◌≡◌, refl, sym, ap, ap₂, ◌∙◌, subst}
use mathlib.Core.Bool.{Bool, true}
use mathlib.Core.List.{List, ◌∷◌}
use native.Mathlib.Omega.{arith}
use lib.Dec.{T}
use Rattle.laws.proofs.Tests.{true→T}
use Rattle.opcodes.specs.Codes.{fetch4}
use Rattle.opcodes.specs.Cycles.{code_of, defined_of}
use Rattle.opcodes.specs.Kinds.{states_of, waits_of}
use Rattle.opcodes.specs.Totals.{total_of, shape}
use Rattle.demands.specs.Outside.{Outside, Moment, did_times, up}
use Rattle.demands.specs.Rows.{Unbroken, Waits, Forced, one}
use Rattle.demands.proofs.Work.{Work, use_cycle, uses}
use Rattle.demands.specs.Board.{Board}
use Rattle.demands.specs.Own.{own}
use Rattle.demands.proofs.Stretches.{clock_pass, pass_add, row_one, waits_one}
use Rattle.demands.proofs.Steps.{size}
use Rattle.demands.proofs.Courses.{drop_next, code_at, Shaped, shape_parts, later_rest, course_shape}
use Rattle.demands.proofs.Phases.{Over}
use Rattle.demands.proofs.Fetches.{fetch_waits, fetch_same, fetch_opcode}
use Rattle.demands.proofs.Opcode.{use_opcode, use_flags, use_inte}
use Rattle.demands.proofs.Going.{Rest, op, cs, after_fetch, Sofar}

-- one cycle more stands in front of those that are left
pub more_forced : (E : Outside) (x : ℕ) (l : List ℕ) (t u W H w h s : ℕ) → Waits (waits_of x) E (t + 1) W → states_of x ≡ s
    → Unbroken (up E) (t + (s + W - 1)) H → u ≡ t + (s + W + H) → Forced E l u w h → Forced E (x ∷ l) t (W + w) (H + h)
more_forced E x l t u W H w h s a e r q f =
    one W H a (subst (λ (z : ℕ). Unbroken (up E) (t + (z + W - 1)) H) (sym e) r)
    (subst (λ (z : ℕ). Forced E l z w h) (q ∙ ap (λ (z : ℕ). t + (z + W + H)) (sym e)) f)

-- and taken away again
pub less_forced : (E : Outside) (x : ℕ) (l : List ℕ) (t u W H s w h : ℕ) → Waits (waits_of x) E (t + 1) W → states_of x ≡ s
    → Unbroken (up E) (t + (s + W - 1)) H → u ≡ t + (s + W + H) → Forced E (x ∷ l) t w h → Rest E l u W H w h
less_forced E x l t u W H s _ _ a e r q (one {w = w} {h = h} W' H' a' r' f) =
    let p : W' ≡ W = waits_one (waits_of x) E (t + 1) W' W a' a in
    let z : t + (states_of x + W' - 1) ≡ t + (s + W - 1) = ap₂ (λ i j. t + (i + j - 1)) e p in
    let k : H' ≡ H = row_one (up E) (t + (s + W - 1)) H' H (subst (λ (i : ℕ). Unbroken (up E) i H') z r') r in
    record {
      waits = w;
      holds = h;
      forced =
          subst (λ (i : ℕ). Forced E l i w h) (let y : t + (states_of x + W' + H') ≡ u = omega arith in y) f;
      all_waits = omega arith;
      all_holds = omega arith;
    }

-- the states of the first cycle
pub first_states : (E : Outside) (d₀ : Work) (x : ℕ) (l : List ℕ) → defined_of (op E d₀) ≡ true → cs E d₀ ≡ x ∷ l
    → states_of x ≡ size 0 (op E d₀)
first_states E d₀ x l d e = sym (ap states_of (code_at (op E d₀) (true→T (defined_of (op E d₀)) d) d₀.regs.f 0 x l e))

module _ (E : Outside) (d₀ : Work) (t₀ : Moment) where
  -- the first cycle is over
  pub over_first : (x : ℕ) (l : List ℕ) → defined_of (op E d₀) ≡ true → cs E d₀ ≡ x ∷ l → {b : Board} {i o : ℕ}
      → Over E (after_fetch E d₀) 0 fetch4 (size 0 (op E d₀)) t₀ b i o
      → Sofar E d₀ t₀ 0 (after_fetch E d₀) (did_times E (suc i) t₀) (suc i) (own b.machine.next + o) x l
  over_first x l d e {b} {i} {o} v =
      let s : Shaped x l = shape_parts x l (subst (λ (z : List ℕ). T (shape z)) e (course_shape (op E d₀) d₀.regs.f d)) in
      let n = first_states E d₀ x l d e in
      let total : total_of (cs E d₀) ≡ states_of x + total_of l = ap total_of e in
      record {
        defined = d;
        place = e;
        opcode = fetch_opcode E d₀;
        flags = use_flags E fetch4 0 d₀;
        inte = use_inte E fetch4 0 d₀;
        work =
            ap (uses E 1 l) (sym (fetch_same E x d₀ s.fetches s.first)) ∙ ap (λ (z : List ℕ). uses E 0 z d₀) (sym e);
        moment = refl;
        owned = omega (arith, v.owned, n, total);
        later = s.others;
        w = v.W;
        h = v.H;
        count = omega (arith, v.count, v.owned);
        close =
            λ w h f.
            subst (λ (z : List ℕ). Forced E z t₀.clock (v.W + w) (v.H + h)) (sym e)
            (more_forced E x l t₀.clock _ v.W v.H w h (size 0 (op E d₀))
            (subst (λ (z : Bool). Waits z E (t₀.clock + 1) v.W) (sym (fetch_waits x s.fetches s.first)) v.waits) n
            v.holds (clock_pass E (suc i) t₀ ∙ ap (λ (z : ℕ). t₀.clock + z) v.count) f);
        apart =
            λ w h f.
            less_forced E x l t₀.clock _ v.W v.H (size 0 (op E d₀)) w h
            (subst (λ (z : Bool). Waits z E (t₀.clock + 1) v.W) (sym (fetch_waits x s.fetches s.first)) v.waits) n
            v.holds (clock_pass E (suc i) t₀ ∙ ap (λ (z : ℕ). t₀.clock + z) v.count)
            (subst (λ (z : List ℕ). Forced E z t₀.clock w h) e f);
      }

  module _ (c : ℕ) (d : Work) (t : Moment) (i₀ o₀ x y : ℕ) (l : List ℕ) (s : Sofar E d₀ t₀ c d t i₀ o₀ x (y ∷ l)) where
    -- the code of a later cycle, and its states
    pub code_is : code_of d.kept.opcode (suc (suc c)) ≡ y
    code_is =
        ap (λ (z : ℕ). code_of z (suc (suc c))) s.opcode
        ∙ code_at (op E d₀) (true→T (defined_of (op E d₀)) s.defined) d₀.regs.f (suc c) y l
        (drop_next (cs E d₀) c x (y ∷ l) s.place)

    pub size_is : size (suc c) (use_cycle E y (suc c) d).kept.opcode ≡ states_of y
    size_is = ap (size (suc c)) (use_opcode E y c d) ∙ ap states_of code_is

    -- it is over
    pub over_later : {b : Board} {i o : ℕ} → Over E (use_cycle E y (suc c) d) (suc c) y (states_of y) t b i o
        → Sofar E d₀ t₀ (suc c) (use_cycle E y (suc c) d) (did_times E (suc i) t) (i₀ + suc i) (o₀ + (own b.machine.next + o)) y l
    over_later {b} {i} {o} v =
        record {
          defined = s.defined;
          place = drop_next (cs E d₀) c x (y ∷ l) s.place;
          opcode = use_opcode E y c d ∙ s.opcode;
          flags = use_flags E y (suc c) d ∙ s.flags;
          inte = use_inte E y (suc c) d ∙ s.inte;
          work = s.work;
          moment = ap (did_times E (suc i)) s.moment ∙ sym (pass_add E i₀ (suc i) t₀);
          owned = omega (arith, s.owned, v.owned);
          later = later_rest y l s.later;
          w = s.w + v.W;
          h = s.h + v.H;
          count = omega (arith, s.count, v.count, v.owned);
          close =
              λ w h f.
              subst (λ (z : ℕ). Forced E (cs E d₀) t₀.clock z (s.h + v.H + h))
              (let z : s.w + (v.W + w) ≡ s.w + v.W + w = omega arith in z)
              (subst (λ (z : ℕ). Forced E (cs E d₀) t₀.clock (s.w + (v.W + w)) z)
              (let z : s.h + (v.H + h) ≡ s.h + v.H + h = omega arith in z)
              (s.close (v.W + w) (v.H + h)
              (more_forced E y l t.clock _ v.W v.H w h (states_of y) v.waits refl v.holds
              (clock_pass E (suc i) t ∙ ap (λ (z : ℕ). t.clock + z) v.count) f)));
          apart =
              λ w h f.
              let p = s.apart w h f in
              let q =
              less_forced E y l t.clock _ v.W v.H (states_of y) p.waits p.holds v.waits refl v.holds
              (clock_pass E (suc i) t ∙ ap (λ (z : ℕ). t.clock + z) v.count) p.forced in
              record {
                waits = q.waits;
                holds = q.holds;
                forced = q.forced;
                all_waits = omega (arith, p.all_waits, q.all_waits);
                all_holds = omega (arith, p.all_holds, q.all_holds);
              };
        }
