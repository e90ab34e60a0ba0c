-- Places in a list of cycles: which code a cycle has, which cycle comes after it, and the parts of the shape of a course.
-- Here cycles count from 0. Assumes nothing.
use Prim.Native.Nat.{ℕ, zero, suc, ◌<◌, ◌≤◌}
use mathlib.Core.Path.{◌≡◌, ap, ◌∙◌, subst}
use mathlib.Core.Bool.{Bool, true, false, not, ◌||◌}
use mathlib.Core.List.{List, [], ◌∷◌}
use mathlib.Core.Logic.{◌⊎◌, inl, inr, ⊎_elim}
use native.Mathlib.Omega.{arith}
use borrow.Author.Tests.{le-leb, lt-leb, lt-ltb}
use lib.Dec.{eqb, ltb, leb, T, eqb→eq, leb→le}
use lib.ListN.{length, get_or, drop, length-drop}
use Rattle.laws.proofs.Every.{every, below, and_left, and_right}
use Rattle.laws.proofs.Tests.{or_either, true→T}
use Rattle.opcodes.specs.Condition.{met_of}
use Rattle.opcodes.specs.Instructions.{decode}
use Rattle.opcodes.specs.Cycles.{cycles, code_of, count_of, defined_of, cycling}
use Rattle.opcodes.specs.Kinds.{states_of, is_fetch}
use Rattle.opcodes.specs.Totals.{total_of, later_shape, shape, listed_total}
use Rattle.opcodes.proofs.Counts.{defined_byte, count_few}
use Rattle.opcodes.proofs.Totals.{total_is, shape_is}
use Rattle.machine.specs.Cycle.{after_of, cycles_of}
use Rattle.effect.specs.declared.registers.Registers.{Registers}
use Rattle.demands.specs.Course.{course_of}
use Rattle.demands.proofs.Steps.{next}

-- places in a list
drop_nil : (c code : ℕ) (l : List ℕ) → drop c [] ≡ code ∷ l → ⊥
drop_nil c code l e = omega (arith, length-drop {A = ℕ} c [], ap length e)

drop_at : (cs : List ℕ) (c code : ℕ) (l : List ℕ) → drop c cs ≡ code ∷ l → get_or cs c 0 ≡ code
drop_at [] c code l e = absurd (drop_nil c code l e)
drop_at (x ∷ cs) zero code l e = cc
drop_at (x ∷ cs) (suc c) code l e = drop_at cs c code l e

pub drop_next : (cs : List ℕ) (c code : ℕ) (l : List ℕ) → drop c cs ≡ code ∷ l → drop (suc c) cs ≡ l
drop_next [] c code l e = absurd (drop_nil c code l e)
drop_next (x ∷ cs) zero code l e = cc
drop_next (x ∷ cs) (suc c) code l e = drop_next cs c code l e

drop_in : (cs : List ℕ) (c code : ℕ) (l : List ℕ) → drop c cs ≡ code ∷ l → c < length cs
drop_in cs c code l e = omega (arith, length-drop c cs, ap length e)

drop_last : (cs : List ℕ) (c code : ℕ) → drop c cs ≡ code ∷ [] → after_of (length cs) (suc c) ≡ 0
unfolding after_of
drop_last cs c code e =
    rw (le-leb (length cs) (suc c) (let q : length cs ≤ suc c = omega (arith, length-drop c cs, ap length e) in q))

drop_more : (cs : List ℕ) (c x y : ℕ) (l : List ℕ) → drop c cs ≡ x ∷ y ∷ l → after_of (length cs) (suc c) ≡ suc (suc c)
unfolding after_of
drop_more cs c x y l e =
    rw (lt-leb (length cs) (suc c) (let q : suc c < length cs = omega (arith, length-drop c cs, ap length e) in q))
    (omega arith)

-- the cycles with the condition not met are the first of those with it met: a computed test over all opcodes
prefix_right : ℕ → ℕ → Bool
prefix_right op c =
    not (ltb c (count_of op false)) || eqb (get_or (cycles (decode op) true) c 0) (get_or (cycles (decode op) false) c 0)

prefixes_right : ℕ → Bool
prefixes_right op = every (prefix_right op) 5

all_prefixes : T (every prefixes_right 256)
unfolding prefixes_right prefix_right cycling
all_prefixes = tt

module _ (op : ℕ) (t : T (defined_of op)) where
  prefix_false : (c : ℕ) → c < count_of op false → get_or (cycles (decode op) true) c 0 ≡ get_or (cycles (decode op) false) c 0
  unfolding prefixes_right prefix_right
  prefix_false c l =
      eqb→eq _ _
      (subst (λ (x : Bool). T (not x || eqb (get_or (cycles (decode op) true) c 0) (get_or (cycles (decode op) false) c 0)))
      (lt-ltb c (count_of op false) l)
      (below (prefix_right op) 5 (below prefixes_right 256 all_prefixes op (defined_byte op t)) c
      (omega (arith, count_few op t false))))

  prefix : (met : Bool) (c code : ℕ) (l : List ℕ) → drop c (cycles (decode op) met) ≡ code ∷ l
      → get_or (cycles (decode op) true) c 0 ≡ code
  unfolding count_of
  prefix true c code l e = drop_at (cycles (decode op) true) c code l e
  prefix false c code l e =
      prefix_false c (drop_in (cycles (decode op) false) c code l e) ∙ drop_at (cycles (decode op) false) c code l e

  -- the code of the cycle c of a course
  pub code_at : (f c code : ℕ) (l : List ℕ) → drop c (course_of op f) ≡ code ∷ l → code_of op (suc c) ≡ code
  unfolding course_of code_of
  code_at f c code l e = prefix (met_of op f) c code l e

-- the cycle after the last of a course, and after another
pub next_last : (op : ℕ) (r : Registers) (c code : ℕ) → drop c (course_of op r.f) ≡ code ∷ [] → next c op r ≡ 0
unfolding course_of count_of cycles_of
next_last op r c code e = drop_last (course_of op r.f) c code e

pub next_more : (op : ℕ) (r : Registers) (c x y : ℕ) (l : List ℕ) → drop c (course_of op r.f) ≡ x ∷ y ∷ l
    → next c op r ≡ suc (suc c)
unfolding course_of count_of cycles_of
next_more op r c x y l e = drop_more (course_of op r.f) c x y l e

-- the parts of a shape
pub record Shaped (x : ℕ) (xs : List ℕ) : Type 0 where
  pub fetches : T (is_fetch x)
  pub first : (states_of x ≡ 4) ⊎ (states_of x ≡ 5)
  pub others : T (later_shape xs)
  pub bound : total_of (x ∷ xs) ≤ 18

either_size : (x a b : ℕ) → T (eqb (states_of x) a || eqb (states_of x) b) → (states_of x ≡ a) ⊎ (states_of x ≡ b)
either_size x a b t =
    ⊎_elim (λ (q : T (eqb (states_of x) a)). inl (eqb→eq (states_of x) a q))
    (λ (q : T (eqb (states_of x) b)). inr (eqb→eq (states_of x) b q))
    (or_either (eqb (states_of x) a) (eqb (states_of x) b) t)

pub shape_parts : (x : ℕ) (xs : List ℕ) → T (shape (x ∷ xs)) → Shaped x xs
shape_parts x xs s =
    let four : T (eqb (states_of x) 4 || eqb (states_of x) 5) = search (and_left, and_right) in
    let all : T (leb (total_of (x ∷ xs)) 18) = search (and_left, and_right) in
    record {
      fetches = search (and_left, and_right);
      first = either_size x 4 5 four;
      others = search (and_left, and_right);
      bound = leb→le (total_of (x ∷ xs)) 18 all;
    }

pub later_size : (x : ℕ) (xs : List ℕ) → T (later_shape (x ∷ xs)) → (states_of x ≡ 3) ⊎ (states_of x ≡ 5)
later_size x xs s =
    let three : T (eqb (states_of x) 3 || eqb (states_of x) 5) = search (and_left, and_right) in
    either_size x 3 5 three

pub later_rest : (x : ℕ) (xs : List ℕ) → T (later_shape (x ∷ xs)) → T (later_shape xs)
later_rest x xs s = search (and_left, and_right)

-- of an opcode that is defined: the shape of its course, and its total
pub course_shape : (op f : ℕ) → defined_of op ≡ true → T (shape (course_of op f))
unfolding course_of
course_shape op f d = shape_is op (defined_byte op (true→T (defined_of op) d)) d (met_of op f)

pub course_total : (op f : ℕ) → defined_of op ≡ true → total_of (course_of op f) ≡ listed_total (decode op) (met_of op f)
unfolding course_of
course_total op f d = total_is op (defined_byte op (true→T (defined_of op) d)) (met_of op f)

pub shape_some : (cs : List ℕ) → T (shape cs) → 0 < total_of cs
shape_some [] s = absurd s
shape_some (x ∷ l) s = ⊎_elim (λ e. omega arith) (λ e. omega arith) (shape_parts x l s).first

at_most : (cs : List ℕ) → T (shape cs) → total_of cs ≤ 18
at_most [] s = absurd s
at_most (x ∷ l) s = (shape_parts x l s).bound

pub course_bound : (op f : ℕ) → defined_of op ≡ true → total_of (course_of op f) ≤ 18
course_bound op f d = at_most (course_of op f) (course_shape op f d)
