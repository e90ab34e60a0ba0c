-- Waits and holds as unbroken rows, and what they add to the cycles of an instruction. Source: document 01, "Waits, holds,
-- interrupts, halt". Cited by the legs of a run.
use Rattle.std.specs.Prelude.{ℕ, ◌+◌, ◌-◌, ◌<◌, ◌≡◌, Bool, true, false, List, [], ◌∷◌}
use Rattle.opcodes.specs.Kinds.{states_of, waits_of}
use Rattle.demands.specs.Outside.{Outside, down, up}

-- f is true in the n states from t on
abbrev pub Through : (ℕ → Bool) → ℕ → ℕ → Type 0
Through f t n = (i : ℕ) → i < n → f (t + i) ≡ true

-- an unbroken row of n states from t on: f is true in them, and then false
abbrev pub Unbroken : (ℕ → Bool) → ℕ → ℕ → Type 0
Unbroken f t n = Through f t n × (f (t + n) ≡ false)

-- "The waits of a cycle equal the number of states in an unbroken row, from T2 on, with READY down"; T2 is the state t, and b
-- says whether READY counts in the cycle
abbrev pub Waits : Bool → Outside → ℕ → ℕ → Type 0
Waits true E t n = Unbroken (down E) t n
Waits false E t n = n ≡ 0

-- cycles with these codes, begun in the state t, have w waits and h holds: of each cycle its waits, and "The holds that follow
-- equal the number of states in an unbroken row, from that one on, with HOLD up", that one being the cycle's last state
pub data Forced (E : Outside) : List ℕ → ℕ → ℕ → ℕ → Type 0 where
  none : {t : ℕ} → Forced E [] t 0 0
  one : {code : ℕ} {cs : List ℕ} {t w h : ℕ} (W H : ℕ) → Waits (waits_of code) E (t + 1) W
      → Unbroken (up E) (t + (states_of code + W - 1)) H → Forced E cs (t + (states_of code + W + H)) w h
      → Forced E (code ∷ cs) t (W + w) (H + h)
