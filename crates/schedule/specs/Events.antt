-- The schedule's events and its tests. Source: document 01, "Schedule" and numbers 3, 4 and 5. Cited by `schedule::event` and
-- `schedule::order`. s is the schedule, i an event of it, counted from 0.
use Rattle.std.specs.Prelude.{ℕ, zero, suc, ◌+◌, ◌-◌, ◌*◌, ◌/◌, ◌%◌, Bool, true, false, ◌&&◌, ◌||◌, List, length, get_or, ltb, leb, eqb, Result, Ok, Err}
use Rattle.laws.specs.Choice.{pick}
use Rattle.schedule.specs.declared.order.Fault.{Fault}
use Rattle.schedule.specs.declared.order.Fault.TheVariants.{Length, Value, Order}

-- "An event is 6 bytes: state number (4 bytes, low first), line, value"
unfoldable pub state_number_of : List ℕ → ℕ → ℕ
state_number_of s i =
    get_or s (6 * i) 0 + 256 * get_or s (6 * i + 1) 0 + 65536 * get_or s (6 * i + 2) 0 + 16777216 * get_or s (6 * i + 3) 0

abbrev pub line_of : List ℕ → ℕ → ℕ
line_of s i = get_or s (6 * i + 4) 0

abbrev pub value_of : List ℕ → ℕ → ℕ
value_of s i = get_or s (6 * i + 5) 0

-- "Line 0 READY and line 1 HOLD take 0 (down) or 1 (up). Line 2 INT takes 0 to 7 .. or 8 (down)"
unfoldable pub listed_of : ℕ → ℕ → Bool
listed_of line value = (ltb line 2 && ltb value 2) || (eqb line 2 && ltb value 9)

abbrev pub listed_at : List ℕ → ℕ → Bool
listed_at s i = listed_of (line_of s i) (value_of s i)

-- event i + 1 may follow: "State numbers never fall; at equal state numbers the line codes rise strictly"
unfoldable pub follows_of : List ℕ → ℕ → Bool
follows_of s i =
    ltb (state_number_of s i) (state_number_of s (i + 1))
    || (eqb (state_number_of s i) (state_number_of s (i + 1)) && ltb (line_of s i) (line_of s (i + 1)))

-- the same of two events, each alone in a schedule of its own six bytes
unfoldable pub may_follow : List ℕ → List ℕ → Bool
may_follow d e =
    ltb (state_number_of d 0) (state_number_of e 0) || (eqb (state_number_of d 0) (state_number_of e 0) && ltb (line_of d 0) (line_of e 0))

-- the test holds of the n numbers from i on
unfoldable pub all : (ℕ → Bool) → ℕ → ℕ → Bool
all test zero i = true
all test (suc n) i = pick (test i) (all test n (i + 1)) false

-- each of n events but the first follows the one before it
unfoldable pub ordered_of : List ℕ → ℕ → Bool
ordered_of s n = all (follows_of s) (n - 1) 0

-- the tests in their order: 3 "length is no multiple of 6, or over 6,000", 4 "an event's line or value is outside the list",
-- 5 "the events' order is broken"
unfoldable pub checked_of : List ℕ → Result (Unit {0}) Fault
checked_of s =
    pick (eqb (length s % 6) 0 && leb (length s) 6000)
    (pick (all (listed_at s) (length s / 6) 0) (pick (ordered_of s (length s / 6)) (Ok tt) (Err Order)) (Err Value))
    (Err Length)
