-- Removal between two lent stores, and removal called alone (rules, "Rows and sets" and "Numbers of the outcomes").
use Rattle.std.specs.Prelude.{◌≡◌, Bool, true, false, not, cond, ◌&&◌, ◌||◌, List, [], ◌∷◌, ◌++◌, ℕ, ◌+◌, ◌*◌, ◌≤◌, leb, ltb, length, take, drop, get_or, ℤ, pos, ⊤}
use Rattle.std.specs.Borrow.{Bor, MutBor}
use Rattle.integers.specs.Lists.{All, every, from}
use Rattle.integers.specs.Signs.{is_zero}
use Rattle.rows.specs.declared.Row.{Row}
use Rattle.rows.specs.Rows.{entry_count, row_numbers, set_rows, set_numbers, kept, divided_down, is_one}
use Rattle.sets.specs.declared.Refusal.TheVariants.{Undeclared, TooManyRows, ShortStore}
use Rattle.sets.specs.Outcomes.{Outcome, Ok, Err, Result, and_then}
use Rattle.sets.specs.Stores.{Joined, numbers_of, rows_at, set_in, zeroed, with_rows, HoldsSet, Touched}
use Rattle.sets.specs.Sets.{joined}
use Rattle.removal.specs.declared.Placed.{Placed}
use Rattle.removal.specs.Removal.{all_removed}

-- ---- a set in one of two stores
abbrev pub pick : {A : Type 0} → Bool → A → A → A
pick second a b = cond second b a

-- each removal moves the set to the other store
abbrev pub side_after : Bool → List ℕ → Bool
side_after second [] = second
side_after second (v ∷ vs) = side_after (not second) vs

-- where it stands, with so many rows; or the refusal
abbrev pub placed : Bool → Result (List Row) → Result Placed
placed second (Ok t) = Ok (record { rows = length t; second = second })
placed second (Err r) = Err r

-- a step's answer, with the store that it wrote
abbrev pub placed_as : Bool → Joined → Result Placed
placed_as second (Ok n) = Ok (record { rows = n; second = second })
placed_as second (Err r) = Err r

-- a refusal has no rows, and counts as standing in the first
abbrev pub side : Result Placed → Bool
side (Ok s) = s.second
side (Err r) = false

abbrev pub rows_placed : Result Placed → ℕ
rows_placed (Ok s) = s.rows
rows_placed (Err r) = 0

-- the set that an answer speaks of, or its refusal
abbrev pub standing : List ℤ → List ℤ → Result Placed → Result (List Row)
standing a b (Ok s) = Ok (set_in (pick s.second a b) s.rows)
standing a b (Err r) = Err r

-- a set of rows that are divided down stands at the front
pub record DividedSet (s : List ℤ) (n : ℕ) : Type 0 where
  pub holds : HoldsSet s n
  pub divided : All (λ r. divided_down r ≡ kept r) (set_in s n)

abbrev pub Standing : List ℤ → List ℤ → Result Placed → Type 0
Standing a b (Ok s) = DividedSet (pick s.second a b) s.rows
Standing a b (Err r) = ⊤

-- two stores that take any set, one of which holds a set unless a step was refused
pub record Between (a b : List ℤ) (s : Result Placed) : Type 0 where
  pub first_long : set_numbers ≤ length a
  pub second_long : set_numbers ≤ length b
  pub stands : Standing a b s

-- the set found stands at the front of its store
abbrev pub Front : Result (List Row) → List ℤ → Type 0
Front (Ok t) s = take (length t * row_numbers) s ≡ numbers_of t
Front (Err r) s = Unit {0}

-- what several removals leave: the answer, the set in its store, and nothing touched beyond the first 2,176 numbers of either
pub record Moved (second : Bool) (x : Result (List Row)) (a b a' b' : List ℤ) (r : Result Placed) : Type 0 where
  pub answer : r ≡ placed second x
  pub front : Front x (pick second a' b')
  pub first_touched : Touched a a'
  pub second_touched : Touched b b'

-- ---- called alone: `count` rows at the front of the first store, and the variables to remove, in order
-- 13: a store takes no set
abbrev pub short : List ℤ → List ℤ → Bool
short a b = ltb (length a) set_numbers || ltb (length b) set_numbers

-- 5: a flag of a given row is neither 0 nor 1, or a variable number is outside 1 to 15
abbrev pub is_flag : ℤ → Bool
is_flag z = is_zero z || is_one z

unfoldable pub flags_fit : List ℤ → ℕ → Bool
flags_fit a count = every (λ i. is_flag (get_or a (i * row_numbers + entry_count) (pos 0))) (from 0 count)

abbrev pub is_variable : ℕ → Bool
is_variable v = leb 1 v && ltb v entry_count

-- the refusals that change nothing, in their order
unfoldable pub refused_at_once : ℕ → List ℕ → List ℤ → List ℤ → Outcome
refused_at_once count vs a b =
    cond (short a b) (Err ShortStore)
    (cond (ltb set_rows count) (Err TooManyRows)
    (cond (flags_fit a count && every is_variable vs) (Ok tt) (Err Undeclared)))

-- the rows divided down and made a set, then the removals
unfoldable pub alone : ℕ → List ℕ → List ℤ → Result (List Row)
alone count vs a = and_then (joined (rows_at a 0 count) []) (all_removed vs)

-- a store afterwards: the rows that were found here and then zeros, or all zeros
abbrev pub store_after : Bool → Result (List Row) → List ℤ → List ℤ
store_after true (Ok t) s = with_rows t (zeroed s)
store_after false (Ok t) s = zeroed s
store_after here (Err r) s = zeroed s

-- what clearing leaves of a store: the first n rows where they were found here, and zeros
abbrev pub tidied : Bool → ℕ → List ℤ → List ℤ
tidied true n s = take (n * row_numbers) s ++ drop (n * row_numbers) (zeroed s)
tidied false n s = zeroed s

pub record Tidied (s : Result Placed) (a b a' b' : List ℤ) : Type 0 where
  pub first : a' ≡ tidied (not (side s)) (rows_placed s) a
  pub second : b' ≡ tidied (side s) (rows_placed s) b

abbrev pub answer_by : Outcome → ℕ → List ℕ → List ℤ → Result Placed
answer_by (Ok _) count vs a = placed (side_after false vs) (alone count vs a)
answer_by (Err r) count vs a = Err r

abbrev pub first_by : Outcome → ℕ → List ℕ → List ℤ → List ℤ
first_by (Ok _) count vs a = store_after (not (side_after false vs)) (alone count vs a) a
first_by (Err r) count vs a = a

abbrev pub second_by : Outcome → ℕ → List ℕ → List ℤ → List ℤ → List ℤ
second_by (Ok _) count vs a b = store_after (side_after false vs) (alone count vs a) b
second_by (Err r) count vs a b = b

abbrev pub answer_of_alone : ℕ → List ℕ → List ℤ → List ℤ → Result Placed
answer_of_alone count vs a b = answer_by (refused_at_once count vs a b) count vs a

-- the numbers of the rows found; none on a refusal
abbrev pub numbers_of_result : Result (List Row) → List ℤ
numbers_of_result (Ok t) = numbers_of t
numbers_of_result (Err r) = []

-- the whole contract: the answer, and every number of both stores
pub record RemovedAlone (count : ℕ) (vs : List ℕ) (a b a' b' : List ℤ) (r : Result Placed) : Type 0 where
  pub answer : r ≡ answer_of_alone count vs a b
  pub first : a' ≡ first_by (refused_at_once count vs a b) count vs a
  pub second : b' ≡ second_by (refused_at_once count vs a b) count vs a b

-- ---- the part of the store that ended with the rows; an answer that does not fit its store has none
unfoldable pub part_end : ℕ → ℕ → ℕ
part_end long rows = cond (leb rows set_rows && leb (rows * row_numbers) long) (rows * row_numbers) 0

-- what a `&mut` points to and where, as a `&` shows it
abbrev pub as_shared : {A : Type 0} → MutBor A → Bor A
as_shared x = record { ref_ptr = x.ref_ptr; now = x.now }

pub record PartIs (a b : Bor (List ℤ)) (r : Result Placed) (p : Bor (List ℤ)) : Type 0 where
  pub numbers : p.now ≡ take (part_end (length (pick (side r) a.now b.now)) (rows_placed r)) (pick (side r) a.now b.now)
  pub place : p.ref_ptr ≡ pick (side r) a.ref_ptr b.ref_ptr

-- the removal that hands back the part: its outcome, the part's numbers, and where it lies; a refusal has an empty part
abbrev pub outcome_of : Result Placed → Outcome
outcome_of (Ok s) = Ok tt
outcome_of (Err r) = Err r

abbrev pub numbers_found : Result Placed → ℕ → List ℕ → List ℤ → List ℤ
numbers_found (Ok s) count vs a = numbers_of_result (alone count vs a)
numbers_found (Err r) count vs a = []

pub record RemovedPart (count : ℕ) (vs : List ℕ) (a b : Bor (List ℤ)) (outcome : Outcome) (p : Bor (List ℤ)) : Type 0 where
  pub answer : outcome ≡ outcome_of (answer_of_alone count vs a.now b.now)
  pub numbers : p.now ≡ numbers_found (answer_of_alone count vs a.now b.now) count vs a.now
  pub place : p.ref_ptr ≡ pick (side (answer_of_alone count vs a.now b.now)) a.ref_ptr b.ref_ptr
