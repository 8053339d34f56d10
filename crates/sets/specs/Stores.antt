-- Rows in lent stores (rules, "Rows and sets" and "Numbers of the outcomes"): 17 numbers a row, from the front.
use Rattle.std.specs.Prelude.{◌≡◌, List, [], ◌∷◌, ◌++◌, ℕ, zero, suc, ◌+◌, ◌*◌, ◌/◌, ◌≤◌, length, take, drop, replicate, ℤ, pos, ⊤}
use Rattle.integers.specs.Lists.{All}
use Rattle.rows.specs.declared.Row.{Row}
use Rattle.rows.specs.declared.Fate.{Fate}
use Rattle.rows.specs.declared.Fate.TheVariants.{Kept, Gone, TooLarge}
use Rattle.rows.specs.Rows.{row_numbers, set_rows, set_numbers, Small, divided_down, numbers, row_at}
use Rattle.sets.specs.Outcomes.{Result, Ok, Err}
use Rattle.sets.specs.declared.Refusal.TheVariants.{EntryTooLarge}
use Rattle.sets.specs.Sets.{InOrder, insert, within_limit}

-- the numbers of a list of rows, one row after the other
unfoldable pub numbers_of : List Row → List ℤ
numbers_of [] = []
numbers_of (r ∷ rs) = numbers r ++ numbers_of rs

-- n rows that stand in a store from an offset
unfoldable pub rows_at : List ℤ → ℕ → ℕ → List Row
rows_at s at zero = []
rows_at s at (suc n) = row_at s at ∷ rows_at s (at + row_numbers) n

-- how many numbers a store's whole rows have
abbrev pub whole_numbers : List ℤ → ℕ
whole_numbers s = length s / row_numbers * row_numbers

-- "all zeros": its whole rows; the numbers beyond the last whole row are never touched
unfoldable pub zeroed : List ℤ → List ℤ
zeroed s = replicate (whole_numbers s) (pos 0) ++ drop (whole_numbers s) s

-- rows at the front of a store, the rest as it was
unfoldable pub with_rows : List Row → List ℤ → List ℤ
with_rows rs s = numbers_of rs ++ drop (length (numbers_of rs)) s

-- ---- what stands in a store
abbrev pub set_in : List ℤ → ℕ → List Row
set_in s n = rows_at s 0 n

-- n rows stand from an offset on, number for number: there is room for them, and every flag is 0 or 1
pub record Stands (s : List ℤ) (at n : ℕ) : Type 0 where
  pub room : at + n * row_numbers ≤ length s
  pub same : take (n * row_numbers) (drop at s) ≡ numbers_of (rows_at s at n)

-- a set of n rows stands at the front of a store that takes any set
pub record HoldsSet (s : List ℤ) (n : ℕ) : Type 0 where
  pub long : set_numbers ≤ length s
  pub few : n ≤ set_rows
  pub stands : Stands s 0 n
  pub ordered : InOrder (set_in s n)
  pub small : All (λ r. Small r.entries) (set_in s n)

-- ---- what a step on a set leaves: its rows counted, or the refusal; and the store that it wrote
abbrev pub Joined : Type 0
Joined = Result ℕ

abbrev pub answer_of : Result (List Row) → Joined
answer_of (Ok t) = Ok (length t)
answer_of (Err r) = Err r

-- only the first 2,176 numbers may have changed
pub record Touched (s s' : List ℤ) : Type 0 where
  pub long : length s' ≡ length s
  pub beyond : drop set_numbers s' ≡ drop set_numbers s

-- found: the set at the front, the rest as it was. Refused: whoever asked for the step clears the store
abbrev pub StoreAfter : Result (List Row) → List ℤ → List ℤ → Type 0
StoreAfter (Ok t) s s' = s' ≡ with_rows t s
StoreAfter (Err r) s s' = Touched s s'

pub record Left (x : Result (List Row)) (s s' : List ℤ) (r : Joined) : Type 0 where
  pub answer : r ≡ answer_of x
  pub store : StoreAfter x s s'

-- ---- joining row by row: the set so far, or a refusal. Once the set is too large only 9 can still come
abbrev pub next : Fate → Row → Result (List Row) → Result (List Row)
next Kept r (Ok t) = within_limit (insert r t)
next Kept r (Err q) = Err q
next Gone r x = x
next TooLarge r x = Err EntryTooLarge

-- rows that join one after the other
unfoldable pub put_all : List Row → Result (List Row) → Result (List Row)
put_all [] x = x
put_all (r ∷ rs) x = put_all rs (next (divided_down r).fate (divided_down r).row x)

-- what an answer says of the store
abbrev pub progress : List ℤ → Joined → Result (List Row)
progress s (Ok n) = Ok (set_in s n)
progress s (Err q) = Err q

abbrev pub StandingBy : List ℤ → Joined → Type 0
StandingBy s (Ok n) = HoldsSet s n
StandingBy s (Err q) = ⊤

-- a further row may be put: the store takes any set, and holds one unless a step was refused
pub record Ready (s : List ℤ) (c : Joined) : Type 0 where
  pub long : set_numbers ≤ length s
  pub holds : StandingBy s c
