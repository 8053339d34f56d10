-- Sets of rows (rules, "Rows and sets"): a list of rows in order with no row twice.
use Rattle.std.specs.Prelude.{◌≡◌, Bool, true, false, cond, ◌&&◌, ◌||◌, List, [], ◌∷◌, ℕ, suc, leb, length, ℤ}
use Rattle.rows.specs.declared.Row.{Row}
use Rattle.rows.specs.declared.Fate.{Fate}
use Rattle.rows.specs.declared.Fate.TheVariants.{Kept, Gone, TooLarge}
use Rattle.rows.specs.declared.Settled.{Settled}
use Rattle.std.specs.declared.cmp.Ordering.{Ordering}
use Rattle.std.specs.declared.cmp.Ordering.TheVariants.{Less, Equal, Greater}
use Rattle.rows.specs.Rows.{set_rows, false_row, divided_down, number_order, row_order}
pub use Rattle.rows.specs.Rows.{is_same}
unfoldable pub use Rattle.rows.specs.Rows.{same_row}
use Rattle.std.specs.declared.option.Option.{Option}
use Rattle.std.specs.declared.option.Option.TheVariants.{None, Some}
use Rattle.sets.specs.declared.Refusal.TheVariants.{EntryTooLarge, TooManyRows}
use Rattle.sets.specs.Outcomes.{Result, Ok, Err, and_then}

-- what a set is: each row stands before the next
pub data InOrder : List Row → Type 0 where
  none : InOrder []
  one : {r : Row} → InOrder (r ∷ [])
  more : {r s : Row} {l : List Row} → row_order r s ≡ Less → InOrder (s ∷ l) → InOrder (r ∷ s ∷ l)

-- ---- a row put where it belongs, unless it stands there: r against the first row s, `behind` is r put into the rest
abbrev pub place : Ordering → Row → Row → List Row → List Row → List Row
place Less r s rest behind = r ∷ s ∷ rest
place Equal r s rest behind = s ∷ rest
place Greater r s rest behind = s ∷ behind

unfoldable pub insert : Row → List Row → List Row
insert r [] = r ∷ []
insert r (s ∷ rest) = let behind = insert r rest in place (row_order r s) r s rest behind

-- where that is: none where the row stands there, or so many rows stand before it
abbrev pub behind : Option ℕ → Option ℕ
behind None = None
behind (Some i) = Some (suc i)

abbrev pub place_by : Ordering → Option ℕ → Option ℕ
place_by Less rest = Some 0
place_by Equal rest = None
place_by Greater rest = behind rest

unfoldable pub place_of : Row → List Row → Option ℕ
place_of r [] = Some 0
place_of r (s ∷ rest) = place_by (row_order r s) (place_of r rest)

-- ---- rows joined to a set: each divided down and put in its place, 9 judged over all of them; then 10
abbrev pub put : Fate → Row → List Row → Result (List Row)
put Kept r s = Ok (insert r s)
put Gone r s = Ok s
put TooLarge r s = Err EntryTooLarge

abbrev pub put_settled : Settled → List Row → Result (List Row)
put_settled x s = put x.fate x.row s

unfoldable pub joined_all : List Row → List Row → Result (List Row)
joined_all [] s = Ok s
joined_all (r ∷ rs) s = and_then (put_settled (divided_down r) s) (λ t. joined_all rs t)

unfoldable pub within_limit : List Row → Result (List Row)
within_limit s = cond (leb (length s) set_rows) (Ok s) (Err TooManyRows)

unfoldable pub joined : List Row → List Row → Result (List Row)
joined rs s = and_then (joined_all rs s) within_limit

-- ---- tests on sets
unfoldable pub stands_in : Row → List Row → Bool
stands_in r [] = false
stands_in r (s ∷ rest) = same_row r s || stands_in r rest

unfoldable pub same_rows : List Row → List Row → Bool
same_rows [] [] = true
same_rows [] (s ∷ ss) = false
same_rows (r ∷ rs) [] = false
same_rows (r ∷ rs) (s ∷ ss) = same_row r s && same_rows rs ss

-- the same numbers, one by one
unfoldable pub same_numbers : List ℤ → List ℤ → Bool
same_numbers [] [] = true
same_numbers [] (y ∷ ys) = false
same_numbers (x ∷ xs) [] = false
same_numbers (x ∷ xs) (y ∷ ys) = is_same (number_order x y) && same_numbers xs ys

-- a false row, 1 ≤ 0, stands in it
abbrev pub any_false : List Row → Bool
any_false s = stands_in false_row s
