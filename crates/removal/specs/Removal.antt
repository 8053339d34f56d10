-- Removing variables (rules, "Rows and sets"): rows with entry 0 are kept, every row above zero is paired with every row below.
use Rattle.std.specs.Prelude.{List, [], ◌∷◌, ◌++◌, ℕ, ℤ}
use Rattle.integers.specs.Lists.{filter, pairs}
use Rattle.integers.specs.Signs.{is_zero, isAbove, isBelow}
use Rattle.rows.specs.declared.Row.{Row}
use Rattle.rows.specs.Rows.{at, paired}
use Rattle.sets.specs.Outcomes.{Result, Ok, and_then}
use Rattle.sets.specs.Sets.{joined}

abbrev pub entry : ℕ → Row → ℤ
entry v r = at r.entries v

unfoldable pub untouched : ℕ → List Row → List Row
untouched v rows = filter (λ r. is_zero (entry v r)) rows

unfoldable pub uppers : ℕ → List Row → List Row
uppers v rows = filter (λ r. isAbove (entry v r)) rows

unfoldable pub lowers : ℕ → List Row → List Row
lowers v rows = filter (λ r. isBelow (entry v r)) rows

-- the rows that remain, as they are formed
unfoldable pub remaining : ℕ → List Row → List Row
remaining v rows = untouched v rows ++ pairs (paired v) (uppers v rows) (lowers v rows)

-- ---- as a step on a set: what remains is divided down and made a set, 9 over all of it, then 10
unfoldable pub removed : ℕ → List Row → Result (List Row)
removed v s = joined (remaining v s) []

-- several, in the order given
unfoldable pub all_removed : List ℕ → List Row → Result (List Row)
all_removed [] s = Ok s
all_removed (v ∷ vs) s = and_then (removed v s) (λ t. all_removed vs t)
