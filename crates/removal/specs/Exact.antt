-- What "removing a variable is exact over the rationals" says (demand 2). A point of width w is a denominator above zero and a
-- numerator for each variable 1 to w − 1: variable i has the rational value p i / p 0.
use Rattle.std.specs.Prelude.{◌≡◌, ◌≢◌, List, ℕ, ℤ, pos, ◌*ℤ◌, ◌<ℤ◌, length}
use Rattle.integers.specs.Lists.{All}
use Rattle.rows.specs.declared.Row.{Row}
use Rattle.rows.specs.Rows.{at, Holds}

pub record Point (w : ℕ) (p : List ℤ) : Type 0 where
  pub size : length p ≡ w
  pub positive : pos 0 <ℤ at p 0

abbrev pub Meets : List ℤ → List Row → Type 0
Meets p rows = All (Holds p) rows

-- q gives every variable outside vs the value that p gives it: q i / q 0 = p i / p 0
pub record SameBut (vs : List ℕ) (p q : List ℤ) : Type 0 where
  pub sizes : length q ≡ length p
  pub same : (i : ℕ) → All (λ v. i ≢ v) vs → at p 0 *ℤ at q i ≡ at q 0 *ℤ at p i

-- some values of the variables vs, with p's values of the others, meet the rows
pub record Values (rows : List Row) (w : ℕ) (vs : List ℕ) (p : List ℤ) : Type 0 where
  pub point : List ℤ
  pub is_point : Point w point
  pub same_but : SameBut vs p point
  pub holds : Meets point rows
