-- What the exported functions promise: the number that they return, and every number of every store and every record of the roll, as
-- functions of what was lent.
use Rattle.std.specs.Prelude.{◌≡◌, Bool, cond, List, ◌∷◌, ℕ, leb, length, drop, ℤ}
use Rattle.sets.specs.Outcomes.{Result, Ok, Err, refusal_number, outcome_number}
use Rattle.removal.specs.declared.Placed.{Placed}
use Rattle.removal.specs.Alone.{side, rows_placed, refused_at_once, answer_of_alone, first_by, second_by}
use Rattle.method.specs.declared.Record.{Record}
use Rattle.method.specs.Entry.{Run}
use Rattle.attempts.specs.declared.Answer.{Answer}
use Rattle.zimbralosa.specs.Entries.{answer_as}

-- ---- the region
-- states, attempts, states formed and rows at the front; nothing where they do not fit
unfoldable pub counts_after : Answer → List ℕ → List ℕ
counts_after a c = cond (leb 4 (length c)) (a.states ∷ a.attempts ∷ a.formed ∷ a.rows ∷ drop 4 c) c

pub record Counted (a : Answer) (c c' : List ℕ) (n : ℕ) : Type 0 where
  pub number : n ≡ outcome_number a.outcome
  pub counts : c' ≡ counts_after a c

pub record RegionCounted (R : Run) (c : List ℕ) (a b s q : List ℤ) (l : List Record) (c' : List ℕ) (n : ℕ) : Type 0 where
  pub number : n ≡ outcome_number R.ending.outcome
  pub counts : c' ≡ counts_after (answer_as R.ending) c
  pub first : a ≡ R.stores.first
  pub second : b ≡ R.stores.second
  pub rows : s ≡ R.stores.rows
  pub result : q ≡ R.stores.result
  pub roll : l ≡ R.stores.roll

-- ---- the removal
-- 1 where the rows stand in the second store and 0 in the first, then how many they are; nothing where the two do not fit
abbrev pub bit : Bool → ℕ
bit second = cond second 1 0

unfoldable pub placed_after : Result Placed → List ℕ → List ℕ
placed_after p c = cond (leb 2 (length c)) (bit (side p) ∷ rows_placed p ∷ drop 2 c) c

-- the number of the outcome
abbrev pub placed_number : Result Placed → ℕ
placed_number (Ok s) = 0
placed_number (Err r) = refusal_number r

pub record Told (p : Result Placed) (c c' : List ℕ) (n : ℕ) : Type 0 where
  pub number : n ≡ placed_number p
  pub answer : c' ≡ placed_after p c

pub record RemovalTold (count : ℕ) (vs : List ℕ) (a b : List ℤ) (c : List ℕ) (a' b' : List ℤ) (c' : List ℕ) (n : ℕ) : Type 0 where
  pub number : n ≡ placed_number (answer_of_alone count vs a b)
  pub answer : c' ≡ placed_after (answer_of_alone count vs a b) c
  pub first : a' ≡ first_by (refused_at_once count vs a b) count vs a
  pub second : b' ≡ second_by (refused_at_once count vs a b) count vs a b
