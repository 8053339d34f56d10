-- The answer written (rules, "The hex exchange"): the frame 05, then the region as frames 03 of kind 0.
use Rattle.std.specs.Prelude.{Bool, cond, List, [], ◌∷◌, ◌++◌, ℕ, suc, ◌+◌, ◌≤◌, ◌≡◌, leb, length, take, drop, ℤ, Option, Some, None}
use Rattle.integers.specs.Signs.{is_zero}
use Rattle.rows.specs.declared.Row.{Row}
use Rattle.sets.specs.Outcomes.{Outcome, outcome_number}
use Rattle.frames.specs.declared.answers.Out.{Out}
use Rattle.frames.specs.Hex.{line_of, big_endian, pattern}

-- ---- characters in a lent store: from a place on, the rest as it was
abbrev pub over : List ℕ → ℕ → List ℕ → List ℕ
over cs at to = take at to ++ cs ++ drop (at + length cs) to

-- what a function leaves that writes them, and the place behind them
pub record Wrote (cs : List ℕ) (at : ℕ) (to to' : List ℕ) (next : ℕ) : Type 0 where
  pub place : next ≡ at + length cs
  pub long : length to' ≡ length to
  pub store : to' ≡ over cs at to

-- ---- the same, of the store that the code writes to
abbrev pub Room : List ℕ → Out → Type 0
Room cs o = o.at + length cs ≤ length o.to.now

-- it stays the caller's store
pub record Put (cs : List ℕ) (o o' : Out) : Type 0 where
  pub same : o'.to.ghost_name ≡ o.to.ghost_name
  pub wrote : Wrote cs o.at o.to.now o'.to.now o'.at

-- a term's bytes: its entry number and its coefficient; none where it is 0
abbrev pub term_bytes : ℕ → ℤ → List ℕ
term_bytes i z = cond (is_zero z) [] (i ∷ big_endian 4 (pattern z))

-- a row's terms: entry number and coefficient of each nonzero entry, from entry i on
unfoldable pub terms_of : ℕ → List ℤ → List ℕ
terms_of i [] = []
terms_of i (z ∷ l) = term_bytes i z ++ terms_of (suc i) l

unfoldable pub term_number : List ℤ → ℕ
term_number [] = 0
term_number (z ∷ l) = let rest = term_number l in cond (is_zero z) rest (suc rest)

abbrev pub flag_byte : Bool → ℕ
flag_byte strict = cond strict 1 0

-- kind 03, owner kind 0, owner 0, strict, number of terms; then the terms
abbrev pub row_head : Bool → ℕ → List ℕ
row_head strict terms = 3 ∷ 0 ∷ 0 ∷ flag_byte strict ∷ terms ∷ []

unfoldable pub row_bytes : Row → List ℕ
row_bytes r = row_head r.strict (term_number r.entries) ++ terms_of 0 r.entries

unfoldable pub row_lines : List Row → List ℕ
row_lines [] = []
row_lines (r ∷ rs) = line_of (row_bytes r) ++ row_lines rs

-- states kept in the last attempt, new attempts begun, successors formed
abbrev pub count_bytes : ℕ → ℕ → ℕ → List ℕ
count_bytes states attempts formed = big_endian 2 states ++ big_endian 2 attempts ++ big_endian 4 formed

-- 05, outcome, the counts, rows
unfoldable pub answer_bytes : Outcome → ℕ → ℕ → ℕ → ℕ → List ℕ
answer_bytes outcome states attempts formed rows = 5 ∷ outcome_number outcome ∷ (count_bytes states attempts formed ++ (rows ∷ []))

-- the whole output; on a refusal the region is empty, so rows is 0 and no frame follows
unfoldable pub answer_lines : Outcome → ℕ → ℕ → ℕ → List Row → List ℕ
answer_lines outcome states attempts formed region = line_of (answer_bytes outcome states attempts formed (length region)) ++ row_lines region

-- what the writer leaves: all of it from the front on, the rest as it was; or nothing where there is no room
pub record WrittenIs (cs to to' : List ℕ) (r : Option ℕ) : Type 0 where
  pub count : r ≡ cond (leb (length cs) (length to)) (Some (length cs)) None
  pub store : to' ≡ cond (leb (length cs) (length to)) (over cs 0 to) to
