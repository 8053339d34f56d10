-- The tables gone through row by row: what the rows so far decide, and the rows of an owner. Assumes nothing.
use mathlib.Core.Path.{◌≡◌, refl, sym, ap}
use mathlib.Core.Bool.{Bool, true, false, not, cond, ◌&&◌, ◌||◌}
use mathlib.Core.List.{List, [], ◌∷◌, map}
use Prim.Native.Nat.{ℕ, ◌+◌, ◌≤◌, ◌<◌}
use lib.ListN.{length, get_or, drop}
use Rattle.integers.specs.Lists.{every, filter}
use Rattle.integers.proofs.Loops.{drop_turn, drop-done}
use Rattle.rows.specs.declared.Row.{Row}
use Rattle.sets.specs.declared.Refusal.{Refusal}
use Rattle.sets.specs.declared.Refusal.TheVariants.{Undeclared, WrongTerms}
use Rattle.sets.specs.Outcomes.{Outcome, Ok, Err}
use Rattle.models.specs.declared.Header.{Header}
use Rattle.models.specs.declared.ModelRow.{ModelRow}
use Rattle.models.specs.Automaton.{row_of, is_of}
use Rattle.models.specs.Acceptance.{unless, row_declared, terms_fit, rows_accepted}

-- ---- rows one after the other: the first that is refused
module _ (h : Header) where
  choice : (a b : Bool) (q : Refusal) (rest : Outcome) → unless a Undeclared (unless b WrongTerms (Ok tt)) ≡ Err q → unless a Undeclared (unless b WrongTerms rest) ≡ Err q
  choice true true q rest e = cc
  choice true false q rest e = e
  choice false b q rest e = e

  passes : (a b : Bool) (rest : Outcome) → unless a Undeclared (unless b WrongTerms (Ok tt)) ≡ Ok tt → unless a Undeclared (unless b WrongTerms rest) ≡ rest
  passes true true rest e = refl
  passes true false rest e = cc
  passes false b rest e = cc

  pub row_stops : (r : ModelRow) (rs : List ModelRow) (after : Outcome) (q : Refusal) → rows_accepted h (r ∷ []) (Ok tt) ≡ Err q → rows_accepted h (r ∷ rs) after ≡ Err q
  unfolding rows_accepted
  row_stops r rs after q e = choice (row_declared h r) (terms_fit r.entries) q (rows_accepted h rs after) e

  pub row-passes : (r : ModelRow) (rs : List ModelRow) (after : Outcome) → rows_accepted h (r ∷ []) (Ok tt) ≡ Ok tt → rows_accepted h (r ∷ rs) after ≡ rows_accepted h rs after
  unfolding rows_accepted
  row-passes r rs after e = passes (row_declared h r) (terms_fit r.entries) (rows_accepted h rs after) e

  -- what is left of a table from row i on
  module _ (l : List ModelRow) (i : ℕ) (d : ModelRow) where
    pub rows_stop : (q : Refusal) → i < length l → rows_accepted h (get_or l i d ∷ []) (Ok tt) ≡ Err q → rows_accepted h (drop i l) (Ok tt) ≡ Err q
    rows_stop q k e = rw (drop_turn l i d k) (row_stops (get_or l i d) (drop (i + 1) l) (Ok tt) q e)

    pub rows_turn : i < length l → rows_accepted h (get_or l i d ∷ []) (Ok tt) ≡ Ok tt → rows_accepted h (drop (i + 1) l) (Ok tt) ≡ rows_accepted h (drop i l) (Ok tt)
    rows_turn k e = rw (drop_turn l i d k) (sym (row-passes (get_or l i d) (drop (i + 1) l) (Ok tt) e))

  pub rows_done : (l : List ModelRow) (i : ℕ) → length l ≤ i → rows_accepted h (drop i l) (Ok tt) ≡ Ok tt
  unfolding rows_accepted
  rows_done l i k = rw (drop-done l i k)

  -- all rows together, and what comes after
  pub rows_found : (rs : List ModelRow) (after : Outcome) → rows_accepted h rs (Ok tt) ≡ Ok tt → rows_accepted h rs after ≡ after
  unfolding rows_accepted
  rows_found [] after e = refl
  rows_found (r ∷ rs) after e = go (row_declared h r) (terms_fit r.entries) e (rows_found rs after)
    where
      go : (a b : Bool) → unless a Undeclared (unless b WrongTerms (rows_accepted h rs (Ok tt))) ≡ Ok tt → (rows_accepted h rs (Ok tt) ≡ Ok tt → rows_accepted h rs after ≡ after) →
          unless a Undeclared (unless b WrongTerms (rows_accepted h rs after)) ≡ after
      go true true f ih = ih f
      go true false f ih = cc
      go false b f ih = cc

  pub rows_refused : (rs : List ModelRow) (after : Outcome) (q : Refusal) → rows_accepted h rs (Ok tt) ≡ Err q → rows_accepted h rs after ≡ Err q
  unfolding rows_accepted
  rows_refused [] after q e = cc
  rows_refused (r ∷ rs) after q e = go (row_declared h r) (terms_fit r.entries) e (rows_refused rs after q)
    where
      go : (a b : Bool) → unless a Undeclared (unless b WrongTerms (rows_accepted h rs (Ok tt))) ≡ Err q → (rows_accepted h rs (Ok tt) ≡ Err q → rows_accepted h rs after ≡ Err q) →
          unless a Undeclared (unless b WrongTerms (rows_accepted h rs after)) ≡ Err q
      go true true f ih = ih f
      go true false f ih = f
      go false b f ih = f

-- ---- the rows of an owner
abbrev pub owned : ℕ → ℕ → List ModelRow → List Row
owned kind owner l = map row_of (filter (is_of kind owner) l)

-- a test of each, as a loop over the whole table makes it
pub every_owned : (f : Row → Bool) (kind owner : ℕ) (l : List ModelRow) → every (λ r. not (is_of kind owner r) || f (row_of r)) l ≡ every f (owned kind owner l)
unfolding filter
every_owned f kind owner [] = refl
every_owned f kind owner (r ∷ l) = go (is_of kind owner r) (every_owned f kind owner l)
  where
    go : (b : Bool) → every (λ r. not (is_of kind owner r) || f (row_of r)) l ≡ every f (owned kind owner l) →
        ((not b || f (row_of r)) && every (λ r. not (is_of kind owner r) || f (row_of r)) l) ≡ every f (map row_of (cond b (r ∷ filter (is_of kind owner) l) (filter (is_of kind owner) l)))
    go true ih = ap (λ (t : Bool). f (row_of r) && t) ih
    go false ih = ih
