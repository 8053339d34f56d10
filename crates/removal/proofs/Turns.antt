-- Removal turn by turn between two stores: one variable from the store that has the set to the other, and several in their order. Assumes nothing.
use mathlib.Core.Path.{◌≡◌}
use mathlib.Core.Bool.{Bool, true, false, not}
use mathlib.Core.List.{List}
use Prim.Native.Nat.{ℕ, ◌+◌, ◌<◌}
use native.Mathlib.Numerals.{add-one}
use lib.ListN.{length, get_or, take}
use lib.Seq.{take-suc}
use lib.IntN.{ℤ}
use Rattle.integers.specs.Lists.{every}
use Rattle.integers.proofs.Lists.{every-all}
use Rattle.rows.specs.Rows.{entry_count}
use Rattle.sets.specs.declared.Refusal.{Refusal}
use Rattle.sets.specs.Outcomes.{Result, Ok, Err, and_then}
use Rattle.sets.specs.Stores.{Joined, set_in, Left}
use Rattle.sets.proofs.Parts.{all-at}
use Rattle.sets.proofs.Stores.{holds-wide}
use Rattle.removal.specs.declared.Placed.{Placed}
use Rattle.removal.specs.Removal.{removed, all_removed}
use Rattle.removal.specs.Alone.{side_after, placed_as, side, standing, DividedSet, Between, Moved, is_variable}
use Rattle.removal.proofs.AtOnce.{variable_in}
use Rattle.removal.proofs.Between.{removed_may_stand, all_may_stand, none-removed, all_removed-more, side_more, left-first, left-second, moved-refused, between-stands, between-moved, moved-between, moved-again}

-- ---- one variable, from the store that has the set to the other
module _ (a b : List ℤ) (s : Placed) (v : ℕ) (h : Between a b (Ok s)) where
  pub in_second : s.second ≡ true → DividedSet b s.rows
  in_second f = rw f at h.stands

  pub in_first : s.second ≡ false → DividedSet a s.rows
  in_first f = rw f at h.stands

  pub next-first : s.second ≡ true → (a' : List ℤ) (c : Joined) → Left (removed v (set_in b s.rows)) a a' c →
      Moved (not s.second) (and_then (standing a b (Ok s)) (removed v)) a b a' b (placed_as (not s.second) c)
  unfolding and_then
  next-first f a' c k =
      rw f (left-first (removed v (set_in b s.rows)) a b c (removed_may_stand v _ (holds-wide (in_second f).holds)) a' h.first_long k)

  pub next-second : s.second ≡ false → (b' : List ℤ) (c : Joined) → Left (removed v (set_in a s.rows)) b b' c →
      Moved (not s.second) (and_then (standing a b (Ok s)) (removed v)) a b a b' (placed_as (not s.second) c)
  unfolding and_then
  next-second f b' c k =
      rw f (left-second (removed v (set_in a s.rows)) a b c (removed_may_stand v _ (holds-wide (in_first f).holds)) b' h.second_long k)

-- a refusal is handed on
pub next-refused : (a b : List ℤ) (v : ℕ) (second : Bool) (q : Refusal) → Moved second (and_then (standing a b (Err q)) (removed v)) a b a b (Err q)
unfolding and_then
next-refused a b v second q = moved-refused second q a b

-- ---- several: the first i of them
abbrev pub Turned : List ℕ → List ℤ → List ℤ → Result Placed → List ℤ → List ℤ → Result Placed → Type 0
Turned vs a b s a' b' r = Moved (side_after (side s) vs) (and_then (standing a b s) (all_removed vs)) a b a' b' r

module _ (vs : List ℕ) (a b : List ℤ) (s : Result Placed) (h : Between a b s) where
  pub turned_none : Turned (take 0 vs) a b s a b s
  turned_none = rw (none-removed (standing a b s)) (between-moved a b s h)

  module _ (i : ℕ) (a' b' : List ℤ) (r : Result Placed) (k : Turned (take i vs) a b s a' b' r) where
    pub turned-between : Between a' b' r
    turned-between =
        moved-between (side_after (side s) (take i vs)) a b a' b' r _ (all_may_stand (take i vs) (standing a b s) (between-stands a b s h)) h.first_long h.second_long k

    pub turned_more : i < length vs → (a'' b'' : List ℤ) (r' : Result Placed) → Moved (not (side r)) (and_then (standing a' b' r) (removed (get_or vs i 0))) a' b' a'' b'' r' →
        Turned (take (i + 1) vs) a b s a'' b'' r'
    turned_more l a'' b'' r' m =
        let x = and_then (standing a b s) (all_removed (take i vs)) in
        rw (add-one i, take-suc vs i 0 l, side_more (side s) (take i vs) (get_or vs i 0), all_removed-more (take i vs) (get_or vs i 0) (standing a b s))
        (moved-again not (removed (get_or vs i 0)) (side_after (side s) (take i vs)) a b a' b' a'' b'' r r' x (all_may_stand (take i vs) (standing a b s) (between-stands a b s h)) k m)

-- each is a variable
pub variable_at : (vs : List ℕ) (i : ℕ) → every is_variable vs ≡ true → i < length vs → (0 < get_or vs i 0) × (get_or vs i 0 < entry_count)
variable_at vs i e h = variable_in (get_or vs i 0) (all-at vs 0 (every-all is_variable vs e) i h)
