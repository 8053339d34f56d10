-- The pairs of a removal, row by row: what comes of joining them to the rows without the variable.
-- Assumes nothing.
use mathlib.Core.Path.{◌≡◌, refl, sym, ap, ◌∙◌}
use mathlib.Core.List.{List, [], ◌++◌, map}
use Prim.Native.Nat.{ℕ, ◌+◌, ◌≤◌, ◌<◌, zero-le}
use native.Mathlib.Nat.{le_trans}
use lib.ListN.{length, get_or, drop}
use lib.IntN.{ℤ}
use Rattle.integers.specs.Lists.{All, pairs}
use Rattle.integers.proofs.Lists.{all_append, length-filter}
use Rattle.integers.proofs.Loops.{drop_turn, drop-done}
use Rattle.rows.specs.declared.Row.{Row}
use Rattle.rows.specs.Rows.{entry_count, set_numbers, kept, divided_down, paired, row_at}
use Rattle.rows.proofs.Dividing.{Wide}
use Rattle.rows.proofs.Pairing.{paired-wide}
use Rattle.sets.specs.Outcomes.{Ok, Result}
use Rattle.sets.specs.Stores.{Joined, with_rows, set_in, Left, next, progress, Ready, put_all}
use Rattle.sets.proofs.Ordered.{filter-ordered}
use Rattle.sets.proofs.Stores.{holds-wide}
use Rattle.sets.proofs.Steps.{IsSet, set_in-store, left-progress, left_ready, left_twice, joined-put_all, put_all_proper, put_all_grows, put_all-append, joined_itself}
use Rattle.removal.specs.Removal.{untouched, uppers, lowers, remaining, removed}
use Rattle.removal.specs.Pairs.{row_of, rows_of}
use Rattle.removal.specs.Alone.{DividedSet}
use Rattle.removal.proofs.Exact.{apart}
use Rattle.removal.proofs.Kept.{remaining-keeps}

-- ---- a loop over a list of numbers, the next one being number j
module _ (list : List ℕ) (j : ℕ) where
  -- the pairs of one row with the rows of these numbers
  module _ (v : ℕ) (s : List ℤ) (p : ℕ) where
    abbrev next_pair : Row
    next_pair = paired v (row_at s p) (row_of s (get_or list j 0))

    pub put_turn : j < length list → (x y : Result (List Row)) → y ≡ next (divided_down next_pair).fate (divided_down next_pair).row x →
        put_all (map (paired v (row_at s p)) (rows_of s (drop (j + 1) list))) y ≡ put_all (map (paired v (row_at s p)) (rows_of s (drop j list))) x
    unfolding put_all
    put_turn h x y e = rw (drop_turn list j 0 h, e)

    pub put-done : length list ≤ j → (x : Result (List Row)) → put_all (map (paired v (row_at s p)) (rows_of s (drop j list))) x ≡ x
    unfolding put_all
    put-done h x = rw (drop-done list j h)

  -- the pairs of the rows of these numbers with some rows
  module _ (v : ℕ) (s : List ℤ) (lows : List Row) where
    pub put_row_turn : j < length list → (x y : Result (List Row)) → y ≡ put_all (map (paired v (row_of s (get_or list j 0))) lows) x →
        put_all (pairs (paired v) (rows_of s (drop (j + 1) list)) lows) y ≡ put_all (pairs (paired v) (rows_of s (drop j list)) lows) x
    unfolding pairs
    put_row_turn h x y e = rw (drop_turn list j 0 h, put_all-append, e)

    pub put_row-done : length list ≤ j → (x : Result (List Row)) → put_all (pairs (paired v) (rows_of s (drop j list)) lows) x ≡ x
    unfolding put_all pairs
    put_row-done h x = rw (drop-done list j h)

-- ---- the rows without the variable are a set, as they stand
pub untouched-set : (v : ℕ) (s : List Row) → IsSet s → IsSet (untouched v s)
unfolding untouched
untouched-set v s h = (filter-ordered _ s h.0, (apart v s h.1).zeros, (apart v s h.2).zeros, le_trans (length-filter _ s) h.3)

-- so the pairs join them
pub removed_joins : (v : ℕ) (s : List Row) → IsSet s → All (λ r. divided_down r ≡ kept r) s → removed v s ≡ put_all (pairs (paired v) (uppers v s) (lowers v s)) (Ok (untouched v s))
unfolding removed remaining
removed_joins v s h d =
    let u = untouched v s in
    let p = pairs (paired v) (uppers v s) (lowers v s) in
    let g = untouched-set v s h in
    sym (joined-put_all (u ++ p) [] zero-le) ∙ put_all-append u p (Ok []) ∙
    ap (put_all p) (joined-put_all u [] zero-le ∙ joined_itself u g.0 (apart v s d).zeros g.3)

-- ---- the step in its stores: the pairs join the rows that were written
module _ (from to : List ℤ) (n v : ℕ) (holds : DividedSet from n) (long : set_numbers ≤ length to) where
  abbrev rows : List Row
  rows = set_in from n

  abbrev all_pairs : List Row
  all_pairs = pairs (paired v) (uppers v rows) (lowers v rows)

  joins : removed v rows ≡ put_all all_pairs (Ok (untouched v rows))
  joins = removed_joins v rows (set_in-store holds.holds) holds.divided

  module _ (k : ℕ) (t : List ℤ) (count : k ≡ length (untouched v rows)) (is : t ≡ with_rows (untouched v rows) to) where
    set : IsSet (untouched v rows)
    set = untouched-set v rows (set_in-store holds.holds)

    written : Left (Ok (untouched v rows)) to t (Ok k)
    written = record { answer = rw count refl; store = is }

    pub untouched_ready : Ready t (Ok k)
    untouched_ready = left_ready (Ok (untouched v rows)) to t _ set long written

    pub left-joined : (t' : List ℤ) (r : Joined) → Left (put_all all_pairs (progress t (Ok k))) t t' r → Left (removed v rows) to t' r
    unfolding remaining
    left-joined t' r h =
        let wide = ((all_append (untouched v rows) all_pairs).0 (remaining-keeps Wide v (λ r s a b. paired-wide v entry_count r s a b) rows (holds-wide holds.holds))).1 in
        let u = untouched v rows in
        rw joins
        (left_twice (Ok u) (put_all all_pairs (Ok u)) to t t' _ r set (put_all_proper all_pairs (Ok u) wide set) (put_all_grows all_pairs (Ok u)) long written
        (rw (left-progress (Ok u) to t _ set written) at h))
