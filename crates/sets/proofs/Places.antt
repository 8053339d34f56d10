-- Where a row belongs in a set: what a search has seen of the rows decides the place, and the place says what insertion does and whether
-- the row stands there. Assumes nothing.
use mathlib.Core.Path.{◌≡◌, refl, sym, ap, subst, ◌∙◌}
use mathlib.Core.Bool.{Bool, true, false, ◌||◌}
use mathlib.Core.Logic.{⊎_elim}
use mathlib.Core.List.{List, [], ◌∷◌, ◌++◌}
use Prim.Native.Nat.{ℕ, zero, suc, ◌+◌, ◌≤◌, ◌<◌, zero-le, suc-le-suc}
use native.Mathlib.Nat.{le_of_suc-le-suc, not-suc-le-zero, zero-lt-suc, eq-or-lt_of_le}
use native.Mathlib.Numerals.{add-one}
use native.Mathlib.Omega.{arith}
use lib.Dec.{lit<}
use lib.IntN.{pos}
use lib.Signed.{◌<ℤ◌}
use lib.ListN.{length, get_or, take, drop}
use Rattle.integers.proofs.Tests.{false_of}
use Rattle.integers.proofs.Lists.{all_head, all_in, all_append}
use Rattle.rows.specs.declared.Row.{Row}
use Rattle.std.specs.declared.cmp.Ordering.{Ordering}
use Rattle.std.specs.declared.cmp.Ordering.TheVariants.{Less, Equal, Greater}
use Rattle.rows.specs.Rows.{at, with_entry, false_row, row_order}
use Rattle.rows.proofs.Ordering.{row_same, row-trans, row-turned, turned, after-before, before_differs, constant-after}
use Rattle.std.specs.declared.option.Option.{Option}
use Rattle.std.specs.declared.option.Option.TheVariants.{None, Some}
use Rattle.sets.specs.Sets.{InOrder, place, insert, place_by, place_of, is_same, same_row, stands_in}
use Rattle.sets.proofs.Ordered.{order_tail, first-before}
use Rattle.sets.proofs.Parts.{all-at}
use Rattle.sets.proofs.Tests.{stands_in-is}

-- ---- the comparison turned
pub before-after : (r s : Row) → row_order r s ≡ Less → row_order s r ≡ Greater
before-after r s e = sym (row-turned r s) ∙ ap turned e

after-trans : (r s t : Row) → row_order r s ≡ Greater → row_order s t ≡ Greater → row_order r t ≡ Greater
after-trans r s t e f = before-after t r (row-trans t s r (after-before s t f) (after-before r s e))

-- ---- a set by index
pub order_at : {l : List Row} → InOrder l → (d : Row) (i j : ℕ) → i < j → j < length l → row_order (get_or l i d) (get_or l j d) ≡ Less
order_at {l = []} o d i j h k = absurd (not-suc-le-zero k)
order_at {l = s ∷ l} o d i zero h k = absurd (not-suc-le-zero h)
order_at {l = s ∷ l} o d zero (suc j) h k = all-at l d (first-before o) j (le_of_suc-le-suc k)
order_at {l = s ∷ l} o d (suc i) (suc j) h k = order_at (order_tail o) d i j (le_of_suc-le-suc h) (le_of_suc-le-suc k)

-- a row compared with the row at m tells of all rows on one side
module _ (r : Row) {l : List Row} (o : InOrder l) (d : Row) (m : ℕ) (h : m < length l) where
  pub after-below : row_order r (get_or l m d) ≡ Greater → (i : ℕ) → i < m + 1 → row_order r (get_or l i d) ≡ Greater
  after-below e i k = ⊎_elim (λ (f : i ≡ m). rw f e) (λ f. after-trans r (get_or l m d) (get_or l i d) e (before-after (get_or l i d) (get_or l m d) (order_at o d i m f h))) (eq-or-lt_of_le (le_of_suc-le-suc (rw add-one at k)))

  pub before_above : row_order r (get_or l m d) ≡ Less → (i : ℕ) → m ≤ i → i < length l → row_order r (get_or l i d) ≡ Less
  before_above e i k n = ⊎_elim (λ (f : m ≡ i). rw (← f) e) (λ f. row-trans r (get_or l m d) (get_or l i d) e (order_at o d m i f n)) (eq-or-lt_of_le k)

-- ---- the place, from what is known of the rows on both sides
pub place_at : (r : Row) (l : List Row) (d : Row) (k : ℕ) → k ≤ length l → ((i : ℕ) → i < k → row_order r (get_or l i d) ≡ Greater) →
    ((i : ℕ) → k ≤ i → i < length l → row_order r (get_or l i d) ≡ Less) → Some k ≡ place_of r l
unfolding place_of
place_at r [] d zero h f g = refl
place_at r [] d (suc k) h f g = absurd (not-suc-le-zero h)
place_at r (s ∷ l) d zero h f g = rw (g 0 zero-le (zero-lt-suc (length l)))
place_at r (s ∷ l) d (suc k) h f g =
    rw (f 0 (zero-lt-suc k), ← place_at r l d k (le_of_suc-le-suc h) (λ i n. f (suc i) (suc-le-suc n)) (λ i n m. g (suc i) (suc-le-suc n) (suc-le-suc m)))

pub place-standing : (r : Row) {l : List Row} → InOrder l → (d : Row) (k : ℕ) → k < length l → row_order r (get_or l k d) ≡ Equal → None ≡ place_of r l
unfolding place_of
place-standing r {l = []} o d k h e = absurd (not-suc-le-zero h)
place-standing r {l = s ∷ l} o d zero h e = rw e
place-standing r {l = s ∷ l} o d (suc k) h e =
    let f : row_order s r ≡ Less = rw (row_same r (get_or l k d) e) (all-at l d (first-before o) k (le_of_suc-le-suc h)) in
    rw (before-after s r f, ← place-standing r (order_tail o) d k (le_of_suc-le-suc h) e)

-- ---- what insertion does at a place
abbrev placed : Option ℕ → Row → List Row → List Row
placed None r l = l
placed (Some k) r l = take k l ++ r ∷ drop k l

insert-placed : (r : Row) (l : List Row) → insert r l ≡ placed (place_of r l) r l
unfolding insert place_of
insert-placed r [] = refl
insert-placed r (s ∷ l) = go (row_order r s) (place_of r l) (insert-placed r l)
  where
    go : (o : Ordering) (p : Option ℕ) → insert r l ≡ placed p r l → place o r s l (insert r l) ≡ placed (place_by o p) r (s ∷ l)
    go Less p e = refl
    go Equal p e = refl
    go Greater None e = ap {B = List Row} (λ t. s ∷ t) e
    go Greater (Some k) e = ap {B = List Row} (λ t. s ∷ t) e

pub insert-at : (r : Row) (l : List Row) (k : ℕ) → Some k ≡ place_of r l → insert r l ≡ take k l ++ r ∷ drop k l
insert-at r l k e = insert-placed r l ∙ ap (λ (p : Option ℕ). placed p r l) (sym e)

pub insert-standing : (r : Row) (l : List Row) → None ≡ place_of r l → insert r l ≡ l
insert-standing r l e = insert-placed r l ∙ ap (λ (p : Option ℕ). placed p r l) (sym e)

-- behind all others it is put last
pub insert_last : (s : List Row) (r : Row) (l : List Row) → InOrder (s ++ r ∷ l) → insert r s ≡ s ++ r ∷ []
unfolding insert
insert_last [] r l h = refl
insert_last (x ∷ s) r l h =
    rw (before-after x r (all_head ((all_append s (r ∷ l)).0 (first-before h)).1)) (ap {B = List Row} (λ k. x ∷ k) (insert_last s r l (order_tail h)))

abbrev Room : Option ℕ → ℕ → Type 0
Room None n = Unit {0}
Room (Some k) n = k ≤ n

place-room : (r : Row) (l : List Row) → Room (place_of r l) (length l)
unfolding place_of
place-room r [] = zero-le
place-room r (s ∷ l) = go (row_order r s) (place_of r l) (place-room r l)
  where
    go : (o : Ordering) (p : Option ℕ) → Room p (length l) → Room (place_by o p) (suc (length l))
    go Less p h = zero-le
    go Equal p h = tt
    go Greater None h = tt
    go Greater (Some k) h = suc-le-suc h

pub place-within : (r : Row) (l : List Row) (k : ℕ) → Some k ≡ place_of r l → k ≤ length l
place-within r l k e = subst (λ (p : Option ℕ). Room p (length l)) (sym e) (place-room r l)

-- ---- the row stands in the set exactly where its place says so
abbrev is_standing : Option ℕ → Bool
is_standing None = true
is_standing (Some k) = false

not_behind : (r : Row) {s : Row} {l : List Row} → InOrder (s ∷ l) → row_order r s ≡ Less → stands_in r l ≡ false
not_behind r {s} {l} o e = false_of (stands_in r l) (λ t. before_differs r r (row-trans r s r e (all_in (first-before o) (stands_in-is r l t))) refl)

standing-is : (r : Row) {l : List Row} → InOrder l → is_standing (place_of r l) ≡ stands_in r l
unfolding place_of stands_in same_row
standing-is r {l = []} o = refl
standing-is r {l = s ∷ l} o = go (row_order r s) (place_of r l) refl (standing-is r (order_tail o))
  where
    go : (q : Ordering) (p : Option ℕ) → row_order r s ≡ q → is_standing p ≡ stands_in r l → is_standing (place_by q p) ≡ (is_same q || stands_in r l)
    go Less p e h = sym (not_behind r o e)
    go Equal p e h = refl
    go Greater None e h = h
    go Greater (Some k) e h = h

-- it does not stand in a set whose last row it stands behind
pub behind_last : (r : Row) {l : List Row} → InOrder l → (d : Row) (k : ℕ) → length l ≡ k + 1 → row_order r (get_or l k d) ≡ Greater → false ≡ stands_in r l
behind_last r {l} o d k n e =
    ap is_standing (place_at r l d (k + 1) (omega arith) (after-below r o d k (omega arith) e) (λ i h m. absurd (omega arith))) ∙ standing-is r o

-- 1 ≤ 0 stands behind every row with a constant below 1
pub false-after : (r : Row) → at r.entries 0 <ℤ pos 1 → row_order false_row r ≡ Greater
unfolding with_entry
false-after r h = constant-after false_row r (lit< tt) h
