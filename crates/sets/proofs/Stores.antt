-- Rows in a store: the numbers of a list of rows, the rows that are read back, a set written at the front, a store that is cleared, and
-- what may have been touched. Assumes nothing.
use mathlib.Core.Path.{◌≡◌, refl, sym, ap, ap₂, subst, ◌∙◌}
use mathlib.Core.List.{List, [], ◌∷◌, ◌++◌, append_assoc, append-nil}
use Prim.Native.Nat.{ℕ, zero, suc, ◌+◌, ◌-◌, ◌*◌, ◌≤◌, ◌<◌, zero-le}
use native.Mathlib.Nat.{le_of_suc-le-suc, not-suc-le-zero, add-zero, zero-add, suc-add, add-sub_of_le, add-sub_cancel_left, le-add_right, div-mul-le_self}
use lib.Dec.{lit<, lit≤}
use native.Mathlib.Omega.{arith}
use lib.ListN.{length, get_or, set, take, drop, replicate, length-append, length-drop, length-replicate, take-append-drop, get_or-replicate, get_or-append}
use lib.Seq.{take-set-lt, get_or-set_other, length-take-le, take_at, drop_at, take-take, drop-drop}
use lib.IntN.{ℤ, pos}
use Rattle.integers.specs.Lists.{All, nil, cons}
use Rattle.entries.proofs.Sums.{with-set}
use Rattle.rows.specs.declared.Row.{Row}
use Rattle.rows.specs.Rows.{entry_count, empty_row, row_numbers, set_rows, set_numbers, Small, single, is_one, numbers, row_at, with_row}
use Rattle.rows.proofs.Dividing.{Wide}
use Rattle.rows.proofs.Stores.{get_d_part, length_part, row_back}
use Rattle.sets.specs.Sets.{InOrder, none}
use Rattle.sets.specs.Stores.{numbers_of, rows_at, whole_numbers, zeroed, with_rows, set_in, Stands, HoldsSet, Touched}
use Rattle.sets.proofs.Parts.{all-at, drop-take, alike-front, alike-behind, part-before, part-written, part-after, all_take}

-- ---- the numbers of a row, and of rows
pub length-numbers : (r : Row) → Wide r → length (numbers r) ≡ row_numbers
length-numbers r h = rw (length-append, h)

pub length-numbers_of : {rs : List Row} → All Wide rs → length (numbers_of rs) ≡ length rs * row_numbers
unfolding numbers_of
length-numbers_of nil = refl
length-numbers_of (cons {x = r} {l = rs} h a) = omega (arith, length-append (numbers r) (numbers_of rs), length-numbers r h, length-numbers_of a)

pub numbers_of-append : (l m : List Row) → numbers_of (l ++ m) ≡ numbers_of l ++ numbers_of m
unfolding numbers_of
numbers_of-append [] m = refl
numbers_of-append (r ∷ l) m = rw (numbers_of-append l m) (sym (append_assoc (numbers r) (numbers_of l) (numbers_of m)))

module _ (rs : List Row) (wide : All Wide rs) where
  front_long : (k : ℕ) → k ≤ length rs → length (numbers_of (take k rs)) ≡ k * row_numbers
  front_long k h = length-numbers_of (all_take k rs wide) ∙ ap (λ (n : ℕ). n * row_numbers) (length-take-le k rs h)

  pub numbers_of-take : (k : ℕ) → k ≤ length rs → take (k * row_numbers) (numbers_of rs) ≡ numbers_of (take k rs)
  numbers_of-take k h =
      ap (λ (l : List Row). take (k * row_numbers) (numbers_of l)) (sym (take-append-drop k rs)) ∙
      ap (λ (l : List ℤ). take (k * row_numbers) l) (numbers_of-append (take k rs) (drop k rs)) ∙
      take_at (numbers_of (take k rs)) (numbers_of (drop k rs)) (k * row_numbers) (front_long k h)

  pub numbers_of-drop : (k : ℕ) → k ≤ length rs → drop (k * row_numbers) (numbers_of rs) ≡ numbers_of (drop k rs)
  numbers_of-drop k h =
      ap (λ (l : List Row). drop (k * row_numbers) (numbers_of l)) (sym (take-append-drop k rs)) ∙
      ap (λ (l : List ℤ). drop (k * row_numbers) l) (numbers_of-append (take k rs) (drop k rs)) ∙
      drop_at (numbers_of (take k rs)) (numbers_of (drop k rs)) (k * row_numbers) (front_long k h)

-- ---- rows as they stand in a store
pub length-rows_at : (s : List ℤ) (at n : ℕ) → length (rows_at s at n) ≡ n
unfolding rows_at
length-rows_at s at zero = refl
length-rows_at s at (suc n) = ap suc (length-rows_at s (at + row_numbers) n)

pub getD_rows_at : (s : List ℤ) (at n i : ℕ) (d : Row) → i < n → get_or (rows_at s at n) i d ≡ row_at s (at + i * row_numbers)
unfolding rows_at
getD_rows_at s at zero i d h = absurd (not-suc-le-zero h)
getD_rows_at s at (suc n) zero d h = ap (row_at s) (sym (add-zero at))
getD_rows_at s at (suc n) (suc i) d h = getD_rows_at s (at + row_numbers) n i d (le_of_suc-le-suc h) ∙ ap (row_at s) (omega arith)

pub rows_at-add : (s : List ℤ) (at n m : ℕ) → rows_at s at (n + m) ≡ rows_at s at n ++ rows_at s (at + n * row_numbers) m
unfolding rows_at
rows_at-add s at zero m = ap₂ (rows_at s) (sym (add-zero at)) (zero-add m)
rows_at-add s at (suc n) m =
    ap (rows_at s at) (suc-add n m) ∙
    ap {B = List Row} (λ l. row_at s at ∷ l) (rows_at-add s (at + row_numbers) n m ∙ ap (λ (k : ℕ). rows_at s (at + row_numbers) n ++ rows_at s k m) (omega arith))

module _ (s : List ℤ) (at n k : ℕ) (h : k ≤ n) where
  halves : rows_at s at n ≡ rows_at s at k ++ rows_at s (at + k * row_numbers) (n - k)
  halves = ap (rows_at s at) (sym (add-sub_of_le h)) ∙ rows_at-add s at k (n - k)

  pub take-rows_at : take k (rows_at s at n) ≡ rows_at s at k
  take-rows_at = ap (λ (l : List Row). take k l) halves ∙ take_at (rows_at s at k) (rows_at s (at + k * row_numbers) (n - k)) k (length-rows_at s at k)

  pub drop-rows_at : drop k (rows_at s at n) ≡ rows_at s (at + k * row_numbers) (n - k)
  drop-rows_at = ap (λ (l : List Row). drop k l) halves ∙ drop_at (rows_at s at k) (rows_at s (at + k * row_numbers) (n - k)) k (length-rows_at s at k)

-- a row that is read has 16 entries
pub wide-row_at : (s : List ℤ) (at : ℕ) → at + row_numbers ≤ length s → Wide (row_at s at)
wide-row_at s at h = length_part entry_count at s (omega arith)

pub wide-rows_at : (s : List ℤ) (at n : ℕ) → at + n * row_numbers ≤ length s → All Wide (rows_at s at n)
unfolding rows_at
wide-rows_at s at zero h = nil
wide-rows_at s at (suc n) h = cons (wide-row_at s at (omega arith)) (wide-rows_at s (at + row_numbers) n (omega arith))

-- what is read is in the numbers that are read: the same numbers, the same rows
row-part : (s : List ℤ) (at : ℕ) → row_at s at ≡ row_at (take row_numbers (drop at s)) 0
row-part s at =
    let e : take entry_count (drop at s) ≡ take entry_count (take row_numbers (drop at s)) = sym (take-take entry_count row_numbers (drop at s) (lit≤ tt)) in
    let f : get_or s (at + entry_count) (pos 0) ≡ get_or (take row_numbers (drop at s)) entry_count (pos 0) = sym (get_d_part row_numbers at s entry_count (lit< tt)) in
    λ i. record { entries = e i; strict = is_one (f i) }

pub row-alike : (s t : List ℤ) (a b : ℕ) → take row_numbers (drop a s) ≡ take row_numbers (drop b t) → row_at s a ≡ row_at t b
row-alike s t a b e = row-part s a ∙ ap (λ (l : List ℤ). row_at l 0) e ∙ sym (row-part t b)

pub rows_alike : (n : ℕ) (s t : List ℤ) (a b : ℕ) → take (n * row_numbers) (drop a s) ≡ take (n * row_numbers) (drop b t) → rows_at s a n ≡ rows_at t b n
unfolding rows_at
rows_alike zero s t a b e = refl
rows_alike (suc n) s t a b e =
    let m : suc n * row_numbers ≡ row_numbers + n * row_numbers = omega arith in
    let f : take (row_numbers + n * row_numbers) (drop a s) ≡ take (row_numbers + n * row_numbers) (drop b t) = rw m at e in
    ap₂ {C = List Row} (λ r l. r ∷ l)
    (row-alike s t a b (alike-front s t a b row_numbers (n * row_numbers) f))
    (rows_alike n s t (a + row_numbers) (b + row_numbers) (alike-behind s t a b row_numbers (n * row_numbers) f))

-- ---- rows that were written are read back
-- one number set among 17 zeros
pub row_of-single : (v : ℕ) (z : ℤ) → v < entry_count → row_at (set (replicate row_numbers (pos 0)) v z) 0 ≡ single v z
row_of-single v z h =
    let s = replicate row_numbers (pos 0) in
    let e : take entry_count (set s v z) ≡ (single v z).entries = take-set-lt entry_count s v z h ∙ sym (with-set v z (replicate entry_count (pos 0)) h) in
    let f : get_or (set s v z) entry_count (pos 0) ≡ pos 0 = get_or-set_other s v entry_count z (pos 0) (λ k. absurd (omega arith)) in
    λ i. record { entries = e i; strict = is_one (f i) }

pub rows_of-numbers : {rs : List Row} → All Wide rs → (t : List ℤ) → rows_at (numbers_of rs ++ t) 0 (length rs) ≡ rs
unfolding numbers_of rows_at
rows_of-numbers nil t = refl
rows_of-numbers (cons {x = r} {l = rs} h a) t =
    let e = append_assoc (numbers r) (numbers_of rs) t in
    let d : drop row_numbers (numbers r ++ numbers_of rs ++ t) ≡ numbers_of rs ++ t =
    ap (λ (l : List ℤ). drop row_numbers l) e ∙ drop_at (numbers r) (numbers_of rs ++ t) row_numbers (length-numbers r h) in
    ap₂ {C = List Row} (λ r l. r ∷ l)
    (ap (λ (l : List ℤ). row_at l 0) e ∙ row_back r (numbers_of rs ++ t) h)
    (rows_alike (length rs) (numbers r ++ numbers_of rs ++ t) (numbers_of rs ++ t) row_numbers 0 (ap (λ (l : List ℤ). take (length rs * row_numbers) l) d) ∙ rows_of-numbers a t)

-- wherever the numbers of rows stand, these rows are read
pub rows_back : (rs : List Row) (s : List ℤ) (at : ℕ) → All Wide rs → take (length rs * row_numbers) (drop at s) ≡ numbers_of rs → rows_at s at (length rs) ≡ rs
rows_back rs s at w e =
    rows_alike (length rs) s (numbers_of rs ++ []) at 0
    (e ∙ sym (take_at (numbers_of rs) [] (length rs * row_numbers) (length-numbers_of w))) ∙ rows_of-numbers w []

-- ---- a store with numbers written from an offset on: the rows before them, at them, and after them
module _ (s : List ℤ) (b : ℕ) (h : b ≤ length s) where
  pub rows_before : (x : List ℤ) (at n : ℕ) → at + n * row_numbers ≤ b → rows_at (take b s ++ x) at n ≡ rows_at s at n
  rows_before x at n k = rows_alike n (take b s ++ x) s at at (part-before s b h x at (n * row_numbers) k)

  pub rows_written : (x : List ℤ) (rs : List Row) → All Wide rs → rows_at (take b s ++ numbers_of rs ++ x) b (length rs) ≡ rs
  rows_written x rs w =
      rows_back rs (take b s ++ numbers_of rs ++ x) b w
      (ap (λ (k : ℕ). take k (drop b (take b s ++ numbers_of rs ++ x))) (sym (length-numbers_of w)) ∙ part-written s b h (numbers_of rs) x)

  pub rows_after : (y : List ℤ) (at n : ℕ) → b + length y ≤ at → rows_at (take b s ++ y ++ drop (b + length y) s) at n ≡ rows_at s at n
  rows_after y at n k = rows_alike n (take b s ++ y ++ drop (b + length y) s) s at at (ap (λ (l : List ℤ). take (n * row_numbers) l) (part-after s b h y at k))

-- ---- rows that stand number for number
pub stands_back : (rs : List Row) (s : List ℤ) (at : ℕ) → All Wide rs → at + length rs * row_numbers ≤ length s → take (length rs * row_numbers) (drop at s) ≡ numbers_of rs → Stands s at (length rs)
stands_back rs s at w h e = record { room = h; same = e ∙ ap numbers_of (sym (rows_back rs s at w e)) }

pub stands_alike : (s t : List ℤ) (a b n : ℕ) → Stands s a n → b + n * row_numbers ≤ length t → take (n * row_numbers) (drop b t) ≡ take (n * row_numbers) (drop a s) → Stands t b n
stands_alike s t a b n h k e = record { room = k; same = e ∙ h.same ∙ ap numbers_of (sym (rows_alike n t s b a e)) }

-- rows copied from another store
module _ (from to x : List ℤ) (a b n : ℕ) (h : a + n * row_numbers ≤ length from) (k : b ≤ length to) where
  copied : take (n * row_numbers) (drop b (take b to ++ take (n * row_numbers) (drop a from) ++ x)) ≡ take (n * row_numbers) (drop a from)
  copied =
      let y = take (n * row_numbers) (drop a from) in
      let e : length y ≡ n * row_numbers = length_part (n * row_numbers) a from h in
      ap (λ (k : ℕ). take k (drop b (take b to ++ y ++ x))) (sym e) ∙ part-written to b k y x

  pub rows_copied : rows_at (take b to ++ take (n * row_numbers) (drop a from) ++ x) b n ≡ rows_at from a n
  rows_copied = rows_alike n (take b to ++ take (n * row_numbers) (drop a from) ++ x) from b a copied

  pub stands_copied : Stands from a n → b + n * row_numbers ≤ length (take b to ++ take (n * row_numbers) (drop a from) ++ x) → Stands (take b to ++ take (n * row_numbers) (drop a from) ++ x) b n
  stands_copied g l = stands_alike from (take b to ++ take (n * row_numbers) (drop a from) ++ x) a b n g l copied

module _ (s : List ℤ) (at : ℕ) where
  pub stands-front : (n k : ℕ) → Stands s at n → k ≤ n → Stands s at k
  stands-front n k h l =
      let m : k * row_numbers ≤ n * row_numbers = omega arith in
      let w = wide-rows_at s at n h.room in
      record {
        room = omega (arith, h.room);
        same =
            sym (take-take (k * row_numbers) (n * row_numbers) (drop at s) m) ∙ ap (λ (x : List ℤ). take (k * row_numbers) x) h.same ∙
            numbers_of-take (rows_at s at n) w k (rw length-rows_at l) ∙ ap numbers_of (take-rows_at s at n k l);
      }

  pub stands-behind : (k m : ℕ) → Stands s at (k + m) → Stands s (at + k * row_numbers) m
  stands-behind k m h =
      let w = wide-rows_at s at (k + m) h.room in
      let e : (k + m) * row_numbers ≡ k * row_numbers + m * row_numbers = omega arith in
      let f : take (k * row_numbers + m * row_numbers) (drop at s) ≡ numbers_of (rows_at s at (k + m)) = rw e at h.same in
      let l : k ≤ k + m = le-add_right k m in
      record {
        room = omega (arith, h.room);
        same =
            ap (λ (x : List ℤ). take (m * row_numbers) x) (sym (drop-drop (k * row_numbers) at s)) ∙ sym (drop-take (k * row_numbers) (m * row_numbers) (drop at s)) ∙
            ap (λ (x : List ℤ). drop (k * row_numbers) x) f ∙ numbers_of-drop (rows_at s at (k + m)) w k (rw length-rows_at l) ∙
            ap numbers_of (drop-rows_at s at (k + m) k l ∙ ap (rows_at s (at + k * row_numbers)) (add-sub_cancel_left k m));
      }

  -- one of them
  pub stands-row : (n i : ℕ) → Stands s at n → i < n → take row_numbers (drop (at + i * row_numbers) s) ≡ numbers (row_at s (at + i * row_numbers))
  unfolding numbers_of rows_at
  stands-row n i h l =
      let k : i + 1 ≤ n = omega arith in
      (stands-behind i 1 (stands-front n (i + 1) h k)).same ∙ append-nil (numbers (row_at s (at + i * row_numbers)))

-- ---- a set at the front of a store
pub drop-with_rows : (t : List Row) (s : List ℤ) (k : ℕ) → length (numbers_of t) ≤ k → drop k (with_rows t s) ≡ drop k s
unfolding with_rows
drop-with_rows t s k h =
    ap (λ (n : ℕ). drop k (numbers_of t ++ drop n s)) (sym (zero-add (length (numbers_of t)))) ∙ part-after s 0 zero-le (numbers_of t) k (rw zero-add h)

pub length-with_rows : (t : List Row) (s : List ℤ) → length (numbers_of t) ≤ length s → length (with_rows t s) ≡ length s
unfolding with_rows
length-with_rows t s h = omega (arith, length-append (numbers_of t) (drop (length (numbers_of t)) s), length-drop (length (numbers_of t)) s)

-- the second at least as long
pub with_rows_twice : (t u : List Row) (s : List ℤ) → length (numbers_of t) ≤ length (numbers_of u) → with_rows u (with_rows t s) ≡ with_rows u s
unfolding with_rows
with_rows_twice t u s h = ap (λ (l : List ℤ). numbers_of u ++ l) (drop-with_rows t s (length (numbers_of u)) h)

pub rows-with_rows : (t : List Row) (s : List ℤ) → All Wide t → set_in (with_rows t s) (length t) ≡ t
unfolding with_rows
rows-with_rows t s w = rows_of-numbers w (drop (length (numbers_of t)) s)

pub with_rows-none : (s : List ℤ) → with_rows [] s ≡ s
unfolding with_rows numbers_of
with_rows-none s = refl

-- one row more, written behind the others
pub with_rows-more : (t : List Row) (r : Row) (s : List ℤ) → All Wide t → Wide r → with_row (with_rows t s) (length t * row_numbers) r ≡ with_rows (t ++ r ∷ []) s
unfolding with_rows numbers_of
with_rows-more t r s w h =
    let k = numbers_of t in
    let n : length k ≡ length t * row_numbers = length-numbers_of w in
    let e : numbers_of (t ++ r ∷ []) ≡ k ++ numbers r = numbers_of-append t (r ∷ []) ∙ ap (λ (l : List ℤ). k ++ l) (append-nil (numbers r)) in
    let m : length (k ++ numbers r) ≡ length k + row_numbers = length-append k (numbers r) ∙ ap (λ (j : ℕ). length k + j) (length-numbers r h) in
    let d : drop (length k + row_numbers) (k ++ drop (length k) s) ≡ drop (length k + row_numbers) s = drop-with_rows t s (length k + row_numbers) (omega arith) in
    rw (← n, take_at k (drop (length k) s) (length k) refl, d, e, m)

-- what stands there already
pub with_rows_itself : (s : List ℤ) (n : ℕ) → Stands s 0 n → with_rows (set_in s n) s ≡ s
unfolding with_rows
with_rows_itself s n h =
    let e : length (numbers_of (set_in s n)) ≡ n * row_numbers = ap length (sym h.same) ∙ length-take-le (n * row_numbers) s (omega (arith, h.room)) in
    rw (e, ← h.same) (take-append-drop (n * row_numbers) s)

pub take-with_rows : (t : List Row) (s : List ℤ) → All Wide t → take (length t * row_numbers) (with_rows t s) ≡ numbers_of t
unfolding with_rows
take-with_rows t s w = take_at (numbers_of t) (drop (length (numbers_of t)) s) (length t * row_numbers) (length-numbers_of w)

-- rows that stand elsewhere, copied to the front
pub with_rows_copied : (from to : List ℤ) (a n : ℕ) → Stands from a n → take (n * row_numbers) (drop a from) ++ drop (n * row_numbers) to ≡ with_rows (rows_at from a n) to
unfolding with_rows
with_rows_copied from to a n h =
    let e : length (numbers_of (rows_at from a n)) ≡ n * row_numbers = length-numbers_of (wide-rows_at from a n h.room) ∙ ap (λ (k : ℕ). k * row_numbers) (length-rows_at from a n) in
    rw (e, h.same)

pub holds-with_rows : (t : List Row) (s : List ℤ) → InOrder t → All (λ r. Small r.entries) t → All Wide t → length t ≤ set_rows → set_numbers ≤ length s → HoldsSet (with_rows t s) (length t)
holds-with_rows t s o m w f l =
    let n = length-numbers_of w in
    let e = rows-with_rows t s w in
    let long : length (with_rows t s) ≡ length s = length-with_rows t s (omega arith) in
    record {
      long = rw long l;
      few = f;
      stands = stands_back t (with_rows t s) 0 w (rw long (omega arith)) (take-with_rows t s w);
      ordered = rw e o;
      small = rw e m;
    }

-- the empty set stands in every store that takes any set
pub holds-none : (s : List ℤ) → set_numbers ≤ length s → HoldsSet s 0
holds-none s l = subst (λ (t : List ℤ). HoldsSet t 0) (with_rows-none s) (holds-with_rows [] s none nil nil zero-le l)

-- what a set in a store has besides
pub holds-wide : {s : List ℤ} {n : ℕ} → HoldsSet s n → All Wide (set_in s n)
holds-wide {s} {n} h = wide-rows_at s 0 n h.stands.room

pub holds-small : {s : List ℤ} {n : ℕ} → HoldsSet s n → (i : ℕ) → i < n → Small (row_at s (i * row_numbers)).entries
holds-small {s} {n} h i k =
    let e : row_at s (0 + i * row_numbers) ≡ row_at s (i * row_numbers) = ap (row_at s) (zero-add (i * row_numbers)) in
    subst (λ (r : Row). Small r.entries) (getD_rows_at s 0 n i empty_row k ∙ e) (all-at (set_in s n) empty_row h.small i (rw length-rows_at k))

-- ---- what may have been touched
pub touched_none : (s : List ℤ) → Touched s s
touched_none s = record { long = refl; beyond = refl }

pub touched_twice : {s t u : List ℤ} → Touched s t → Touched t u → Touched s u
touched_twice a b = record { long = b.long ∙ a.long; beyond = b.beyond ∙ a.beyond }

pub touched-with_rows : (t : List Row) (s : List ℤ) → All Wide t → length t ≤ set_rows → set_numbers ≤ length s → Touched s (with_rows t s)
touched-with_rows t s w f l =
    let n = length-numbers_of w in
    record { long = length-with_rows t s (omega arith); beyond = drop-with_rows t s set_numbers (omega arith) }

-- ---- a store that is cleared
pub whole_set : (s : List ℤ) → set_numbers ≤ length s → set_numbers ≤ whole_numbers s
whole_set s h = omega arith

pub length-zeroed : (s : List ℤ) → length (zeroed s) ≡ length s
unfolding zeroed
length-zeroed s =
    let n = whole_numbers s in
    omega (arith, length-append (replicate n (pos 0)) (drop n s), length-replicate n (pos 0), length-drop n s, div-mul-le_self (length s) row_numbers)

pub getD_zeroed : (s : List ℤ) (i : ℕ) → i < whole_numbers s → get_or (zeroed s) i (pos 0) ≡ pos 0
unfolding zeroed
getD_zeroed s i h =
    let n = whole_numbers s in
    get_or-append (replicate n (pos 0)) (drop n s) (pos 0) i (rw length-replicate h) ∙ get_or-replicate n i (pos 0) (pos 0) h

pub drop-zeroed : (s : List ℤ) → drop (whole_numbers s) (zeroed s) ≡ drop (whole_numbers s) s
unfolding zeroed
drop-zeroed s = let n = whole_numbers s in drop_at (replicate n (pos 0)) (drop n s) n (length-replicate n (pos 0))

-- two stores that differ in whole rows only are the same when cleared
pub zeroed-alike : (s t : List ℤ) → length t ≡ length s → drop (whole_numbers s) t ≡ drop (whole_numbers s) s → zeroed t ≡ zeroed s
unfolding zeroed
zeroed-alike s t e f = rw (e, f)

-- so it does not matter what was done to a store within a set's room
pub zeroed-touched : {s t : List ℤ} → set_numbers ≤ length s → Touched s t → zeroed t ≡ zeroed s
zeroed-touched {s} {t} h e =
    let w = whole_numbers s in
    let k : set_numbers ≤ w = whole_set s h in
    let m : set_numbers + (w - set_numbers) ≡ w = omega arith in
    let f : drop (set_numbers + (w - set_numbers)) t ≡ drop (set_numbers + (w - set_numbers)) s =
    sym (drop-drop (w - set_numbers) set_numbers t) ∙ ap (λ (l : List ℤ). drop (w - set_numbers) l) e.beyond ∙ drop-drop (w - set_numbers) set_numbers s in
    zeroed-alike s t e.long (rw m at f)
