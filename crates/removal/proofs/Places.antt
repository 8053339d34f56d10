-- Rows of a store by their numbers: the entry that is read at a place, the numbers that a loop lists, and the rows without the variable
-- as a loop writes them. Assumes nothing.
use mathlib.Core.Path.{◌≡◌, refl, sym, ap, ap₂, ◌∙◌}
use mathlib.Core.Bool.{Bool, true, false, cond}
use mathlib.Core.List.{List, [], ◌∷◌, ◌++◌, map, map-append, append-nil}
use Prim.Native.Nat.{ℕ, zero, suc, ◌+◌, ◌*◌, ◌^◌, ◌≤◌, ◌<◌}
use native.Mathlib.Nat.{zero-add}
use native.Mathlib.Numerals.{add-one}
use native.Mathlib.Omega.{arith}
use lib.ListN.{length, get_or, set, take, drop, length-append, length-take}
use lib.Seq.{get_or-take, get_or-drop, take-suc-set}
use lib.IntN.{ℤ, pos, negsuc}
use lib.Signed.{mag, lt_z}
use mir.Syntax.{w32}
use mir.Val.{to_z, of_z}
use Rattle.integers.specs.Lists.{All, nil, cons, filter}
use Rattle.integers.specs.Signs.{is_zero, isAbove, isBelow}
use Rattle.integers.proofs.Lists.{all_map, all_mapped, all_append, filter-append}
use Rattle.integers.proofs.Bounds.{back, bits-zero, zero_bits}
use Rattle.integers.proofs.Whole.{IsPos}
use Rattle.integers.proofs.Tests.{T_of, not-both, zero_of, below_lt}
use Rattle.rows.specs.declared.Row.{Row}
use Rattle.rows.specs.Rows.{entry_count, row_numbers, paired, row_at, with_row}
use Rattle.rows.proofs.Pairing.{paired-wide}
use Rattle.rows.proofs.Dividing.{Wide}
use Rattle.sets.specs.Stores.{rows_at, with_rows, set_in, HoldsSet}
use Rattle.sets.proofs.Stores.{holds-small, rows_at-add, with_rows-more, wide-row_at, wide-rows_at}
use Rattle.removal.specs.Removal.{entry, untouched, uppers, lowers}
use Rattle.removal.specs.Pairs.{row_of, rows_of, numbers_where, SmallAt}
use Rattle.removal.proofs.Exact.{above_of, apart}

-- the number that stands there
pub entry_at : (v : ℕ) (s : List ℤ) (p : ℕ) → v < entry_count → entry v (row_at s p) ≡ get_or s (p + v) (pos 0)
entry_at v s p h = get_or-take entry_count (drop p s) v (pos 0) h ∙ get_or-drop p s v (pos 0)

-- what a test of it tells
module _ (v : ℕ) (s : List ℤ) (p : ℕ) (h : v < entry_count) (fits : mag (get_or s (p + v) (pos 0)) < 2 ^ 31) where
  abbrev bits : ℕ
  bits = of_z w32 (get_or s (p + v) (pos 0))

  pub below-read : {b : Bool} → lt_z (to_z w32 bits) (pos 0) ≡ b → isBelow (entry v (row_at s p)) ≡ b
  below-read e = ap isBelow (entry_at v s p h) ∙ below_lt (get_or s (p + v) (pos 0)) ∙ (rw (back w32 (get_or s (p + v) (pos 0)) fits) at e)

  pub zero-read : bits ≡ 0 → is_zero (entry v (row_at s p)) ≡ true
  zero-read e = ap is_zero (entry_at v s p h) ∙ bits-zero w32 (get_or s (p + v) (pos 0)) fits e

  pub other_read : (bits ≡ 0 → ⊥) → is_zero (entry v (row_at s p)) ≡ false
  other_read f = ap is_zero (entry_at v s p h) ∙ zero_bits w32 (get_or s (p + v) (pos 0)) f

-- it has one sign
pub zero-only : (z : ℤ) → is_zero z ≡ true → (isBelow z ≡ false) × (isAbove z ≡ false)
zero-only z e = rw (zero_of z e) (refl, refl)

pub below-only : (z : ℤ) → isBelow z ≡ true → isAbove z ≡ false
below-only (pos n) e = not-both e
below-only (negsuc n) e = refl

pub above-left : (z : ℤ) → is_zero z ≡ false → isBelow z ≡ false → isAbove z ≡ true
above-left (pos zero) e f = not-both (sym e)
above-left (pos (suc n)) e f = refl
above-left (negsuc n) e f = not-both (sym f)

-- a row of a set
pub small_at : {s : List ℤ} {n : ℕ} → HoldsSet s n → (i : ℕ) → i < n → SmallAt s (i * row_numbers)
small_at h i k = record { room = omega (arith, h.stands.room); small = holds-small h i k }

-- the pairs of a row with others
pub pairs-wide : (v : ℕ) (s : List ℤ) (p : ℕ) (js : List ℕ) → SmallAt s p → All (λ j. SmallAt s (j * row_numbers)) js → All Wide (map (paired v (row_at s p)) (rows_of s js))
pairs-wide v s p js h a =
    (all_mapped _ (rows_of s js)).1 ((all_mapped _ js).1 (all_map (λ j k. paired-wide v entry_count (row_at s p) (row_of s j) (wide-row_at s p h.room) (wide-row_at s (j * row_numbers) k.room)) a))

-- ---- the rows whose entry passes a test, and their numbers
module _ (test : ℤ → Bool) (v : ℕ) (s : List ℤ) where
  abbrev passes : ℕ → Bool
  passes i = test (entry v (row_of s i))

  abbrev passing : ℕ → List Row
  passing n = filter (λ r. test (entry v r)) (set_in s n)

  one_more : (i : ℕ) → passing (i + 1) ≡ passing i ++ cond (passes i) (row_of s i ∷ []) []
  unfolding filter rows_at
  one_more i = rw (rows_at-add s 0 i 1, filter-append, zero-add)

  numbered : (n : ℕ) → rows_of s (numbers_where test v s n) ≡ passing n
  unfolding numbers_where filter rows_at
  numbered zero = refl
  numbered (suc n) = map-append (row_of s) (numbers_where test v s n) _ ∙ ap₂ {C = List Row} (λ k l. k ++ l) (numbered n) (go (passes n)) ∙ sym (rw (add-one n) at (one_more n))
    where
      go : (b : Bool) → rows_of s (cond b (n ∷ []) []) ≡ cond b (row_of s n ∷ []) []
      go true = refl
      go false = refl

  numbers-all : {P : ℕ → Type 0} (n : ℕ) → ((i : ℕ) → i < n → passes i ≡ true → P i) → All P (numbers_where test v s n)
  unfolding numbers_where
  numbers-all zero f = nil
  numbers-all {P} (suc n) f = (all_append (numbers_where test v s n) _).1 (numbers-all n (λ i h e. f i (omega arith) e), go (passes n) (f n (omega arith)))
    where
      go : (b : Bool) → (b ≡ true → P n) → All P (cond b (n ∷ []) [])
      go true g = cons (g refl) nil
      go false g = nil

  -- a loop lists them: row i is the next
  module _ (i : ℕ) (list : List ℕ) (m : ℕ) (is : take m list ≡ numbers_where test v s i) where
    pub number_listed : m < length list → passes i ≡ true → take (m + 1) (set list m i) ≡ numbers_where test v s (i + 1)
    unfolding numbers_where
    number_listed h e = rw (add-one m, add-one i, take-suc-set list m i h, is, e)

    pub number_passed : passes i ≡ false → take m list ≡ numbers_where test v s (i + 1)
    unfolding numbers_where
    number_passed e = rw (add-one i, e, append-nil) is

-- the rows below zero and above
module _ (v : ℕ) (s : List ℤ) (n : ℕ) where
  pub lowers_numbered : rows_of s (numbers_where isBelow v s n) ≡ lowers v (set_in s n)
  unfolding lowers
  lowers_numbered = numbered isBelow v s n

  pub uppers_numbered : rows_of s (numbers_where isAbove v s n) ≡ uppers v (set_in s n)
  unfolding uppers
  uppers_numbered = numbered isAbove v s n

  module _ (holds : HoldsSet s n) where
    pub lowers-small : All (λ j. SmallAt s (j * row_numbers)) (numbers_where isBelow v s n)
    lowers-small = numbers-all isBelow v s n (λ i h e. small_at holds i h)

    pub uppers-small : All (λ i. SmallAt s (i * row_numbers) × IsPos (entry v (row_of s i))) (numbers_where isAbove v s n)
    uppers-small = numbers-all isAbove v s n (λ i h e. (small_at holds i h, above_of _ (T_of e)))

-- a part as long as was asked for stands in the list
pub part_room : {A : Type 0} (l part : List A) (m : ℕ) → m ≡ length part → take m l ≡ part → m ≤ length l
part_room l part m h e = omega (arith, length-take m l, ap length e)

-- ---- the rows without the variable, among the rows before row i
pub untouched-none : (v : ℕ) (s : List ℤ) → untouched v (set_in s 0) ≡ []
unfolding untouched filter rows_at
untouched-none v s = refl

module _ (v : ℕ) (s : List ℤ) (i : ℕ) where
  abbrev before : List Row
  before = untouched v (set_in s i)

  untouched-more : untouched v (set_in s (i + 1)) ≡ before ++ cond (is_zero (entry v (row_of s i))) (row_of s i ∷ []) []
  unfolding untouched
  untouched-more = one_more is_zero v s i

  module _ (m : ℕ) (t t₀ : List ℤ) (count : m ≡ length before) (is : t ≡ with_rows before t₀) where
    pub untouched-kept : i * row_numbers + row_numbers ≤ length s → is_zero (entry v (row_of s i)) ≡ true →
        (r : Row) (t' : List ℤ) → r ≡ row_of s i → t' ≡ with_row t (m * row_numbers) r →
        (m + 1 ≡ length (untouched v (set_in s (i + 1)))) × (t' ≡ with_rows (untouched v (set_in s (i + 1))) t₀)
    untouched-kept room e r t' f g =
        let wide = (apart v (set_in s i) (wide-rows_at s 0 i (omega arith))).zeros in
        rw (untouched-more, e, ← f) (
          rw count (sym (length-append before (r ∷ []))),
          rw (g, is, count) (with_rows-more before r t₀ wide (rw f (wide-row_at s (i * row_numbers) room))),
        )

    pub untouched-passed : is_zero (entry v (row_of s i)) ≡ false → (m ≡ length (untouched v (set_in s (i + 1)))) × (t ≡ with_rows (untouched v (set_in s (i + 1))) t₀)
    untouched-passed e = rw (untouched-more, e, append-nil) (count, is)
