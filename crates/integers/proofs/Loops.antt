-- A loop that fills a list from the front, one store a turn: after n turns the list is `front f n o`, whose element i is f i.
-- `front` is the stores themselves, so a turn is one more `set`. Over any element type. Assumes nothing.
use mathlib.Core.Path.{◌≡◌, refl, sym, ◌∙◌}
use mathlib.Core.Bool.{Bool, true, false, not, ◌&&◌, ◌||◌, and_assoc}
use mathlib.Core.List.{List, [], ◌∷◌, map}
use Prim.Native.Nat.{ℕ, zero, suc, ◌+◌, ◌≤◌, ◌<◌}
use native.Mathlib.Nat.{not-suc-le-zero}
use native.Mathlib.Decide.{ℕ_discrete}
use native.Mathlib.Omega.{arith}
use native.Mathlib.Numerals.{add-one}
use lib.ListN.{length, get_or, set, drop, length-set, length-map, get_or-map, drop_of_length-le}
use lib.Seq.{get_or-set_same, get_or-set_other, ext_get_or, drop-cons}
use Rattle.integers.specs.Lists.{every}
use Rattle.integers.proofs.Tests.{and_all, not_or}

module _ {A : Type 0} where
  pub front : (ℕ → A) → ℕ → List A → List A
  front f zero o = o
  front f (suc n) o = set (front f n o) n (f n)

  -- where the loop begins
  pub front-none : (f : ℕ → A) (o : List A) → o ≡ front f 0 o
  unfolding front
  front-none f o = refl

  -- a turn: the store of f i
  pub front-more : (f : ℕ → A) (i : ℕ) (o x : List A) (v : A) → x ≡ front f i o → v ≡ f i → set x i v ≡ front f (i + 1) o
  unfolding front
  front-more f i o x v e h = rw (add-one, e, h)

  length_front : (f : ℕ → A) (n : ℕ) (o : List A) → length (front f n o) ≡ length o
  unfolding front
  length_front f zero o = refl
  length_front f (suc n) o = length-set (front f n o) n (f n) ∙ length_front f n o

  get_d_front : (f : ℕ → A) (n : ℕ) (o : List A) (i : ℕ) (d : A) → i < n → i < length o → get_or (front f n o) i d ≡ f i
  unfolding front
  get_d_front f zero o i d h k = absurd (not-suc-le-zero h)
  get_d_front f (suc n) o i d h k = go (ℕ_discrete i n) (λ l. get_d_front f n o i d l k)
    where
      inside : i ≡ n → n < length (front f n o)
      inside e = rw (length_front, ← e) k

      go : Dec (i ≡ n) → (i < n → get_or (front f n o) i d ≡ f i) → get_or (set (front f n o) n (f n)) i d ≡ f i
      go (yes e) r = rw e (get_or-set_same (front f n o) n (f n) d (inside e))
      go (no e) r = get_or-set_other (front f n o) n i (f n) d e ∙ r (omega arith)

  -- when every element is stored, it is the list whose elements these are
  pub front-all : (d : A) (f : ℕ → A) (n : ℕ) (o l : List A) → length o ≡ n → length l ≡ n → ((i : ℕ) → i < n → f i ≡ get_or l i d) → front f n o ≡ l
  front-all d f n o l ho hl h =
      ext_get_or d (front f n o) l (length_front f n o ∙ ho ∙ sym hl)
      (λ i k. let k₁ : i < length o = rw length_front at k in let k₂ : i < n = rw ho at k₁ in get_d_front f n o i d k₂ k₁ ∙ h i k₂)

-- a loop that copies l: at the end it is l
pub front_same : {A : Type 0} (d : A) (l o : List A) → length o ≡ length l → front (λ k. get_or l k d) (length l) o ≡ l
front_same d l o h = front-all d (λ k. get_or l k d) (length l) o l h refl (λ i k. refl)

-- a loop that maps g over l: at the end it is `map g l`
pub front-map : {A B : Type 0} (g : A → B) (d : A) (l : List A) (o : List B) → length o ≡ length l → front (λ k. g (get_or l k d)) (length l) o ≡ map g l
front-map g d l o h =
    front-all (g d) (λ k. g (get_or l k d)) (length l) o (map g l) h (length-map l g) (λ i k. sym (get_or-map g l i d))

-- a loop that goes through l by its index: what is left of l, a turn shorter, and at the end
pub drop_turn : {A : Type 0} (l : List A) (i : ℕ) (d : A) → i < length l → drop i l ≡ get_or l i d ∷ drop (i + 1) l
drop_turn l i d h = rw (add-one, drop-cons l i d)

pub drop-done : {A : Type 0} (l : List A) (i : ℕ) → length l ≤ i → drop i l ≡ []
drop-done l i h = drop_of_length-le l h

-- a loop that tests each element in turn and stops at the first that fails
module _ {A : Type 0} (f : A → Bool) (l : List A) (i : ℕ) (d : A) where
  pub every_stops : i < length l → f (get_or l i d) ≡ false → false ≡ every f (drop i l)
  every_stops h e = rw (drop_turn l i d h, e)

  pub every_turn : i < length l → f (get_or l i d) ≡ true → every f (drop (i + 1) l) ≡ every f (drop i l)
  every_turn h e = rw (drop_turn l i d h, e)

  pub every-done : length l ≤ i → true ≡ every f (drop i l)
  every-done h = rw (drop-done l i h)

-- a loop that tests every element and sets a flag where one fails
module _ {A : Type 0} (f : A → Bool) (l : List A) (i : ℕ) (d : A) (failed : Bool) where
  pub flag_turn : (t : Bool) → i < length l → f (get_or l i d) ≡ not t → (not (failed || t) && every f (drop (i + 1) l)) ≡ (not failed && every f (drop i l))
  flag_turn t h e = rw (drop_turn l i d h, e, not_or failed t) (and_assoc (not failed) (not t) (every f (drop (i + 1) l)))

  pub flag-done : length l ≤ i → not failed ≡ (not failed && every f (drop i l))
  flag-done h = and_all (not failed) _ (sym (every-done f l i d h))
