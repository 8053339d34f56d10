-- Laws of `All`: what `filter`, `map`, `++` and all pairs of two lists do to a property of every element; and of `filter`. Assumes nothing.
use mathlib.Core.Bool.{Bool, true, false, cond, ◌&&◌, and-true, and_assoc}
use mathlib.Core.Path.{◌≡◌, refl, sym, ap, ◌∙◌, subst}
use mathlib.Core.Logic.{◌↔◌}
use mathlib.Core.List.{List, [], ◌∷◌, ◌++◌, map}
use Prim.Native.Nat.{suc, ◌≤◌, zero-le}
use native.Mathlib.Omega.{arith}
use lib.Dec.{T}
use lib.ListN.{length}
use Rattle.integers.specs.Lists.{All, nil, cons, In, here, there, every, filter, pairs}
use Rattle.integers.proofs.Tests.{and_left, and_right, and_mixed}

module _ {A : Type 0} where
  pub all_head : {P : A → Type 0} {x : A} {l : List A} → All P (x ∷ l) → P x
  all_head (cons h t) = h

  pub all_tail : {P : A → Type 0} {x : A} {l : List A} → All P (x ∷ l) → All P l
  all_tail (cons h t) = t

  pub all_map : {P Q : A → Type 0} {l : List A} → ((x : A) → P x → Q x) → All P l → All Q l
  all_map f nil = nil
  all_map f (cons {x = x} h t) = cons (f x h) (all_map f t)

  pub all_of : {P : A → Type 0} (l : List A) → ((x : A) → P x) → All P l
  all_of [] f = nil
  all_of (x ∷ l) f = cons (f x) (all_of l f)

  pub all-zip : {P Q : A → Type 0} {l : List A} → All P l → All Q l → All (λ x. P x × Q x) l
  all-zip nil b = nil
  all-zip (cons h t) b = cons (h, all_head b) (all-zip t (all_tail b))

  pub all_append : {P : A → Type 0} (l m : List A) → All P (l ++ m) ↔ (All P l × All P m)
  all_append [] m = (λ a. (nil, a), λ a. a.1)
  all_append (x ∷ l) m =
      let ih = all_append l m in
      (λ a. let b = ih.0 (all_tail a) in (cons (all_head a) b.0, b.1), λ a. cons (all_head a.0) (ih.1 (all_tail a.0, a.1)))

  -- the elements that pass a test
  cond-all : {P : A → Type 0} (b : Bool) (x : A) (l : List A) → All P (cond b (x ∷ l) l) ↔ ((T b → P x) × All P l)
  cond-all true x l = (λ a. (λ t. all_head a, all_tail a), λ a. cons (a.0 tt) a.1)
  cond-all false x l = (λ a. (λ t. absurd t, a), λ a. a.1)

  pub all_filter : {P : A → Type 0} (f : A → Bool) (l : List A) → All P (filter f l) ↔ All (λ x. T (f x) → P x) l
  unfolding filter
  all_filter f [] = (λ a. nil, λ a. nil)
  all_filter f (x ∷ l) =
      let ih = all_filter f l in
      let c = cond-all (f x) x (filter f l) in
      (λ a. cons (c.0 a).0 (ih.0 (c.0 a).1), λ a. c.1 (all_head a, ih.1 (all_tail a)))

module _ {A B : Type 0} where
  pub all_mapped : {P : B → Type 0} (f : A → B) (l : List A) → All P (map f l) ↔ All (λ x. P (f x)) l
  all_mapped f [] = (λ a. nil, λ a. nil)
  all_mapped f (x ∷ l) = let ih = all_mapped f l in (λ a. cons (all_head a) (ih.0 (all_tail a)), λ a. cons (all_head a) (ih.1 (all_tail a)))

  pub all_flip : {P : A → B → Type 0} (l : List A) (m : List B) → All (λ x. All (λ y. P x y) m) l → All (λ y. All (λ x. P x y) l) m
  all_flip l [] a = nil
  all_flip l (y ∷ m) a = cons (all_map (λ x h. all_head h) a) (all_flip l m (all_map (λ x h. all_tail h) a))

module _ {A B C : Type 0} where
  pub all_pairs : {P : C → Type 0} (f : A → B → C) (l : List A) (m : List B) → All P (pairs f l m) ↔ All (λ x. All (λ y. P (f x y)) m) l
  unfolding pairs
  all_pairs f [] m = (λ a. nil, λ a. nil)
  all_pairs f (x ∷ l) m =
      let ih = all_pairs f l m in
      let c = all_append (map (f x) m) (pairs f l m) in
      let d = all_mapped (f x) m in
      (λ a. cons (d.0 (c.0 a).0) (ih.0 (c.0 a).1), λ a. c.1 (d.1 (all_head a), ih.1 (all_tail a)))

module _ {A : Type 0} where
  -- a computed test of every element
  pub every-all : (f : A → Bool) (l : List A) → every f l ≡ true → All (λ x. f x ≡ true) l
  every-all f [] e = nil
  every-all f (x ∷ l) e = cons (and_left (f x) (every f l) e) (every-all f l (and_right (f x) (every f l) e))

  pub all_in : {P : A → Type 0} {x : A} {l : List A} → All P l → In x l → P x
  all_in {P = P} nil i = elim i [ ]
  all_in {P = P} (cons h t) (here e) = subst P (sym e) h
  all_in {P = P} (cons h t) (there i) = all_in t i

  -- one element more behind the others
  pub every_last : (f : A → Bool) (l : List A) (x : A) → every f (l ++ x ∷ []) ≡ (every f l && f x)
  every_last f [] x = and-true (f x)
  every_last f (y ∷ l) x = ap (λ (b : Bool). f y && b) (every_last f l x) ∙ sym (and_assoc (f y) (every f l) (f x))

  -- two tests in one
  pub every-both : (f g : A → Bool) (l : List A) → every (λ x. f x && g x) l ≡ (every f l && every g l)
  every-both f g [] = refl
  every-both f g (x ∷ l) = ap (λ (b : Bool). (f x && g x) && b) (every-both f g l) ∙ and_mixed (f x) (g x) (every f l) (every g l)

  -- the elements of two lists that pass a test
  pub filter-append : (f : A → Bool) (l m : List A) → filter f (l ++ m) ≡ filter f l ++ filter f m
  unfolding filter
  filter-append f [] m = refl
  filter-append f (x ∷ l) m = go (f x) (filter-append f l m)
    where
      go : (b : Bool) → filter f (l ++ m) ≡ filter f l ++ filter f m → cond b (x ∷ filter f (l ++ m)) (filter f (l ++ m)) ≡ cond b (x ∷ filter f l) (filter f l) ++ filter f m
      go true e = ap {B = List A} (λ k. x ∷ k) e
      go false e = e

  pub length-filter : (f : A → Bool) (l : List A) → length (filter f l) ≤ length l
  unfolding filter
  length-filter f [] = zero-le
  length-filter f (x ∷ l) = go (f x) (length-filter f l)
    where
      go : (b : Bool) → length (filter f l) ≤ length l → length (cond b (x ∷ filter f l) (filter f l)) ≤ suc (length l)
      go true h = omega arith
      go false h = omega arith
