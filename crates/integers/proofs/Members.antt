-- Laws of `In`: members of lists put together. Assumes nothing.
use mathlib.Core.Path.{◌≡◌, refl}
use mathlib.Core.Logic.{◌⊎◌, inl, inr, ⊎_elim}
use mathlib.Core.List.{List, [], ◌∷◌, ◌++◌}
use Rattle.integers.specs.Lists.{In, here, there}

module _ {A : Type 0} where
  pub in_cons : {x y : A} {l : List A} → In x (y ∷ l) → (x ≡ y) ⊎ In x l
  in_cons (here e) = inl e
  in_cons (there i) = inr i

  pub in_none : {G : Type 0} {x : A} (l : List A) → l ≡ [] → In x l → G
  in_none {G} {x} l e i = absurd (rw e at (some i))
    where
      Some : List A → Type 0
      Some [] = ⊥
      Some (y ∷ l) = Unit {0}

      some : {l : List A} → In x l → Some l
      some (here f) = tt
      some (there j) = tt

  pub in_one : {x y : A} → In x (y ∷ []) → x ≡ y
  in_one i = ⊎_elim (λ e. e) (λ j. in_none [] refl j) (in_cons i)

  pub in_left : {x : A} {l : List A} (k : List A) → In x l → In x (l ++ k)
  in_left k (here e) = here e
  in_left k (there i) = there (in_left k i)

  pub in_right : {x : A} (l : List A) {k : List A} → In x k → In x (l ++ k)
  in_right [] i = i
  in_right (y ∷ l) i = there (in_right l i)

  pub in_append : {x : A} (l k : List A) → In x (l ++ k) → In x l ⊎ In x k
  in_append [] k i = inr i
  in_append (y ∷ l) k i = ⊎_elim (λ e. inl (here e)) (λ j. ⊎_elim (λ a. inl (there a)) (λ b. inr b) (in_append l k j)) (in_cons i)
