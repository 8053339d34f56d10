use Rattle.std.proofs.Common.{◌≡◌, refl, ◌∙◌, ap, true, ◌||◌, ℤ, pos, negsuc, List, [], ◌∷◌, to_z-of_z}
use mathlib.Core.Path.{ap₂}
use borrow.Author.Tests.{eqb-true, eq-eqb}
use Rattle.std.specs.List.{list_any}
use Rattle.std.specs.Ordering.{int_eq}
use Rattle.std.proofs.lemmas.Bool.Decides.{Decides-int_eq, same_from_decides}
use Rattle.integers.proofs.Tests.{not-both}
use Rattle.entries.specs.Entries.{same, has}
use Rattle.entries.proofs.has.Goals as goal

same_of : (z x : ℤ) → z ≡ x → same z x ≡ true
same_of z x e = rw e (self x)
  where
    self : (x : ℤ) → same x x ≡ true
    self (pos n) = eq-eqb n n refl
    self (negsuc n) = eq-eqb n n refl

is_same : (z x : ℤ) → same z x ≡ true → z ≡ x
is_same (pos m) (pos n) e = ap pos (eqb-true m n e)
is_same (pos m) (negsuc n) e = not-both e
is_same (negsuc m) (pos n) e = not-both e
is_same (negsuc m) (negsuc n) e = ap negsuc (eqb-true m n e)

any_has : (x : ℤ) (l : List ℤ) → list_any (λ z. int_eq z x) l ≡ has x l
unfolding has
any_has x [] = refl
any_has x (z ∷ l) = ap₂ ◌||◌ (same_from_decides _ _ (Decides-int_eq z x) (is_same z x, same_of z x)) (any_has x l)

pub returns : goal.returns
returns c = c.contains.ensures.value ∙ rw (to_z-of_z c.ranges.x) (any_has c.args.x c.args.l)
