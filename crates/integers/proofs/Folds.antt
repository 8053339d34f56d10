-- Tests of all elements, as `all` and a fold without a way out give them. Assumes nothing.
use Rattle.std.proofs.Common.{◌≡◌, refl, ◌∙◌, Bool, true, false, not, ◌&&◌, ◌||◌, List, [], ◌∷◌, Option, None, Some}
use Rattle.std.specs.List.{fold}
use Rattle.std.specs.Option.{unwrap_or, option_map}
use mathlib.Core.Path.{ap₂}
use mathlib.Core.Bool.{and_assoc}
use Rattle.integers.specs.Lists.{every}
use Rattle.integers.proofs.Tests.{and_all, not_or}

fold_and : {A : Type 0} (f : A → Bool) (l : List A) (b : Bool) → fold (λ b x. b && f x) b l ≡ (b && every f l)
fold_and f [] b = and_all b true refl
fold_and f (x ∷ l) b = fold_and f l (b && f x) ∙ and_assoc b (f x) (every f l)

pub fold_every : {A : Type 0} (f : A → Bool) (l : List A) → fold (λ b x. b && f x) true l ≡ every f l
fold_every f l = fold_and f l true

-- the same test in other words
pub every_by : {A : Type 0} (f g : A → Bool) → ((x : A) → f x ≡ g x) → (l : List A) → every f l ≡ every g l
every_by f g same [] = refl
every_by f g same (x ∷ l) = ap₂ ◌&&◌ (same x) (every_by f g same l)

-- the same by a flag that is set where an element fails
fold_or : {A : Type 0} (g : A → Bool) (l : List A) (b : Bool) → not (fold (λ b x. b || g x) b l) ≡ (not b && every (λ x. not (g x)) l)
fold_or g [] b = and_all (not b) true refl
fold_or g (x ∷ l) b = fold_or g l (b || g x) ∙ rw (not_or b (g x)) (and_assoc (not b) (not (g x)) (every (λ x. not (g x)) l))

pub fold_none : {A : Type 0} (g : A → Bool) (l : List A) → not (fold (λ b x. b || g x) false l) ≡ every (λ x. not (g x)) l
fold_none g l = fold_or g l false

-- what `find` gave, as a clause of `unwrap_or` has it
pub as_found : {A : Type 0} (d : A) (o : Option A) → unwrap_or o d ≡ unwrap_or (option_map (λ x. x) o) d
as_found d None = refl
as_found d (Some x) = refl
