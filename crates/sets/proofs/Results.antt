-- Steps that may be refused: what a found result tells of the steps. Assumes nothing.
use mathlib.Core.Path.{◌≡◌, refl, sym, ap, subst}
use Rattle.sets.specs.declared.Refusal.{Refusal}
use Rattle.sets.specs.Outcomes.{Result, Ok, Err, and_then}

abbrev is_found : {A : Type 0} → Result A → Type 0
is_found (Ok a) = Unit {0}
is_found (Err n) = ⊥

pub refused-not : {A G : Type 0} {n : Refusal} {a : A} → Err n ≡ Ok a → G
refused-not e = absurd (subst is_found (sym e) tt)

abbrev value_or : {A : Type 0} → A → Result A → A
value_or d (Ok a) = a
value_or d (Err n) = d

pub found-same : {A : Type 0} {a b : A} → ◌≡◌ {A = Result A} (Ok a) (Ok b) → a ≡ b
found-same {A} {a} {b} e = ap (value_or a) e

-- two steps found something: so did the first, and the second of that
pub record Then {A B : Type 0} (o : Result A) (f : A → Result B) (b : B) : Type 0 where
  pub mid : A
  pub first : o ≡ Ok mid
  pub second : f mid ≡ Ok b

pub then_found : {A B : Type 0} (o : Result A) (f : A → Result B) (b : B) → and_then o f ≡ Ok b → Then o f b
unfolding and_then
then_found (Ok a) f b e = record { mid = a; first = refl; second = e }
then_found (Err n) f b e = refused-not e

-- three steps grouped one way or the other
pub then-then : {A B C : Type 0} (x : Result A) (f : A → Result B) (g : B → Result C) → and_then (and_then x f) g ≡ and_then x (λ a. and_then (f a) g)
unfolding and_then
then-then (Ok a) f g = refl
then-then (Err n) f g = refl
