-- `search quote` reads a term of ℤ into an expression, so that an equation of polynomials is `auto (x ∷ y ∷ []) (search quote) (search quote) tt`.
use mathlib.Core.Path.{◌≡◌, refl, sym, ◌∙◌, ap, ap₂}
use mathlib.Core.List.{List, ◌∷◌}
use Prim.Native.Nat.{ℕ}
use lib.Dec.{T}
use lib.IntN.{ℤ, pos, negsuc, ◌+ℤ◌, ◌*ℤ◌, neg_ℤ}
use Rattle.integers.proofs.Ring.{Ex, var, num, neg, ◌⊕◌, ◌⊗◌, ◌⊖◌, den, norm, vanishes, solve}

pub record Q (ρ : List ℤ) (x : ℤ) : Type 0 where
  pub ex : Ex
  pub is : den ρ ex ≡ x

abbrev pub q+ : (ρ : List ℤ) (x y : ℤ) → Q ρ x → Q ρ y → Q ρ (x +ℤ y)
q+ ρ x y a b = record { ex = a.ex ⊕ b.ex; is = ap₂ ◌+ℤ◌ a.is b.is }

abbrev pub q* : (ρ : List ℤ) (x y : ℤ) → Q ρ x → Q ρ y → Q ρ (x *ℤ y)
q* ρ x y a b = record { ex = a.ex ⊗ b.ex; is = ap₂ ◌*ℤ◌ a.is b.is }

abbrev pub q- : (ρ : List ℤ) (x : ℤ) → Q ρ x → Q ρ (neg_ℤ x)
q- ρ x a = record { ex = neg a.ex; is = ap neg_ℤ a.is }

abbrev pub qn : (ρ : List ℤ) (n : ℕ) → Q ρ (pos n)
qn ρ n = record { ex = num (pos n); is = refl }

abbrev pub qm : (ρ : List ℤ) (n : ℕ) → Q ρ (negsuc n)
qm ρ n = record { ex = num (negsuc n); is = refl }

abbrev pub q0 : (ρ : List ℤ) (x : ℤ) → Q (x ∷ ρ) x
q0 ρ x = record { ex = var 0; is = refl }

abbrev pub q1 : (ρ : List ℤ) (a x : ℤ) → Q (a ∷ x ∷ ρ) x
q1 ρ a x = record { ex = var 1; is = refl }

abbrev pub q2 : (ρ : List ℤ) (a b x : ℤ) → Q (a ∷ b ∷ x ∷ ρ) x
q2 ρ a b x = record { ex = var 2; is = refl }

abbrev pub q3 : (ρ : List ℤ) (a b c x : ℤ) → Q (a ∷ b ∷ c ∷ x ∷ ρ) x
q3 ρ a b c x = record { ex = var 3; is = refl }

abbrev pub q4 : (ρ : List ℤ) (a b c d x : ℤ) → Q (a ∷ b ∷ c ∷ d ∷ x ∷ ρ) x
q4 ρ a b c d x = record { ex = var 4; is = refl }

abbrev pub q5 : (ρ : List ℤ) (a b c d e x : ℤ) → Q (a ∷ b ∷ c ∷ d ∷ e ∷ x ∷ ρ) x
q5 ρ a b c d e x = record { ex = var 5; is = refl }

abbrev pub q6 : (ρ : List ℤ) (a b c d e f x : ℤ) → Q (a ∷ b ∷ c ∷ d ∷ e ∷ f ∷ x ∷ ρ) x
q6 ρ a b c d e f x = record { ex = var 6; is = refl }

abbrev pub q7 : (ρ : List ℤ) (a b c d e f g x : ℤ) → Q (a ∷ b ∷ c ∷ d ∷ e ∷ f ∷ g ∷ x ∷ ρ) x
q7 ρ a b c d e f g x = record { ex = var 7; is = refl }

pub ruleset quote = (q0, q1, q2, q3, q4, q5, q6, q7, qn, qm, q-, q*, q+)

pub auto : (ρ : List ℤ) {x y : ℤ} (a : Q ρ x) (b : Q ρ y) → T (vanishes (norm (a.ex ⊖ b.ex))) → x ≡ y
auto ρ a b t = sym a.is ∙ solve ρ a.ex b.ex t ∙ b.is
