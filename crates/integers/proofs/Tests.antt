-- Computed tests read as facts. Assumes nothing.
use mathlib.Core.Path.{◌≡◌, refl, sym, ap, ◌∙◌, subst}
use mathlib.Core.Bool.{Bool, true, false, not, cond, ◌&&◌, ◌||◌}
use mathlib.Core.Logic.{◌⊎◌, inl, inr}
use Prim.Native.Nat.{ℕ, zero, suc, zero-le}
use native.Mathlib.Nat.{zero-lt-suc}
use borrow.Author.Tests.{ltb-true, ltb-false, le-leb, lt-leb, lt-ltb, le-ltb}
use lib.Dec.{T, leb, ltb}
use lib.IntN.{ℤ, pos, negsuc, ◌+ℤ◌, ◌-ℤ◌, +ℤ_idl, -ℤ-+ℤ_cancel}
use lib.Signed.{le_z, lt_z}
use Rattle.integers.specs.Signs.{is_zero, isAbove, isBelow}

pub T_of : {b : Bool} → b ≡ true → T b
T_of e = subst T (sym e) tt

pub true_of : {b : Bool} → T b → b ≡ true
true_of {b = true} t = refl
true_of {b = false} t = absurd t

pub not-both : {G : Type 0} → false ≡ true → G
not-both e = absurd (subst T (sym e) tt)

pub false_of : (b : Bool) → (b ≡ true → ⊥) → b ≡ false
false_of true f = absurd (f refl)
false_of false f = refl

pub and_left : (a b : Bool) → (a && b) ≡ true → a ≡ true
and_left true b e = refl
and_left false b e = e

pub and_right : (a b : Bool) → (a && b) ≡ true → b ≡ true
and_right true b e = e
and_right false b e = not-both e

pub and_none : (a b : Bool) → b ≡ false → false ≡ (a && b)
and_none true b e = sym e
and_none false b e = refl

pub and_all : (a b : Bool) → b ≡ true → a ≡ (a && b)
and_all true b e = sym e
and_all false b e = refl

pub and_mixed : (a b c d : Bool) → ((a && b) && (c && d)) ≡ ((a && c) && (b && d))
and_mixed true true c d = refl
and_mixed true false true d = refl
and_mixed true false false d = refl
and_mixed false b c d = refl

pub or_true : (a b : Bool) → (a || b) ≡ true → (a ≡ true) ⊎ (b ≡ true)
or_true true b e = inl refl
or_true false b e = inr e

pub or-false : (a b : Bool) → (a || b) ≡ false → (a ≡ false) × (b ≡ false)
or-false true b e = not-both (sym e)
or-false false b e = (refl, e)

pub not_or : (a b : Bool) → not (a || b) ≡ (not a && not b)
not_or true b = refl
not_or false b = refl

-- two tests that come true together are the same
pub same_test : (a b : Bool) → (a ≡ true → b ≡ true) → (b ≡ true → a ≡ true) → a ≡ b
same_test true b f g = sym (f refl)
same_test false true f g = g refl
same_test false false f g = refl

-- what a choice came from
pub split : {A G : Type 0} (b : Bool) (x y z : A) → cond b x y ≡ z → (b ≡ true → x ≡ z → G) → (b ≡ false → y ≡ z → G) → G
split true x y z e f g = f refl e
split false x y z e f g = g refl e

pub zero_of : (z : ℤ) → is_zero z ≡ true → z ≡ pos 0
zero_of (pos zero) t = refl
zero_of (pos (suc n)) t = not-both t
zero_of (negsuc n) t = not-both t

-- a number is zero, above zero or below it
pub one_of_three : {P : Type 0} (z : ℤ) → (T (is_zero z) → P) → (T (isAbove z) → P) → (T (isBelow z) → P) → P
one_of_three (pos zero) f g h = f tt
one_of_three (pos (suc n)) f g h = g tt
one_of_three (negsuc n) f g h = h tt

-- the two tests of order are each other's opposites
le_not_lt : (m n : ℕ) → leb n m ≡ not (ltb m n)
le_not_lt m n = go (ltb m n) refl
  where
    go : (b : Bool) → ltb m n ≡ b → leb n m ≡ not b
    go true e = lt-leb n m (ltb-true m n e)
    go false e = le-leb n m (ltb-false m n e)

pub le_z_not_lt_z : (x y : ℤ) → le_z y x ≡ not (lt_z x y)
le_z_not_lt_z (pos m) (pos n) = le_not_lt m n
le_z_not_lt_z (pos m) (negsuc n) = refl
le_z_not_lt_z (negsuc m) (pos n) = refl
le_z_not_lt_z (negsuc m) (negsuc n) = le_not_lt n m

-- the sign by the test of order
pub above_lt : (z : ℤ) → isAbove z ≡ lt_z (pos 0) z
above_lt (pos zero) = refl
above_lt (pos (suc n)) = sym (lt-ltb 0 (suc n) (zero-lt-suc n))
above_lt (negsuc n) = refl

pub below_lt : (z : ℤ) → isBelow z ≡ lt_z z (pos 0)
below_lt (pos n) = sym (le-ltb n 0 zero-le)
below_lt (negsuc n) = refl

-- two numbers are the same where their difference is 0
pub from_difference : (x y : ℤ) → x -ℤ y ≡ pos 0 → x ≡ y
from_difference x y e = sym (-ℤ-+ℤ_cancel x y) ∙ ap (λ (t : ℤ). t +ℤ y) e ∙ +ℤ_idl y
