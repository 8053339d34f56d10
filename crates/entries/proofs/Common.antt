-- The divisor of a row's entries: it divides each of them, and every common divisor divides it. Assumes nothing.
use mathlib.Core.Path.{◌≡◌, refl, sym, ◌∙◌, ap, subst}
use mathlib.Core.Bool.{true, false}
use mathlib.Core.List.{List, [], ◌∷◌}
use Prim.Native.Nat.{ℕ, zero, suc, ◌∣◌}
use native.Mathlib.Nat.{suc-ne-zero, dvd_refl, dvd_trans, dvd-zero, one-dvd, dvd_antisymm, eq-zero_of_zero-dvd}
use lib.IntN.{ℤ, pos, negsuc, nat_abs}
use Rattle.integers.specs.Gcd.{gcd}
use Rattle.integers.specs.Lists.{All, nil, cons}
use Rattle.integers.specs.Signs.{is_zero}
use Rattle.integers.proofs.Tests.{not-both}
use Rattle.integers.proofs.Lists.{all_head, all_tail, all_map}
use Rattle.integers.proofs.Whole.{IsPos, is_pos}
use Rattle.integers.proofs.Euclid.{gcd-is}
use Rattle.entries.specs.Entries.{gcd_from, or_one, divisor, all_zero}

-- ---- the greatest common divisor of a list
pub gcd_from_divides : (g : ℕ) (l : List ℤ) → (gcd_from g l ∣ g) × All (λ z. gcd_from g l ∣ nat_abs z) l
gcd_from_divides g [] = (dvd_refl g, nil)
gcd_from_divides g (z ∷ l) =
    let ih = gcd_from_divides (gcd g (nat_abs z)) l in
    let h = gcd-is g (nat_abs z) in
    (dvd_trans _ ih.0 h.left, cons (dvd_trans _ ih.0 h.right) ih.1)

pub gcd_from-most : (d g : ℕ) (l : List ℤ) → d ∣ g → All (λ z. d ∣ nat_abs z) l → d ∣ gcd_from g l
gcd_from-most d g [] h a = h
gcd_from-most d g (z ∷ l) h a = gcd_from-most d (gcd g (nat_abs z)) l ((gcd-is g (nat_abs z)).most d h (all_head a)) (all_tail a)

-- it is the only such number, however it is computed
pub gcd_from-only : (d : ℕ) (l : List ℤ) → All (λ z. d ∣ nat_abs z) l → ((e : ℕ) → All (λ z. e ∣ nat_abs z) l → e ∣ d) → d ≡ gcd_from 0 l
gcd_from-only d l a f = dvd_antisymm (gcd_from-most d 0 l (dvd-zero d) a) (f (gcd_from 0 l) (gcd_from_divides 0 l).1)

-- it is 0 only where all of the list is
pub is-zero : (z : ℤ) → nat_abs z ≡ 0 → is_zero z ≡ true
is-zero (pos n) e = ap (λ (m : ℕ). is_zero (pos m)) e
is-zero (negsuc n) e = absurd (suc-ne-zero n e)

all_zero-of : (l : List ℤ) → All (λ z. 0 ∣ nat_abs z) l → all_zero l ≡ true
unfolding all_zero
all_zero-of [] a = refl
all_zero-of (z ∷ l) a = rw (is-zero z (eq-zero_of_zero-dvd (all_head a))) (all_zero-of l (all_tail a))

-- ---- the divisor
or_one_divides : (g m : ℕ) → g ∣ m → or_one g ∣ m
or_one_divides zero m h = one-dvd m
or_one_divides (suc g) m h = h

or_one-pos : (g : ℕ) → IsPos (pos (or_one g))
or_one-pos zero = is_pos 0
or_one-pos (suc g) = is_pos g

pub divisor-pos : (l : List ℤ) → IsPos (pos (divisor l))
unfolding divisor
divisor-pos l = or_one-pos (gcd_from 0 l)

pub divisor_divides : (l : List ℤ) → All (λ z. divisor l ∣ nat_abs z) l
unfolding divisor
divisor_divides l = all_map (λ z h. or_one_divides (gcd_from 0 l) (nat_abs z) h) (gcd_from_divides 0 l).1

-- where not all are zero, the divisor is the greatest common divisor
pub divisor-gcd : (l : List ℤ) → all_zero l ≡ false → divisor l ≡ gcd_from 0 l
unfolding divisor
divisor-gcd l e = go (gcd_from 0 l) (gcd_from_divides 0 l).1
  where
    go : (g : ℕ) → All (λ z. g ∣ nat_abs z) l → or_one g ≡ g
    go zero a = not-both (sym e ∙ all_zero-of l a)
    go (suc g) a = refl

pub divisor-most : (d : ℕ) (l : List ℤ) → all_zero l ≡ false → All (λ z. d ∣ nat_abs z) l → d ∣ divisor l
divisor-most d l e a = subst (λ (g : ℕ). d ∣ g) (sym (divisor-gcd l e)) (gcd_from-most d 0 l (dvd-zero d) a)
