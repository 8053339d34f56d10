-- An element of an array of signed integers is within the type's range: from what a need is handed of the array, by `search`. Assumes nothing.
use mathlib.Core.Path.{subst}
use mathlib.Core.List.{List, [], ◌∷◌, map, map-id}
use Prim.Native.Nat.{ℕ, zero, suc, ◌^◌, ◌≤◌, ◌<◌}
use lib.Dec.{lit<}
use lib.ListN.{get_or}
use lib.IntN.{ℤ, pos, nat_abs}
use lib.Signed.{mag, nat_abs-le}
use mir.Syntax.{Width, w8, w16, w32, w64, w128}
use mir.Val.{Val, hbits}
use denote.Array.{each}
use denote.Shadow.{shadow}
use denote.Signed.{SInt}

zero-mag : (w : Width) → 0 < 2 ^ hbits w
zero-mag w8 = lit< tt
zero-mag w16 = lit< tt
zero-mag w32 = lit< tt
zero-mag w64 = lit< tt
zero-mag w128 = lit< tt

-- the array itself, as `c.good` of a parameter and `.ok` of a call's result have it
elem_mag : (w : Width) (xs : List ℤ) (us : List Val) (i : ℕ) → shadow (each ℤ (SInt w).own_val xs us) → mag (get_or xs i (pos 0)) < 2 ^ hbits w
elem_mag w [] us i p = zero-mag w
elem_mag w (x ∷ xs) [] i p = absurd p
elem_mag w (x ∷ xs) (u ∷ us) zero p = p.0.1
elem_mag w (x ∷ xs) (u ∷ us) (suc i) p = elem_mag w xs us i p.1

-- a field of a struct
elem_mag_field : (w : Width) (xs : List ℤ) (us : List Val) (i : ℕ) → shadow (each ℤ (SInt w).own_val (map (λ (v : ℤ). v) xs) us) → mag (get_or xs i (pos 0)) < 2 ^ hbits w
elem_mag_field w xs us i p = elem_mag w xs us i (subst (λ (ys : List ℤ). shadow (each ℤ (SInt w).own_val ys us)) (map-id xs) p)

-- the same at an `i32`, in a form that `search (needs, i32_field)` finds
pub i32_array : (xs : List ℤ) (us : List Val) (i : ℕ) → shadow (each ℤ (SInt w32).own_val xs us) → nat_abs (get_or xs i (pos 0)) ≤ 2147483648
i32_array xs us i p = nat_abs-le (get_or xs i (pos 0)) (elem_mag w32 xs us i p)

pub i32_field : (xs : List ℤ) (us : List Val) (i : ℕ) → shadow (each ℤ (SInt w32).own_val (map (λ (v : ℤ). v) xs) us) → nat_abs (get_or xs i (pos 0)) ≤ 2147483648
i32_field xs us i p = nat_abs-le (get_or xs i (pos 0)) (elem_mag_field w32 xs us i p)
