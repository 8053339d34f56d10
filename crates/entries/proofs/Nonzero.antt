-- Entries that are not all 0, told by the first that is not and by one that is 1 or −1. Assumes nothing.
use mathlib.Core.Path.{◌≡◌, refl}
use mathlib.Core.Bool.{Bool, true, false, cond, ◌&&◌}
use mathlib.Core.List.{List, [], ◌∷◌}
use Prim.Native.Nat.{zero, suc}
use lib.Dec.{eqb}
use lib.ListN.{drop}
use lib.IntN.{ℤ, pos, negsuc, nat_abs}
use Rattle.integers.specs.Lists.{every}
use Rattle.integers.specs.Signs.{is_zero}
use Rattle.integers.proofs.Tests.{not-both}
use Rattle.entries.specs.Entries.{at, all_zero, has_unit, first_nonzero}

pub first-zero : (l : List ℤ) → is_zero (first_nonzero l) ≡ all_zero l
unfolding first_nonzero all_zero
first-zero [] = refl
first-zero (z ∷ l) = go (is_zero z) refl (first-zero l)
  where
    go : (b : Bool) → is_zero z ≡ b → is_zero (first_nonzero l) ≡ every is_zero l → is_zero (cond b (first_nonzero l) z) ≡ (b && every is_zero l)
    go true e more = more
    go false e more = e

unit_nonzero : (l : List ℤ) → has_unit l ≡ true → all_zero l ≡ false
unfolding has_unit all_zero
unit_nonzero [] e = not-both e
unit_nonzero (pos zero ∷ l) e = unit_nonzero l e
unit_nonzero (pos (suc n) ∷ l) e = refl
unit_nonzero (negsuc n ∷ l) e = refl

-- where the constant is neither it is a variable's
pub unit_variable : (l : List ℤ) → has_unit l ≡ true → eqb (nat_abs (at l 0)) 1 ≡ false → all_zero (drop 1 l) ≡ false
unfolding has_unit
unit_variable [] e f = not-both e
unit_variable (z ∷ l) e f = unit_nonzero l (rw f at e)
