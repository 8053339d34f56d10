use Rattle.std.proofs.Common.{◌≡◌, refl, sym, ◌∙◌, Bool, true, false, ◌||◌, List, [], ◌∷◌, ℤ, pos, negsuc, nat_abs, eqb}
use mathlib.Core.Bool.{or-false}
use lib.Dec.{eqb-suc-suc}
use Rattle.entries.specs.Entries.{same, has, has_unit}
use Rattle.entries.proofs.has_unit.Goals as goal

-- the tests for 1 and for −1, entry by entry
or-mixed : (a b c d : Bool) → ((a || b) || (c || d)) ≡ ((a || c) || (b || d))
or-mixed true b c d = refl
or-mixed false true true d = refl
or-mixed false true false d = refl
or-mixed false false c d = refl

one : (z : ℤ) → (same z (pos 1) || same z (negsuc 0)) ≡ eqb (nat_abs z) 1
one (pos n) = or-false (eqb n 1)
one (negsuc n) = sym (eqb-suc-suc n 0)

either : (l : List ℤ) → (has (pos 1) l || has (negsuc 0) l) ≡ has_unit l
unfolding has has_unit
either [] = refl
either (z ∷ l) = or-mixed (same z (pos 1)) (has (pos 1) l) (same z (negsuc 0)) (has (negsuc 0) l) ∙ rw (one z, either l)

pub returns : goal.returns
returns c = rw (c.has.ensures, c.has-2.ensures) (either c.args.l)
