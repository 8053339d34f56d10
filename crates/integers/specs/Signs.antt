-- A whole number's sign, and tests of it.
use Rattle.std.specs.Prelude.{Bool, true, false, zero, suc, ℤ, pos, negsuc}

abbrev pub is_zero : ℤ → Bool
is_zero (pos zero) = true
is_zero (pos (suc n)) = false
is_zero (negsuc n) = false

abbrev pub isAbove : ℤ → Bool
isAbove (pos zero) = false
isAbove (pos (suc n)) = true
isAbove (negsuc n) = false

abbrev pub isBelow : ℤ → Bool
isBelow (pos n) = false
isBelow (negsuc n) = true

-- 1, 0 or −1
abbrev pub sign : ℤ → ℤ
sign (pos zero) = pos 0
sign (pos (suc n)) = pos 1
sign (negsuc n) = negsuc 0
