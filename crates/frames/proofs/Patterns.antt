-- Two's complement by sums: a negative number's pattern is 2^32 more, and a pattern whose first bit is set is read as 2^32 less. Assumes nothing.
use mathlib.Core.Path.{◌≡◌, refl, sym}
use mathlib.Core.Bool.{true, false}
use Prim.Native.Nat.{ℕ, suc, ◌-◌, ◌^◌, ◌≤◌, ◌<◌}
use native.Mathlib.Omega.{arith}
use borrow.Author.Tests.{le-ltb, ltb-true}
use lib.IntN.{ℤ, pos, negsuc, nat_abs, ◌+ℤ◌}
use lib.Signed.{mag, lt_z}
use Rattle.integers.proofs.Tests.{not-both}
use Rattle.frames.specs.Hex.{pattern, signed}

module _ (n : ℕ) (fits : n < 2 ^ 31) where
  pub up-pattern : negsuc n +ℤ pos 4294967296 ≡ pos (2 ^ 32 - suc n)
  up-pattern = rw (le-ltb 4294967296 (suc n) (omega arith))

  pub up-fits : 2 ^ 32 - suc n < 2 ^ 32
  up-fits = omega arith

pub up_is : (z : ℤ) → lt_z z (pos 0) ≡ true → mag z < 2 ^ 31 → (z +ℤ pos 4294967296 ≡ pos (pattern z)) × (pattern z < 2 ^ 32)
up_is (pos n) e h = absurd (omega (arith, ltb-true n 0 e))
up_is (negsuc n) e h = (up-pattern n h, up-fits n h)

pub same-is : (z : ℤ) → lt_z z (pos 0) ≡ false → mag z < 2 ^ 31 → (nat_abs z ≡ pattern z) × (nat_abs z < 2 ^ 32)
same-is (pos n) e h = (refl, omega arith)
same-is (negsuc n) e h = not-both (sym e)

module _ (n : ℕ) (high : 2 ^ 31 ≤ n) (fits : n < 2 ^ 32) where
  pub signed_below : signed n ≡ negsuc (2 ^ 32 - suc n)
  signed_below = rw (le-ltb n (2 ^ 31) high)
