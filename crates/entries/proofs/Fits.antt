-- What the code needs of entries in 64 bits: sums of products and quotients stay within bounds, and a computed test gives the limit. Assumes nothing.
use mathlib.Core.Path.{◌≡◌, refl, sym, ap₂, ◌∙◌}
use mathlib.Core.Bool.{Bool, true, not, ◌&&◌, ◌||◌}
use mathlib.Core.List.{List, [], ◌∷◌}
use Prim.Native.Nat.{ℕ, zero, suc, ◌≤◌, ◌<◌, zero-le}
use borrow.Author.Tests.{leb-true}
use lib.Dec.{leb, leb-suc-suc}
use lib.IntN.{ℤ, pos, negsuc, neg_ℤ, nat_abs}
use lib.Signed.{le_z, lt_z}
use Rattle.integers.specs.Gcd.{gcd}
use Rattle.integers.specs.Limits.{entry_limit}
use Rattle.integers.specs.Lists.{every}
use Rattle.integers.proofs.Euclid.{gcd_le}
use Rattle.integers.proofs.Tests.{and_left, and_right, and_all, not_or, le_z_not_lt_z}
use Rattle.integers.proofs.Whole.{zed, of-pos}
use Rattle.entries.specs.Entries.{Within, Small, gcd_from, or_one, divisor, all_small}
use Rattle.entries.proofs.Common.{divisor-pos}

-- ---- the divisor
gcd_from_le : (B : ℕ) (l : List ℤ) (g : ℕ) → g ≤ B → Within B l → gcd_from g l ≤ B
gcd_from_le B [] g h w = h
gcd_from_le B (z ∷ l) g h w = gcd_from_le B l (gcd g (nat_abs z)) (gcd_le B g (nat_abs z) h (w 0)) (λ i. w (suc i))

or_one_le : (B g : ℕ) → 1 ≤ B → g ≤ B → or_one g ≤ B
or_one_le B zero h k = h
or_one_le B (suc n) h k = k

pub divisor-above : (l : List ℤ) → 0 < divisor l
divisor-above l = omega (zed, of-pos (divisor-pos l))

pub divisor_le : (B : ℕ) (l : List ℤ) → 1 ≤ B → Within B l → divisor l ≤ B
unfolding divisor
divisor_le B l h w = or_one_le B (gcd_from 0 l) h (gcd_from_le B l 0 zero-le w)

-- the greatest common divisor, or 1 where that is 0
pub divisor-one : (l : List ℤ) (g : ℕ) → g ≡ gcd_from 0 l → g ≡ 0 → 1 ≡ divisor l
unfolding divisor
divisor-one l g e h = rw (← e, h)

pub divisor-same : (l : List ℤ) (g : ℕ) → g ≡ gcd_from 0 l → (g ≡ 0 → ⊥) → g ≡ divisor l
unfolding divisor
divisor-same l zero e f = absurd (f refl)
divisor-same l (suc g) e f = rw (← e)

-- ---- the test of all entries
pub small_of : (l : List ℤ) → all_small l ≡ true → Small l
unfolding all_small
small_of [] e i = zero-le
small_of (z ∷ l) e zero = leb-true _ _ (and_left (leb (nat_abs z) entry_limit) (every (λ z. leb (nat_abs z) entry_limit) l) e)
small_of (z ∷ l) e (suc i) = small_of l (and_right (leb (nat_abs z) entry_limit) (every (λ z. leb (nat_abs z) entry_limit) l) e) i

-- the limit above and below, apart
pub within_is : (z : ℤ) → leb (nat_abs z) entry_limit ≡ (le_z z (pos entry_limit) && le_z (neg_ℤ (pos entry_limit)) z)
within_is (pos n) = and_all (leb n entry_limit) true refl
within_is (negsuc n) = leb-suc-suc n 999999999

pub one-small : (z : ℤ) → leb (nat_abs z) entry_limit ≡ not (lt_z (pos entry_limit) z || lt_z z (neg_ℤ (pos entry_limit)))
one-small z = within_is z ∙ ap₂ {C = Bool} (λ a b. a && b) (le_z_not_lt_z (pos entry_limit) z) (le_z_not_lt_z z (neg_ℤ (pos entry_limit))) ∙ sym (not_or (lt_z (pos entry_limit) z) (lt_z z (neg_ℤ (pos entry_limit))))
