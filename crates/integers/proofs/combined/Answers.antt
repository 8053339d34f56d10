-- 2 · 10^18 fits
use Rattle.std.proofs.Common.{◌+ℤ◌, ◌*ℤ◌, arith, w64, to_z-of_z}
use mir.Val.{SFits}
use Rattle.integers.proofs.Bounds.{fits_abs, product_le, combined_le}
use Rattle.integers.proofs.combined.Goals as goal

module _ (c : goal.Start) where
  left : SFits w64 (c.args.b *ℤ c.args.x)
  left = fits_abs _ (omega (arith, product_le 1000000000 c.args.b c.args.x c.requires.3 c.requires.0))

  right : SFits w64 (c.args.a *ℤ c.args.y)
  right = fits_abs _ (omega (arith, product_le 1000000000 c.args.a c.args.y c.requires.2 c.requires.1))

  sum : SFits w64 (c.args.b *ℤ c.args.x +ℤ c.args.a *ℤ c.args.y)
  sum = fits_abs _ (omega (arith, combined_le 1000000000 c.args.x c.args.y c.args.a c.args.b c.requires.0 c.requires.1 c.requires.2 c.requires.3))

pub overflow_add-result : goal.overflow_add-result
overflow_add-result c =
    rw (to_z-of_z c.ranges.b, to_z-of_z c.ranges.x, to_z-of_z c.ranges.a, to_z-of_z c.ranges.y, to_z-of_z (left c), to_z-of_z (right c))
    (sum c)

pub returns : goal.returns
returns c =
    rw (to_z-of_z c.ranges.b, to_z-of_z c.ranges.x, to_z-of_z c.ranges.a, to_z-of_z c.ranges.y, to_z-of_z (left c), to_z-of_z (right c))
    (to_z-of_z (sum c))
