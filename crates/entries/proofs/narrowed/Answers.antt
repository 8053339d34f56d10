use Rattle.std.proofs.Common.{rules, arith, pos, to_z, of_z, w32, to_z-of_z}
use Rattle.integers.proofs.Bounds.{fits_abs}
use Rattle.integers.proofs.FromFn.{from_fn_is}
use Rattle.entries.specs.Entries.{at}
use Rattle.entries.proofs.narrowed.Goals as goal

pub returns : goal.returns
returns c =
    let l = c.args.l in
    from_fn_is _ _ _ (pos 0) (λ i. to_z w32 (of_z w32 (at l i))) (λ i y q k. search rules) 16 l c.from_fn.ensures.items (search rules) (λ i k. to_z-of_z {w = w32} (fits_abs (at l i) (omega (arith, c.requires i))))
