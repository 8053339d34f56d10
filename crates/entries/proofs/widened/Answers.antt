use Rattle.std.proofs.Common.{rules, pos, get_or, refl}
use Rattle.integers.proofs.FromFn.{from_fn_is}
use Rattle.entries.proofs.widened.Goals as goal

pub returns : goal.returns
returns c =
    from_fn_is _ _ _ (pos 0) (λ i. get_or c.args.from i (pos 0)) (λ i y q k. search rules) 16 c.args.from c.from_fn.ensures.items (search rules) (λ i k. refl)
