use Rattle.std.proofs.Common.{rules, pos, get_or, refl}
use Rattle.integers.specs.Signs.{sign}
use Rattle.integers.proofs.FromFn.{from_fn_map}
use Rattle.entries.proofs.signs.Goals as goal

pub returns : goal.returns
returns c =
    from_fn_map _ _ _ (pos 0) (λ i. sign (get_or c.args.l i (pos 0))) (λ i y q k. search rules)
    sign (pos 0) c.args.l 16 (λ i. refl) c.from_fn.ensures.items (search rules) refl
