use Rattle.std.proofs.Common.{rules, pos, get_or, refl, sym, ap}
use Rattle.std.specs.Int.Signed.{quot_z}
use Rattle.std.proofs.Math.Nat.{zero-div}
use Rattle.integers.proofs.FromFn.{from_fn_map}
use Rattle.entries.proofs.quotients.Goals as goal

pub returns : goal.returns
returns c =
    from_fn_map _ _ _ (pos 0) (λ i. quot_z (get_or c.args.l i (pos 0)) (pos c.args.d)) (λ i y q k. search rules)
    (λ z. quot_z z (pos c.args.d)) (pos 0) c.args.l 16 (λ i. refl) c.from_fn.ensures.items (search rules) (ap pos (sym (zero-div c.args.d)))
