use Rattle.std.proofs.Common.{◌≡◌, rules, arith, sym, ◌∙◌, pos, neg_ℤ, map, length, to_z, of_z, w32, to_z-of_z}
use lib.IntN.{◌-ℤ◌, +ℤ_idl}
use lib.ListN.{length-map, get_or-map}
use Rattle.integers.proofs.Bounds.{fits_abs, natAbs_neg}
use Rattle.integers.proofs.FromFn.{from_fn_is}
use Rattle.rows.specs.Rows.{at}
use Rattle.rows.proofs.Row.negated.Goals as goal

pub returns : goal.returns
returns c =
    let l = c.args.self.entries in
    let long : length l ≡ 16 = search rules in
    let e =
    from_fn_is _ _ c.from_fn.result (pos 0) (λ i. to_z w32 (of_z w32 (pos 0 -ℤ at l i))) (λ i y q k. search rules) 16 (map neg_ℤ l) c.from_fn.ensures.items (length-map l neg_ℤ ∙ long)
    (λ i k. rw (+ℤ_idl (neg_ℤ (at l i))) (to_z-of_z {w = w32} (fits_abs (neg_ℤ (at l i)) (omega (arith, natAbs_neg (at l i), c.requires i)))) ∙ sym (get_or-map neg_ℤ l i (pos 0))) in
    rw e
