use Rattle.std.proofs.Common.{rules, arith, pos, sym, ◌∙◌, ◌≡◌, length, ◌+ℤ◌, to_z, of_z, w32, to_z-of_z}
use Rattle.integers.proofs.Bounds.{fits_abs, natAbs_add}
use Rattle.integers.proofs.FromFn.{from_fn_is}
use Rattle.entries.specs.Entries.{at, plus}
use Rattle.entries.proofs.Sums.{at-plus, length-plus}
use Rattle.entries.proofs.added.Goals as goal

pub returns : goal.returns
returns c =
    let z = c.args in
    let a : length z.x ≡ 16 = search rules in
    let b : length z.y ≡ 16 = search rules in
    from_fn_is _ _ _ (pos 0) (λ i. to_z w32 (of_z w32 (at z.x i +ℤ at z.y i))) (λ i y q k. search rules)
    16 (plus z.x z.y) c.from_fn.ensures.items (length-plus _ _ (a ∙ sym b) ∙ a)
    (λ i k. to_z-of_z {w = w32} (fits_abs (at z.x i +ℤ at z.y i) (omega (arith, natAbs_add (at z.x i) (at z.y i), c.requires.0 i, c.requires.1 i))) ∙ sym (at-plus z.x z.y i))
