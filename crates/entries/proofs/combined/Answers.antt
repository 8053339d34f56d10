use Rattle.std.proofs.Common.{rules, pos, get_or, sym, ◌∙◌, ◌≡◌, length, ◌+ℤ◌, ◌*ℤ◌}
use mathlib.Core.Path.{ap₂}
use Rattle.integers.proofs.FromFn.{from_fn_is}
use Rattle.entries.specs.Entries.{plus, times}
use Rattle.entries.proofs.Sums.{at-plus, at-times, length-plus, length-times}
use Rattle.entries.proofs.combined.Goals as goal

pub returns : goal.returns
returns c =
    let z = c.args in
    let a : length z.x ≡ 16 = search rules in
    let b : length z.y ≡ 16 = search rules in
    let m = length-times z.b z.x in
    let n = length-times z.a z.y in
    from_fn_is _ _ _ (pos 0) (λ i. z.b *ℤ get_or z.x i (pos 0) +ℤ z.a *ℤ get_or z.y i (pos 0)) (λ i y q k. search rules)
    16 (plus (times z.b z.x) (times z.a z.y)) c.from_fn.ensures.items (length-plus _ _ (m ∙ a ∙ sym (n ∙ b)) ∙ m ∙ a)
    (λ i k. sym (at-plus (times z.b z.x) (times z.a z.y) i ∙ ap₂ ◌+ℤ◌ (at-times z.b z.x i) (at-times z.a z.y i)))
