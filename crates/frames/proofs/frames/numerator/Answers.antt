use Rattle.std.proofs.Common.{◌≡◌, ℕ, ◌+◌, ◌*◌, ℤ, pos, map, sym, ◌∙◌, arith, w32}
use lib.ListN.{get_or-eq_default}
use Rattle.integers.specs.Lists.{from}
use Rattle.integers.proofs.Bounds.{back}
use Rattle.models.proofs.Setting.{at-counted, length-counted}
use Rattle.frames.specs.Hex.{word, signed}
use Rattle.frames.proofs.frames.numerator.Goals as goal

pub returns-then-i-from : goal.returns-then-i-from
returns-then-i-from c =
    let b = c.args.b.now in
    let i = c.args.i in
    let e : i * 4 + 4 ≡ (1 + i) * 4 = omega arith in
    back w32 c.word.result c.word.type_inv ∙ (rw e at c.word.ensures) ∙ sym (at-counted (λ j. signed (word b (j * 4))) 1 c.args.h.parameters i (rw c.from.ensures at c.if-i-from.true))

pub returns-else-i-from : goal.returns-else-i-from
returns-else-i-from c =
    let b = c.args.b.now in
    let g : ℕ → ℤ = λ j. signed (word b (j * 4)) in
    sym (get_or-eq_default (map g (from 1 c.args.h.parameters)) (pos 0) {n = c.args.i} (omega (arith, length-counted g 1 c.args.h.parameters)))
