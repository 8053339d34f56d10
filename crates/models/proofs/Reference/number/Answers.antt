-- The number past the denominator stands one before in the numerators.
use Rattle.std.proofs.Common.{rules, arith, sym}
use Rattle.models.proofs.Setting.{numerator-at, reference-past}
use Rattle.models.proofs.Reference.number.Goals as goal

pub returns-then-i-from : goal.returns-then-i-from
returns-then-i-from c =
    let s = c.args.self in
    let n = numerator-at s.denominator s.numerators c.args.parameters c.args.i (omega arith) (omega arith) in
    rw n (search rules)

pub returns-else-i-from : goal.returns-else-i-from
returns-else-i-from c =
    let s = c.args.self in
    sym (reference-past s.denominator s.numerators c.args.parameters c.args.i (omega arith))
