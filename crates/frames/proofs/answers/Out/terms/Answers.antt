use Rattle.std.proofs.Common.{rules, ◌<◌, length, pos, get_or, arith, w32}
use Rattle.integers.proofs.Bounds.{back}
use Rattle.frames.specs.Hex.{digits_of}
use Rattle.frames.proofs.Overwriting.{terms_digits, terms-done, put-fits, put-next, put-done}
use Rattle.frames.proofs.answers.Out.terms.Goals as goal

pub term-requires : goal.term-requires
term-requires c =
    let within : c.loop-i.i < length c.args.e = omega arith in
    let p = rw (terms_digits c.args.e c.loop-i.i within) at c.loop-i.invariant in
    rw (back w32 (get_or c.args.e c.loop-i.i (pos 0)) (search rules)) (c.loop-i-test.true, put-fits _ _ _ _ _ p c.requires)

pub loop-i-preserved : goal.loop-i-preserved
loop-i-preserved c =
    let within : c.loop-i.i < length c.args.e = omega arith in
    let p = rw (terms_digits c.args.e c.loop-i.i within) at c.loop-i.invariant in
    put-next _ _ _ _ _ p c.requires _ (rw (back w32 (get_or c.args.e c.loop-i.i (pos 0)) (search rules)) at c.term.ensures)

pub returns : goal.returns
unfolding digits_of
returns c = put-done _ _ _ (rw (terms-done c.args.e c.loop-i.i (omega arith)) at c.loop-i.invariant)
