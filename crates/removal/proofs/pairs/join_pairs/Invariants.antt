-- `removal::pairs::join_pairs`: the pairs left, joined to what there is, give what all of them joined give.
use Rattle.std.proofs.Common.{◌≡◌, length, drop}
use Rattle.integers.specs.Lists.{pairs}
use Rattle.rows.specs.Rows.{paired}
use Rattle.sets.specs.Stores.{Left, progress, Ready, put_all}
use Rattle.removal.specs.Pairs.{rows_of}
use Rattle.removal.proofs.pairs.join_pairs.Given as goal

abbrev pub invariant-loop-i : goal.invariant-loop-i
invariant-loop-i l =
    (length l.to ≡ length l.initial.to) × Ready l.to l.d × Left (progress l.to l.d) l.initial.to l.to l.d ×
    (put_all (pairs (paired l.v) (rows_of l.from (drop l.i-index l.uppers)) (rows_of l.from l.lowers)) (progress l.to l.d) ≡
    put_all (pairs (paired l.v) (rows_of l.from l.uppers) (rows_of l.from l.lowers)) (progress l.initial.to l.fn.c))
