-- `removal::pairs::join_with`: the pairs left, joined to what there is, give what all of them joined give.
use Rattle.std.proofs.Common.{◌≡◌, length, drop, map}
use Rattle.rows.specs.Rows.{paired, row_at}
use Rattle.sets.specs.Stores.{Left, progress, Ready, put_all}
use Rattle.removal.specs.Pairs.{rows_of}
use Rattle.removal.proofs.pairs.join_with.Given as goal

abbrev pub invariant-loop-j : goal.invariant-loop-j
invariant-loop-j l =
    (length l.to ≡ length l.initial.to) × Ready l.to l.d × Left (progress l.to l.d) l.initial.to l.to l.d ×
    (put_all (map (paired l.v (row_at l.from l.p)) (rows_of l.from (drop l.j-index l.lowers))) (progress l.to l.d) ≡ put_all (map (paired l.v (row_at l.from l.p)) (rows_of l.from l.lowers)) (progress l.initial.to l.fn.c))
