-- `sets::join`: the rows left, joined to what there is, give what all of them joined give.
use Rattle.std.proofs.Common.{◌≡◌, ◌+◌, ◌-◌, ◌*◌, length}
use Rattle.sets.specs.Sets.{joined}
use Rattle.sets.specs.Stores.{rows_at, set_in, Left, progress, Ready, put_all}
use Rattle.sets.proofs.join.Given as goal

abbrev pub invariant-loop-i : goal.invariant-loop-i
invariant-loop-i l =
    (length l.to ≡ length l.initial.to) × Ready l.to l.c × Left (progress l.to l.c) l.initial.to l.to l.c ×
    (put_all (rows_at l.from (l.at + l.i * 17) (l.m - l.i)) (progress l.to l.c) ≡ joined (rows_at l.from l.at l.m) (set_in l.initial.to l.n))
