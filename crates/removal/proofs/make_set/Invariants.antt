-- `removal::make_set`: the rows left, joined one by one to the set so far, give what all of them give.
use Rattle.std.proofs.Common.{◌≡◌, ◌+◌, ◌-◌, ◌*◌, length, []}
use Rattle.sets.specs.Sets.{joined}
use Rattle.sets.specs.Stores.{rows_at, Left, progress, Ready, put_all}
use Rattle.removal.proofs.Making.{Growing}
use Rattle.removal.proofs.make_set.Given as goal

abbrev pub invariant-loop-i : goal.invariant-loop-i
invariant-loop-i l =
    (length l.s ≡ length l.initial.s) × Ready l.s l.c × Left (progress l.s l.c) l.initial.s l.s l.c × Growing (progress l.s l.c) l.i ×
    (put_all (rows_at l.initial.s (0 + l.i * 17) (l.n - l.i)) (progress l.s l.c) ≡ joined (rows_at l.initial.s 0 l.n) [])
