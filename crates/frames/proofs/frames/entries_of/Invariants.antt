use Rattle.std.proofs.Common.{◌≡◌, ◌-◌, length}
use Rattle.integers.specs.Lists.{from}
use Rattle.frames.specs.Reading.{term_count, entries_of}
use Rattle.frames.proofs.frames.entries_of.Given as goal

abbrev pub invariant-loop-t : goal.invariant-loop-t
invariant-loop-t l =
    (goal.iterator-loop-t).can_next l.t-iterator
    × (goal.iterator-loop-t).is_finite l.t-iterator
    × (length l.to ≡ 16)
    × (l.to ≡ entries_of l.b (from (term_count l.b - length l.yielded) (length l.yielded)))
