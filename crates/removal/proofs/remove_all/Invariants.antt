-- `removal::remove_all`: the variables so far are removed.
use Rattle.std.proofs.Common.{take}
use Rattle.removal.proofs.Turns.{Turned}
use Rattle.removal.proofs.remove_all.Given as goal

abbrev pub invariant-loop-v : goal.invariant-loop-v
invariant-loop-v l = Turned (take l.v-index l.variables) l.initial.first l.initial.second l.fn.s l.first l.second l.done
