-- `removal::part` meets its contract.
use Rattle.std.proofs.Common.{rules}
use mathlib.Core.Path.{refl, sym}
use lib.ListN.{length}
use lib.Seq.{length-take-le}
use Rattle.removal.proofs.Ends.{end_within, none_taken}
use Rattle.removal.proofs.part.Goals as goal

pub returns-in_default : goal.returns-in_default
returns-in_default c = rw c.in_default.is (record { numbers = none_taken (length c.args.first.now) c.args.first.now; place = refl })

pub slice_bounds-result-end : goal.slice_bounds-result-end
slice_bounds-result-end c = search rules

pub slice_bounds-result-end-2 : goal.slice_bounds-result-end-2
slice_bounds-result-end-2 c = let t = c.if-s.store.now in sym (length-take-le _ t (rw c.part_end-end.ensures (end_within (length t) c.in-Ok.s.rows)))
