-- `removal::pairs::without` meets its contract.
use Rattle.removal.proofs.Places.{lowers_numbered, uppers_numbered, lowers-small, uppers-small}
use Rattle.removal.proofs.Joins.{untouched_ready, left-joined}
use Rattle.removal.proofs.pairs.without.Goals as goal

pub join_pairs-requires : goal.join_pairs-requires
join_pairs-requires c =
    let z = c.args in
    let e = c.split-s.ensures in
    (untouched_ready z.from.now z.to.now z.n z.v c.requires.0 c.requires.3 _ _ e.untouched_value e.to_after, c.requires.2, rw e.lowers_after (lowers-small z.v z.from.now z.n c.requires.0.holds), rw e.uppers_after (uppers-small z.v z.from.now z.n c.requires.0.holds))

pub returns : goal.returns
returns c =
    let z = c.args in
    let m = z.from.now in
    let e = c.split-s.ensures in
    left-joined m z.to.now z.n z.v c.requires.0 c.requires.3 _ _ e.untouched_value e.to_after _ _ (rw (e.lowers_after, e.uppers_after, lowers_numbered z.v m z.n, uppers_numbered z.v m z.n) at c.join_pairs.ensures)
