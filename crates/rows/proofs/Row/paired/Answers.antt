use Rattle.std.proofs.Common.{◌≡◌, rules, to_z, of_z, w64, neg_ℤ}
use Rattle.rows.specs.Rows.{at}
use Rattle.rows.proofs.Lowering.{within-paired}
use Rattle.rows.proofs.Row.paired.Goals as goal

pub lowered-requires : goal.lowered-requires
lowered-requires c i =
    let z = c.args in
    let a : to_z w64 (of_z w64 c.from-a.result) ≡ at z.self.entries z.v = search rules in
    let b : to_z w64 (of_z w64 c.from-b.result) ≡ neg_ℤ (at z.other.entries z.v) = search rules in
    rw (c.combined-sum.ensures, a, b, c.widened.ensures, c.widened-2.ensures) (within-paired z.v z.self z.other c.requires.1 c.requires.2 i)
