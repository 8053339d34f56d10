-- `sets::put_single` meets its contract: one number set among zeros is the row, and a 1 or −1 stays as it is.
use mir.Facts.{to_z-of_z}
use Rattle.rows.proofs.Units.{unit-stays}
use Rattle.sets.proofs.Stores.{row_of-single}
use Rattle.sets.proofs.put_single.Goals as goal

pub returns : goal.returns
returns c =
    let z = c.args in
    let put = rw (to_z-of_z c.ranges.a, row_of-single z.v z.a c.requires.2) at c.put_row.ensures in
    rw (unit-stays z.v z.a c.requires.1 c.requires.2 c.requires.3) put
