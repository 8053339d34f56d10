-- `sets::clear_from` meets its contract: what is filled is what the zeros of the whole rows are from there on.
use Rattle.std.proofs.Common.{◌≡◌, ◌++◌, ◌-◌, ◌*◌, ◌/◌, length, take, drop, replicate, List, ℤ, pos}
use lib.ListN.{length-drop}
use lib.Seq.{length-take-le}
use mathlib.Core.Path.{ap}
use borrow.Rule.Slice.PartMut.{Post-is}
use native.Mathlib.Omega.{arith}
use Rattle.std.proofs.lemmas.List.{drop-replicate, drop-append-le, length-replicate}
use Rattle.sets.specs.Stores.{zeroed}
use Rattle.sets.proofs.clear_from.Goals as goal

pub returns : goal.returns
unfolding zeroed
returns c =
    let z = c.args in
    let from = z.row * 17 in
    let whole = length z.s.now / 17 * 17 in
    let room : length (take (whole - from) (drop from z.s.now)) ≡ whole - from = omega (arith, length-take-le (whole - from) (drop from z.s.now) (omega (arith, length-drop from z.s.now, c.requires)), length-drop from z.s.now) in
    rw (c.fill.ensures.after (λ y h. h), room, drop-append-le from (replicate whole (pos 0)) (drop whole z.s.now) (omega (arith, length-replicate whole (pos 0), c.requires)), drop-replicate from whole (pos 0))
    (ap (λ (l : List ℤ). take from z.s.now ++ (replicate (whole - from) (pos 0) ++ l)) (Post-is from whole z.s.now (omega (arith, c.requires))))
