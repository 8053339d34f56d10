-- `removal::pairs::split` meets its contract: before row i the rows so far are written or listed.
use Rattle.std.proofs.Common.{rules}
use mathlib.Core.Path.{◌≡◌, refl, sym, ap, ◌∙◌}
use Prim.Native.Nat.{◌*◌}
use native.Mathlib.Omega.{arith}
use lib.ListN.{length}
use lib.Seq.{length-take-le}
use Rattle.integers.specs.Signs.{isAbove, isBelow}
use Rattle.sets.proofs.Stores.{with_rows-none}
use Rattle.removal.specs.Removal.{entry}
use Rattle.removal.specs.Pairs.{row_of, numbers_where}
use Rattle.removal.proofs.Places.{below-read, zero-read, other_read, zero-only, below-only, above-left, number_listed, number_passed, untouched-none, untouched-kept, untouched-passed}
use Rattle.removal.proofs.pairs.split.Goals.{then-e-eq0, else-e-eq0+then-e-lt0, else-e-eq0+else-e-lt0}
use Rattle.removal.proofs.pairs.split.Goals as goal

pub loop-i-init : goal.loop-i-init
unfolding numbers_where
loop-i-init c = (omega arith, omega arith, omega arith, rw untouched-none refl, rw untouched-none (sym (with_rows-none c.args.to.now)), refl, refl)

pub overflow_mul-k : goal.overflow_mul-k
overflow_mul-k c = omega (arith, c.requires.0.stands.room, c.loop-i.invariant.0)

pub write-requires : goal.write-requires
write-requires c = omega (arith, c.requires.0.few, c.requires.2, c.loop-i.invariant.0, c.loop-i.auto.to)

pub bounds-lowers-l : goal.bounds-lowers-l
bounds-lowers-l c = omega (arith, c.requires.0.few, c.requires.3, c.loop-i.invariant.1, c.loop-i.auto.lowers)

pub overflow_add-l : goal.overflow_add-l
overflow_add-l c = omega (arith, c.requires.0.few, c.loop-i.invariant.1)

pub bounds-uppers-u : goal.bounds-uppers-u
bounds-uppers-u c = omega (arith, c.requires.0.few, c.requires.4, c.loop-i.invariant.2, c.loop-i.auto.uppers)

pub overflow_add-u : goal.overflow_add-u
overflow_add-u c = omega (arith, c.requires.0.few, c.loop-i.invariant.2)

pub loop-i-preserved : goal.loop-i-preserved
loop-i-preserved c =
    let z = c.args in
    let m = z.from.now in
    let o = c.loop-i in
    let i = o.i in
    let v = z.v in
    let e = entry v (row_of m i) in
    let few = c.requires.0.few in
    let lows = number_passed isBelow v m i o.lowers o.l o.invariant.5 in
    let ups = number_passed isAbove v m i o.uppers o.u o.invariant.6 in
    let rest = untouched-passed v m i o.k o.to z.to.now o.invariant.3 o.invariant.4 in
    elim c.if-e-eq0.branch [
      | then-e-eq0 w ↦
          let zero = zero-read v m (i * 17) c.requires.1 (search rules) w.if-e-eq0.true in
          let only = zero-only e zero in
          let d = untouched-kept v m i o.k o.to z.to.now o.invariant.3 o.invariant.4 (omega (arith, c.requires.0.stands.room, c.loop-i-test.true)) zero _ _ w.read.ensures w.write.ensures in
          rw (w.to-is, w.lowers-is, w.uppers-is, w.k-is, w.l-is, w.u-is) (omega (arith, o.invariant.0), omega (arith, o.invariant.1), omega (arith, o.invariant.2), d.0, d.1, lows only.0, ups only.1)
      | else-e-eq0+then-e-lt0 w ↦
          let low = below-read v m (i * 17) c.requires.1 (search rules) w.if-e-lt0.true in
          let d = rest (other_read v m (i * 17) c.requires.1 (search rules) w.if-e-eq0.false) in
          rw (w.to-is, w.lowers-is, w.uppers-is, w.k-is, w.l-is, w.u-is) (
            omega (arith, o.invariant.0),
            omega (arith, o.invariant.1),
            omega (arith, o.invariant.2),
            d.0,
            d.1,
            number_listed isBelow v m i o.lowers o.l o.invariant.5 (omega (arith, few, c.requires.3, o.invariant.1, c.loop-i-test.true, o.auto.lowers)) low,
            ups (below-only e low),
          )
      | else-e-eq0+else-e-lt0 w ↦
          let low = below-read v m (i * 17) c.requires.1 (search rules) w.if-e-lt0.false in
          let none = other_read v m (i * 17) c.requires.1 (search rules) w.if-e-eq0.false in
          let d = rest none in
          rw (w.to-is, w.lowers-is, w.uppers-is, w.k-is, w.l-is, w.u-is) (
            omega (arith, o.invariant.0),
            omega (arith, o.invariant.1),
            omega (arith, o.invariant.2),
            d.0,
            d.1,
            lows low,
            number_listed isAbove v m i o.uppers o.u o.invariant.6 (omega (arith, few, c.requires.4, o.invariant.2, c.loop-i-test.true, o.auto.uppers)) (above-left e none low),
          )
    ]

-- behind the loop the last row is passed
last : (c : goal.After-loop-i) → c.loop-i.i ≡ c.args.n
last c = omega (arith, c.loop-i-test.false, c.loop-i.auto.i-end)

pub returns-clause-untouched_value : goal.returns-clause-untouched_value
returns-clause-untouched_value c = rw (last c) at c.loop-i.invariant.3

pub returns-clause-to_after : goal.returns-clause-to_after
returns-clause-to_after c = rw (last c) at c.loop-i.invariant.4

pub returns-clause-lowers_value : goal.returns-clause-lowers_value
returns-clause-lowers_value c =
    let o = c.loop-i in
    sym (length-take-le o.l o.lowers (omega (arith, c.requires.0.few, c.requires.3, o.invariant.1, o.auto.lowers, o.auto.i-end))) ∙ ap length (rw (last c) at o.invariant.5)

pub returns-clause-lowers_after : goal.returns-clause-lowers_after
returns-clause-lowers_after c = rw (last c) at c.loop-i.invariant.5

pub returns-clause-uppers_value : goal.returns-clause-uppers_value
returns-clause-uppers_value c =
    let o = c.loop-i in
    sym (length-take-le o.u o.uppers (omega (arith, c.requires.0.few, c.requires.4, o.invariant.2, o.auto.uppers, o.auto.i-end))) ∙ ap length (rw (last c) at o.invariant.6)

pub returns-clause-uppers_after : goal.returns-clause-uppers_after
returns-clause-uppers_after c = rw (last c) at c.loop-i.invariant.6
