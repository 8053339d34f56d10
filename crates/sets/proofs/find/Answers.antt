-- `sets::find` meets its contract.
use Rattle.std.proofs.Common.{rules, ◌≡◌, ◌+◌, ◌*◌, ◌/◌, ◌<◌, length, List, ℕ}
use mathlib.Core.Path.{sym, ◌∙◌}
use native.Mathlib.Nat.{zero-add}
use native.Mathlib.Omega.{arith}
use borrow.Author.Count.{below_none}
use lib.ListN.{get_or}
use Rattle.rows.specs.declared.Row.{Row}
use Rattle.std.specs.declared.cmp.Ordering.{Ordering}
use Rattle.std.specs.declared.cmp.Ordering.TheVariants.{Less, Greater}
use Rattle.rows.specs.Rows.{empty_row, row_order, row_at}
use Rattle.sets.specs.Stores.{set_in}
use Rattle.sets.proofs.Stores.{length-rows_at, getD_rows_at}
use Rattle.sets.proofs.Places.{after-below, before_above, place_at, place-standing}
use Rattle.sets.proofs.find.Goals as goal

pub loop-low-init : goal.loop-low-init
loop-low-init c = (search rules, search rules, below_none _, λ i h k. absurd (omega (arith, length-rows_at c.args.s.now 0 c.args.n)))

pub overflow_add-mid : goal.overflow_add-mid
overflow_add-mid c = omega (arith, c.requires.0.few, c.loop-low.invariant.1, c.loop-low-test.true)

pub overflow_mul-mid : goal.overflow_mul-mid
overflow_mul-mid c = omega (arith, c.requires.0.few, c.loop-low.invariant.1, c.loop-low-test.true)

pub order_in-requires : goal.order_in-requires
order_in-requires c = (c.requires.1, omega (arith, c.requires.0.stands.room, c.loop-low.invariant.1, c.loop-low-test.true))

-- in a turn: the row, the set, the middle, that it is one of the rows, and how the row stands to it
abbrev row : goal.In-loop-low → Row
row c = row_at c.args.x.now c.args.at

abbrev rows : goal.In-loop-low → List Row
rows c = set_in c.args.s.now c.args.n

abbrev middle : goal.In-loop-low → ℕ
middle c = (c.loop-low.low + c.loop-low.high) / 2

among : (c : goal.In-loop-low) → middle c < length (rows c)
among c = rw length-rows_at (omega (arith, c.loop-low.invariant.1, c.loop-low-test.true))

told : (c : goal.In-loop-low) (r o : Ordering) → r ≡ row_order (row c) (row_at c.args.s.now (middle c * 17)) → r ≡ o → row_order (row c) (get_or (rows c) (middle c) empty_row) ≡ o
told c r o f e =
    let m : middle c < c.args.n = omega (arith, c.loop-low.invariant.1, c.loop-low-test.true) in
    rw (getD_rows_at c.args.s.now 0 c.args.n (middle c) empty_row m, zero-add) (sym f ∙ e)

pub loop-low-preserved-in-Less : goal.loop-low-preserved-in-Less
loop-low-preserved-in-Less c =
    (omega (arith, c.loop-low-test.true), omega (arith, c.loop-low.invariant.1, c.loop-low-test.true), c.loop-low.invariant.2, before_above (row c.before.before) c.requires.0.ordered empty_row (middle c.before.before) (among c.before.before) (told c.before.before _ Less c.order_in.ensures c.in-Less.is))

pub returns-in-Equal : goal.returns-in-Equal
returns-in-Equal c = place-standing (row c.before.before) c.requires.0.ordered empty_row (middle c.before.before) (among c.before.before) (told c.before.before _ _ c.order_in.ensures c.in-Equal.is)

pub loop-low-preserved : goal.loop-low-preserved
loop-low-preserved c =
    (omega (arith, c.loop-low-test.true), c.loop-low.invariant.1, after-below (row c.before.before) c.requires.0.ordered empty_row (middle c.before.before) (among c.before.before) (told c.before.before _ Greater c.order_in.ensures c.in-Greater.is), c.loop-low.invariant.3)

pub returns : goal.returns
returns c =
    let e : c.loop-low.high ≡ c.loop-low.low = omega (arith, c.loop-low.invariant.0, c.loop-low-test.false) in
    place_at (row_at c.args.x.now c.args.at) (set_in c.args.s.now c.args.n) empty_row c.loop-low.low (rw length-rows_at (omega (arith, c.loop-low.invariant.0, c.loop-low.invariant.1))) c.loop-low.invariant.2 (rw e at c.loop-low.invariant.3)
