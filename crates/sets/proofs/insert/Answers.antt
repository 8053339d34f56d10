-- `sets::insert` meets its contract.
use Rattle.std.proofs.Common.{◌≡◌, ◌≤◌, ◌<◌, List, ℕ, ℤ}
use mathlib.Core.Path.{sym, ◌∙◌}
use native.Mathlib.Numerals.{lt_of_le_of_ne}
use native.Mathlib.Omega.{arith}
use Rattle.std.specs.declared.option.Option.{Option}
use Rattle.std.specs.declared.option.Option.TheVariants.{Some}
use Rattle.rows.specs.declared.Row.{Row}
use Rattle.rows.specs.Rows.{set_rows, row_at}
use Rattle.sets.specs.Sets.{place_of}
use Rattle.sets.specs.Stores.{set_in, HoldsSet}
use Rattle.sets.proofs.Stores.{length-rows_at, wide-row_at}
use Rattle.sets.proofs.Places.{place-within}
use Rattle.sets.proofs.Steps.{left-standing, left_full, left_inserted}
use Rattle.sets.proofs.insert.Goals as goal

pub returns-in_default : goal.returns-in_default
returns-in_default c = left-standing c.args.s.now c.args.n (row_at c.args.x.now c.args.at) c.requires.0 (sym c.in_default.is ∙ c.find.ensures)

-- the place of a row that does not stand there
within : (s : List ℤ) (n k : ℕ) (r : Row) (p : Option ℕ) → p ≡ Some k → p ≡ place_of r (set_in s n) → k ≤ n
within s n k r p e f = rw length-rows_at at (place-within r (set_in s n) k (sym e ∙ f))

few : {s : List ℤ} {n : ℕ} → HoldsSet s n → ¬ (n ≡ set_rows) → n < set_rows
few h e = lt_of_le_of_ne h.few e

pub returns-then-n-eq-ROWS : goal.returns-then-n-eq-ROWS
returns-then-n-eq-ROWS c =
    left_full c.args.s.now c.args.n (row_at c.args.x.now c.args.at) c.requires.0 c.in-Some.k (sym c.in-Some.is ∙ c.find.ensures) c.if-n-eq-ROWS.true

pub shift_up-requires : goal.shift_up-requires
shift_up-requires c =
    (within c.args.s.now _ _ _ _ c.in-Some.is c.find.ensures, omega (arith, few c.requires.0 c.if-n-eq-ROWS.false, c.requires.0.long), c.requires.0.few)

pub overflow_mul-k : goal.overflow_mul-k
overflow_mul-k c = omega (arith, within c.args.s.now _ _ _ _ c.in-Some.is c.find.ensures, c.requires.0.few)

pub write-requires : goal.write-requires
write-requires c =
    omega (arith, within c.args.s.now _ _ _ _ c.in-Some.is c.find.ensures, few c.requires.0 c.if-n-eq-ROWS.false, c.requires.0.long, c.shift_up.auto.s)

pub returns : goal.returns
returns c =
    left_inserted c.args.s.now c.args.n (row_at c.args.x.now c.args.at) c.requires.0 c.in-Some.k (sym c.in-Some.is ∙ c.find.ensures)
    (wide-row_at c.args.x.now c.args.at c.requires.1) (few c.requires.0 c.if-n-eq-ROWS.false) _ _
    c.shift_up.ensures (rw c.read.ensures at c.write.ensures)
