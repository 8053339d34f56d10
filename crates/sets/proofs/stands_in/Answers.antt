-- `sets::stands_in` meets its contract.
use Rattle.std.proofs.Common.{◌*◌, refl, ◌∙◌, rules, tests}
use Rattle.std.proofs.lemmas.Iterator.{YieldsList-from_range}
use Rattle.std.proofs.lemmas.Iterator.Search.{any_from_yields_List}
use native.Mathlib.Nat.{sub-zero}
use Rattle.rows.specs.Rows.{row_numbers, same_row, row_at}
use Rattle.sets.proofs.Tests.{stands-each}
use Rattle.sets.proofs.stands_in.Goals as goal

pub returns : goal.returns
returns c =
    let z = c.args in
    any_from_yields_List (λ i. same_row z.r (row_at z.s.now (i * row_numbers))) _ _ _ c.any.ensures.ran
    (YieldsList-from_range 0 z.n z.n refl (sub-zero z.n)) (λ x b q k. search (rules, tests))
    ∙ stands-each z.r z.s.now z.n 0
