-- `removal::flags_fit` meets its contract.
use Rattle.std.proofs.Common.{◌+◌, ◌*◌, refl, ◌∙◌, rules, tests}
use Rattle.std.proofs.lemmas.Iterator.{YieldsList-from_range}
use Rattle.std.proofs.lemmas.Iterator.Search.{all_from_yields_List}
use native.Mathlib.Nat.{sub-zero}
use lib.ListN.{get_or}
use lib.IntN.{pos}
use Rattle.rows.specs.Rows.{entry_count, row_numbers}
use Rattle.removal.specs.Alone.{is_flag, flags_fit}
use Rattle.removal.proofs.AtOnce.{flags-each}
use Rattle.removal.proofs.flags_fit.Goals as goal

pub returns : goal.returns
unfolding flags_fit
returns c =
    let z = c.args in
    all_from_yields_List (λ i. is_flag (get_or z.s.now (i * row_numbers + entry_count) (pos 0))) _ _ _ c.all.ensures.ran
    (YieldsList-from_range 0 z.n z.n refl (sub-zero z.n)) (λ x b q k. search (rules, tests))
    ∙ flags-each z.s.now z.n 0
