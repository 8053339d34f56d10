use Rattle.std.proofs.Common.{rules, tests, ◌≡◌, sym, ◌∙◌}
use Rattle.std.proofs.lemmas.Iterator.{YieldsList-from_slice}
use Rattle.std.proofs.lemmas.Iterator.Search.{all_from_yields_List}
use Rattle.frames.specs.Hex.{word, signed}
use Rattle.frames.specs.Reading.{coefficient_fits}
use Rattle.frames.proofs.Terms.{chunks, terms-tested, coefficient-tested}
use Rattle.frames.proofs.frames.coefficients_fit.Goals as goal

pub returns : goal.returns
returns c =
    let b = c.args.b.now in
    let all : c.all.result ≡ _ = all_from_yields_List (λ t. coefficient_fits (signed (word t 1))) _ _ c.all.result c.all.ensures.ran (YieldsList-from_slice (chunks b) cc) (λ x r q k. search (rules, tests)) in
    all ∙ sym (terms-tested b _ _ (coefficient-tested b))
