use Rattle.std.proofs.Common.{rules, tests, ◌≡◌, not, length, ◌∙◌, arith}
use Rattle.std.specs.List.{filter}
use Rattle.std.proofs.lemmas.Iterator.{YieldsList-from_slice}
use Rattle.std.proofs.lemmas.Iterator.Consumers.{YieldsList-from_filter, count_from_yields_List}
use Rattle.integers.specs.Signs.{is_zero}
use Rattle.frames.proofs.Overwriting.{terms-counted, terms-few}
use Rattle.frames.proofs.answers.term_number.Goals as goal

pub returns : goal.returns
returns c =
    let e = c.args.e in
    let long : length e ≡ 16 = search rules in
    let n : c.count.result ≡ length (filter (λ z. not (is_zero z)) e) =
    count_from_yields_List c.filter.result c.count.result c.count.ensures.ran (YieldsList-from_filter _ (λ z. not (is_zero z)) (YieldsList-from_slice e cc) c.filter.ensures.closure (λ x b q k. search (rules, tests))) in
    (n ∙ terms-counted e, omega (arith, terms-few e, terms-counted e))
