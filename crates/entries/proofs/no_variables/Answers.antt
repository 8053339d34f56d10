use Rattle.std.proofs.Common.{rules, arith, ◌≡◌, ◌∙◌, ap, take, drop, pos, ℤ, List}
use borrow.Author.Tests.{tests}
use Rattle.std.proofs.lemmas.List.{take_all}
use Rattle.std.proofs.lemmas.Iterator.{YieldsList-from_slice}
use Rattle.std.proofs.lemmas.Iterator.Search.{all_from_yields_List}
use Rattle.std.specs.List.{list_all}
use Rattle.std.specs.Ordering.{int_eq}
use Rattle.integers.specs.Signs.{is_zero}
use Rattle.integers.proofs.Bounds.{zero_is}
use Rattle.integers.proofs.Folds.{every_by}
use Rattle.entries.specs.Entries.{all_zero}
use Rattle.entries.proofs.no_variables.Goals as goal

pub returns : goal.returns
unfolding all_zero
returns c =
    let l : List ℤ = drop 1 c.args.l in
    let rest : take 15 l ≡ l = take_all 15 l (grind (arith, rules)) in
    all_from_yields_List (λ z. int_eq z (pos 0)) _ _ _ c.all.ensures.ran (YieldsList-from_slice (take 15 l) c.iter.ensures.rest) (λ x b q k. search (rules, tests))
    ∙ ap (list_all (λ z. int_eq z (pos 0))) rest ∙ every_by (λ z. int_eq z (pos 0)) is_zero zero_is l
