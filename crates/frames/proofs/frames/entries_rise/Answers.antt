use Rattle.std.proofs.Common.{rules, tests, ltb}
use Rattle.std.proofs.lemmas.List.Sorted.{answers_always}
use Rattle.frames.specs.Hex.{byte}
use Rattle.frames.proofs.Terms.{rising}
use Rattle.frames.proofs.frames.entries_rise.Goals as goal

pub returns : goal.returns
returns c =
    let all = c.is_sorted_by.ensures.cases (λ x y. ltb (byte x 0) (byte y 0)) (answers_always _ _ _ (λ f a r f' k. search (rules, tests))) in
    rising c.args.b.now c.is_sorted_by.result (rw c.terms.ensures at all)
