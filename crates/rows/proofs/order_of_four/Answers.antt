use Rattle.std.proofs.Common.{◌≡◌, sym, ap, ◌∙◌, ◌+◌, ◌-◌, Option, ℤ, List, take, drop, rules, arith}
use borrow.Author.Tests.{tests}
use Rattle.std.specs.declared.cmp.Ordering.{Ordering}
use Rattle.std.specs.declared.cmp.Ordering.TheVariants.{Equal}
use Rattle.std.specs.Ordering.{int_cmp, is_ne}
use Rattle.std.specs.Option.{unwrap_or}
use Rattle.std.specs.Slice.Iter.{iter_rest}
use Rattle.std.proofs.lemmas.Iterator.{YieldsList-from_slice, YieldsList-from_zip, YieldsList-from_map}
use Rattle.std.proofs.lemmas.Iterator.Consumers.{YieldsList-at}
use Rattle.std.proofs.lemmas.Iterator.Search.{find_from_yields_List}
use Rattle.integers.proofs.Folds.{as_found}
use Rattle.rows.proofs.Stores.{length_part}
use Rattle.rows.proofs.Blocks.{first_differs}
use Rattle.rows.proofs.order_of_four.Goals as goal

pub returns : goal.returns
returns c =
    let z = c.args in
    let l : List ℤ = take 4 (drop z.a z.s.now) in
    let m : List ℤ = take 4 (drop z.b z.t.now) in
    let h : z.a + 4 - z.a ≡ 4 = omega arith in
    let k : z.b + 4 - z.b ≡ 4 = omega arith in
    let both = YieldsList-from_zip (YieldsList-from_slice l (ap iter_rest c.zip.ensures.first ∙ c.iter.ensures.rest ∙ ap (λ n. take n (drop z.a z.s.now)) h)) (YieldsList-from_slice m (ap iter_rest c.zip.ensures.second ∙ c.iter-2.ensures.rest ∙ ap (λ n. take n (drop z.b z.t.now)) k)) in
    let found = find_from_yields_List is_ne c.find.new.self _ c.find.result c.find.ensures.ran (YieldsList-from_map _ (λ (p : ℤ × ℤ). int_cmp p.0 p.1) (YieldsList-at c.map.ensures.source both) c.map.ensures.closure (λ x r q k. search rules)) (λ x b q k. search (rules, tests)) in
    c.unwrap_or.ensures ∙ as_found Equal c.find.result ∙ ap (λ (o : Option Ordering). unwrap_or o Equal) found ∙ first_differs l m (length_part 4 z.a z.s.now (omega arith) ∙ sym (length_part 4 z.b z.t.now (omega arith)))
