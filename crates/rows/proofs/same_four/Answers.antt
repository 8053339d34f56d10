use Rattle.std.proofs.Common.{◌≡◌, ◌∙◌, sym, ap, ◌+◌, ◌-◌, ℤ, true, ◌&&◌, List, take, drop, rules, arith}
use borrow.Author.Tests.{tests}
use Rattle.std.specs.Ordering.{int_eq}
use Rattle.std.specs.List.{zip}
use Rattle.std.specs.Slice.Iter.{iter_rest}
use Rattle.std.proofs.lemmas.Iterator.{YieldsList-from_slice, YieldsList-from_zip}
use Rattle.std.proofs.lemmas.Iterator.Consumers.{fold_from_yields_List}
use Rattle.integers.proofs.Folds.{fold_every}
use Rattle.rows.proofs.Stores.{length_part}
use Rattle.rows.proofs.Blocks.{zip_same}
use Rattle.rows.proofs.same_four.Goals as goal

pub returns : goal.returns
returns c =
    let z = c.args in
    let l : List ℤ = take 4 (drop z.a z.s.now) in
    let m : List ℤ = take 4 (drop z.b z.t.now) in
    let h : z.a + 4 - z.a ≡ 4 = omega arith in
    let k : z.b + 4 - z.b ≡ 4 = omega arith in
    fold_from_yields_List _ (λ b (p : ℤ × ℤ). b && int_eq p.0 p.1) true _ c.fold.ensures.ran
    (YieldsList-from_zip (YieldsList-from_slice l (ap iter_rest c.zip.ensures.first ∙ c.iter.ensures.rest ∙ ap (λ n. take n (drop z.a z.s.now)) h)) (YieldsList-from_slice m (ap iter_rest c.zip.ensures.second ∙ c.iter-2.ensures.rest ∙ ap (λ n. take n (drop z.b z.t.now)) k)))
    (λ a x b q k. search (rules, tests))
    ∙ fold_every (λ (p : ℤ × ℤ). int_eq p.0 p.1) (zip l m)
    ∙ zip_same l m (length_part 4 z.a z.s.now (omega arith) ∙ sym (length_part 4 z.b z.t.now (omega arith)))
