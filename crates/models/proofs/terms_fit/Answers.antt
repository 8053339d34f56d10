-- The entries are compared with zeros all at once, and then each with the limit.
use Rattle.std.proofs.Common.{rules, tests, ◌≡◌, true, false, leb, ℤ, nat_abs, not, sym, ap, ◌∙◌}
use Rattle.std.proofs.lemmas.Iterator.{YieldsList-from_slice}
use Rattle.std.proofs.lemmas.Iterator.Search.{all_from_yields_List}
use Rattle.integers.specs.Limits.{given_limit}
use Rattle.integers.specs.Lists.{every}
use Rattle.integers.specs.Signs.{is_zero}
use Rattle.models.specs.Acceptance.{terms_fit}
use Rattle.models.proofs.Tests.{all_zeros}
use Rattle.models.proofs.terms_fit.Goals as goal

pub returns-then-ne : goal.returns-then-ne
unfolding terms_fit
returns-then-ne c =
    let test = λ (z : ℤ). leb (nat_abs z) given_limit in
    let each : c.all.result ≡ every test c.args.e = all_from_yields_List test _ _ _ c.all.ensures.ran (YieldsList-from_slice c.args.e cc) (λ x b q k. search (rules, tests)) in
    let some : not (every is_zero c.args.e) ≡ true = sym (ap not (all_zeros 16 c.args.e (search rules))) ∙ sym c.ne.ensures ∙ c.if-ne.true in
    rw some each

pub returns-else-ne : goal.returns-else-ne
unfolding terms_fit
returns-else-ne c =
    let none : not (every is_zero c.args.e) ≡ false = sym (ap not (all_zeros 16 c.args.e (search rules))) ∙ sym c.ne.ensures ∙ c.if-ne.false in
    rw none c.if-ne.false
