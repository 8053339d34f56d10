-- The declared numerators are the first of the table, and each is tested.
use Rattle.std.proofs.Common.{rules, tests, ◌≡◌, true, take, ℤ}
use Rattle.std.proofs.lemmas.Iterator.{YieldsList-from_slice}
use Rattle.std.proofs.lemmas.Iterator.Search.{all_from_yields_List}
use Rattle.integers.specs.Limits.{given_limit}
use Rattle.integers.specs.Lists.{every}
use Rattle.models.specs.Acceptance.{between_whole, reference_fits}
use Rattle.models.proofs.Setting.{declared_numerators}
use Rattle.models.proofs.Reference.fits.Goals as goal

pub returns-then-contains : goal.returns-then-contains
unfolding reference_fits
returns-then-contains c =
    let test = λ (z : ℤ). between_whole 0 z given_limit in
    let ns = take c.args.parameters c.args.self.numerators in
    let each : c.all.result ≡ every test ns = all_from_yields_List test _ _ _ c.all.ensures.ran (YieldsList-from_slice ns cc) (λ x b q k. search (rules, tests)) in
    let first : between_whole 1 c.args.self.denominator given_limit ≡ true = search (rules, tests) in
    rw (declared_numerators c.args.self.numerators c.args.parameters (search rules), first) each

pub returns-else-contains : goal.returns-else-contains
unfolding reference_fits
returns-else-contains c = search (rules, tests)
