-- The entries and their numbers are tested one by one.
use Rattle.std.proofs.Common.{rules, tests, ℕ, ◌||◌, ◌∙◌}
use Rattle.std.proofs.lemmas.Iterator.{YieldsList-from_slice}
use Rattle.std.proofs.lemmas.Iterator.Search.{all_from_yields_List}
use Rattle.std.proofs.lemmas.Iterator.Consumers.{YieldsList-from_enumerate}
use Rattle.integers.specs.Signs.{is_zero}
use Rattle.models.specs.Acceptance.{entry_declared}
use Rattle.models.proofs.Tests.{every_entry}
use Rattle.models.proofs.entries_declared.Goals as goal

pub returns : goal.returns
returns c =
    let test = λ (x : ℕ × _). is_zero x.1 || entry_declared c.args.h c.args.kind x.0 in
    all_from_yields_List test _ _ _ c.all.ensures.ran (YieldsList-from_enumerate (YieldsList-from_slice c.args.e cc) cc) (λ x b q k. search (rules, tests))
    ∙ every_entry c.args.h c.args.kind 0 c.args.e
