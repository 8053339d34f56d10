use Rattle.std.proofs.Common.{rules, leb, nat_abs}
use borrow.Author.Tests.{tests}
use Rattle.std.proofs.lemmas.Iterator.{YieldsList-from_slice}
use Rattle.std.proofs.lemmas.Iterator.Search.{all_from_yields_List}
use Rattle.integers.specs.Limits.{entry_limit}
use Rattle.entries.specs.Entries.{all_small}
use Rattle.entries.proofs.all_small.Goals as goal

pub returns : goal.returns
unfolding all_small
returns c =
    all_from_yields_List (λ z. leb (nat_abs z) entry_limit) _ _ _ c.all.ensures.ran (YieldsList-from_slice c.args.l cc) (λ x b q k. search (rules, tests))
