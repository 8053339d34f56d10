use Rattle.std.proofs.Common.{rules, ◌∙◌, sym, leb, nat_abs, ◌&&◌, true, pos, negsuc}
use borrow.Author.Tests.{tests}
use Rattle.std.specs.Int.Signed.{le_z}
use Rattle.std.proofs.lemmas.Iterator.{YieldsList-from_slice}
use Rattle.std.proofs.lemmas.Iterator.Consumers.{fold_from_yields_List}
use Rattle.integers.specs.Limits.{entry_limit}
use Rattle.integers.proofs.Folds.{fold_every, every_by}
use Rattle.entries.specs.Entries.{all_small}
use Rattle.entries.proofs.Fits.{within_is}
use Rattle.entries.proofs.within_limit.Goals as goal

pub returns : goal.returns
unfolding all_small
returns c =
    fold_from_yields_List _ (λ b z. b && (le_z z (pos 1000000000) && le_z (negsuc 999999999) z)) true _ c.fold.ensures.ran (YieldsList-from_slice c.args.l cc) (λ a x b q k. search (rules, tests))
    ∙ fold_every (λ z. le_z z (pos 1000000000) && le_z (negsuc 999999999) z) c.args.l ∙ every_by _ (λ z. leb (nat_abs z) entry_limit) (λ z. sym (within_is z)) c.args.l
