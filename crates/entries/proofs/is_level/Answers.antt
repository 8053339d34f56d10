use Rattle.std.proofs.Common.{◌≡◌, refl, rules, ap, ◌∙◌, eqb, nat_abs, Bool, ◌&&◌, ◌||◌, not, true, false, ℤ, pos, neg_ℤ}
use borrow.Author.Tests.{tests}
use mathlib.Core.Path.{ap₂}
use Rattle.std.specs.Ordering.{int_eq}
use Rattle.std.proofs.lemmas.Iterator.{YieldsList-from_slice}
use Rattle.std.proofs.lemmas.Iterator.Consumers.{fold_from_yields_List}
use Rattle.integers.specs.Signs.{is_zero}
use Rattle.integers.proofs.Bounds.{zero_is, either_sign}
use Rattle.integers.proofs.Folds.{fold_none, every_by}
use Rattle.entries.specs.Entries.{is_level}
use Rattle.entries.proofs.is_level.Goals as goal

-- as the code tests an entry: it fails where it is none of the three
abbrev fails : ℤ → ℤ → Bool
fails x z = (not (int_eq z (pos 0)) && not (int_eq z x)) && not (int_eq z (neg_ℤ x))

three : (a b c : Bool) → not ((not a && not b) && not c) ≡ (a || (b || c))
three true b c = refl
three false true c = refl
three false false true = refl
three false false false = refl

pub returns : goal.returns
unfolding is_level
returns c =
    let x = c.args.x in
    ap not (fold_from_yields_List _ (λ b z. b || fails x z) false _ c.fold.ensures.ran (YieldsList-from_slice c.args.l cc) (λ a x b q k. search (rules, tests)))
    ∙ fold_none (fails x) c.args.l
    ∙ every_by (λ z. not (fails x z)) (λ z. is_zero z || eqb (nat_abs z) (nat_abs x)) (λ z. three (int_eq z (pos 0)) (int_eq z x) (int_eq z (neg_ℤ x)) ∙ ap₂ ◌||◌ (zero_is z) (either_sign z x)) c.args.l
