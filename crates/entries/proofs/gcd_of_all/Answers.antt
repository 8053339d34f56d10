use Rattle.std.proofs.Common.{◌≡◌, refl, rules, ◌∙◌, nat_abs, ℕ, ℤ, List, [], ◌∷◌}
use Rattle.std.specs.List.{fold}
use Rattle.std.proofs.lemmas.Iterator.{YieldsList-from_slice}
use Rattle.std.proofs.lemmas.Iterator.Consumers.{fold_from_yields_List}
use Rattle.integers.specs.Gcd.{gcd}
use Rattle.entries.specs.Entries.{gcd_from}
use Rattle.entries.proofs.gcd_of_all.Goals as goal

folded : (g : ℕ) (l : List ℤ) → fold (λ g z. gcd g (nat_abs z)) g l ≡ gcd_from g l
folded g [] = refl
folded g (z ∷ l) = folded (gcd g (nat_abs z)) l

pub returns : goal.returns
returns c =
    fold_from_yields_List _ (λ g z. gcd g (nat_abs z)) 0 _ c.fold.ensures.ran (YieldsList-from_slice c.args.l cc) (λ a x b q k. search rules)
    ∙ folded 0 c.args.l
