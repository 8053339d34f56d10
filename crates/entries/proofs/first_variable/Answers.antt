use Rattle.std.proofs.Common.{◌≡◌, refl, rules, arith, ap, ◌∙◌, Bool, true, false, cond, not, Option, Some, ℤ, pos, List, [], ◌∷◌, take, drop, w32}
use borrow.Author.Tests.{tests}
use Rattle.std.specs.List.{find}
use Rattle.std.specs.Ordering.{int_eq}
use Rattle.std.specs.Option.{unwrap_or}
use Rattle.std.specs.Slice.Iter.{iter_rest}
use Rattle.std.proofs.lemmas.List.{take_all}
use Rattle.std.proofs.lemmas.Iterator.{YieldsList-from_slice}
use Rattle.std.proofs.lemmas.Iterator.Consumers.{YieldsList-from_copied}
use Rattle.std.proofs.lemmas.Iterator.Search.{find_from_yields_List}
use Rattle.integers.specs.Signs.{is_zero}
use Rattle.integers.proofs.Bounds.{back, zero_is}
use Rattle.integers.proofs.Folds.{as_found}
use Rattle.entries.specs.Entries.{first_nonzero}
use Rattle.entries.proofs.first_variable.Goals as goal

abbrev first : List ℤ → ℤ
first l = unwrap_or (find (λ z. not (int_eq z (pos 0))) l) (pos 0)

found : (l : List ℤ) → first l ≡ first_nonzero l
unfolding first_nonzero
found [] = refl
found (z ∷ l) = go (int_eq z (pos 0)) (is_zero z) (zero_is z) (found l)
  where
    go : (a b : Bool) → a ≡ b → first l ≡ first_nonzero l → unwrap_or (cond (not a) (Some z) (find (λ z. not (int_eq z (pos 0))) l)) (pos 0) ≡ cond b (first_nonzero l) z
    go true b e more = rw (← e) more
    go false b e more = rw (← e) refl

pub returns : goal.returns
returns c =
    let l : List ℤ = drop 1 c.args.l in
    let rest : take 15 l ≡ l = take_all 15 l (grind (arith, rules)) in
    let h = find_from_yields_List (λ z. not (int_eq z (pos 0))) _ _ c.find.result c.find.ensures.ran (YieldsList-from_copied (YieldsList-from_slice (take 15 l) (ap iter_rest c.copied.ensures.source ∙ c.iter.ensures.rest))) (λ x b q k. search (rules, tests)) in
    back w32 c.unwrap_or.result c.unwrap_or.type_inv ∙ c.unwrap_or.ensures ∙ as_found (pos 0) c.find.result ∙ ap (λ (o : Option ℤ). unwrap_or o (pos 0)) (h ∙ ap (find (λ z. not (int_eq z (pos 0)))) rest) ∙ found l
