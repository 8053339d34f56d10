-- Negation: the negated row holds exactly where the row does not. Assumes nothing.
use mathlib.Core.Path.{◌≡◌, refl, sym, ap₂, ◌∙◌}
use mathlib.Core.Logic.{◌↔◌}
use mathlib.Core.List.{List, [], ◌∷◌, map}
use Prim.Native.Nat.{ℕ, zero, suc}
use lib.IntN.{ℤ, neg_ℤ, ◌+ℤ◌, ◌*ℤ◌, neg_ℤ-+ℤ}
use Rattle.integers.proofs.Whole.{neg-*ℤ}
use Rattle.rows.specs.declared.Row.{Row}
use Rattle.rows.specs.Rows.{at, dot, Holds, negated}
use Rattle.rows.proofs.Sign.{under-not}

pub dot-negated : (l p : List ℤ) → dot (map neg_ℤ l) p ≡ neg_ℤ (dot l p)
unfolding dot
dot-negated [] p = refl
dot-negated (a ∷ l) [] = refl
dot-negated (a ∷ l) (x ∷ p) = ap₂ (λ (s t : ℤ). s +ℤ t) (neg-*ℤ a x) (dot-negated l p) ∙ sym (neg_ℤ-+ℤ (a *ℤ x) (dot l p))

pub negated-holds : (r : Row) (p : List ℤ) → ¬ (Holds p r) ↔ Holds p (negated r)
negated-holds r p = rw (dot-negated r.entries p) (under-not r.strict (dot r.entries p))

pub at-negated : (l : List ℤ) (v : ℕ) → at (map neg_ℤ l) v ≡ neg_ℤ (at l v)
at-negated [] v = refl
at-negated (a ∷ l) zero = refl
at-negated (a ∷ l) (suc v) = at-negated l v
