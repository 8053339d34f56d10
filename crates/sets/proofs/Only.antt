-- What a step's contract leaves open: nothing where a set is found; where the step is refused only numbers within a set's room, which
-- clearing takes away. Assumes nothing.
use mathlib.Core.Path.{◌≡◌, sym, subst, ◌∙◌}
use mathlib.Core.List.{List}
use Prim.Native.Nat.{◌≤◌}
use lib.ListN.{length}
use lib.IntN.{ℤ}
use Rattle.rows.specs.declared.Row.{Row}
use Rattle.rows.specs.Rows.{set_numbers}
use Rattle.sets.specs.Stores.{Joined, zeroed, Left}
use Rattle.sets.specs.Outcomes.{Result, Ok}
use Rattle.sets.proofs.Stores.{zeroed-touched}
use Rattle.sets.proofs.Steps.{Proper, left-touched}

module _ (x : Result (List Row)) (s s₁ s₂ : List ℤ) (r₁ r₂ : Joined) (h : Left x s s₁ r₁) (k : Left x s s₂ r₂) where
  pub only-answer : r₁ ≡ r₂
  only-answer = h.answer ∙ sym k.answer

  pub only-cleared : Proper x → set_numbers ≤ length s → zeroed s₁ ≡ zeroed s₂
  only-cleared g l = zeroed-touched l (left-touched x s s₁ r₁ g l h) ∙ sym (zeroed-touched l (left-touched x s s₂ r₂ g l k))

  pub only_store : (t : List Row) → x ≡ Ok t → s₁ ≡ s₂
  only_store t e =
      let a : Left (Ok t) s s₁ r₁ = subst (λ (y : Result (List Row)). Left y s s₁ r₁) e h in
      let b : Left (Ok t) s s₂ r₂ = subst (λ (y : Result (List Row)). Left y s s₂ r₂) e k in
      a.store ∙ sym b.store
