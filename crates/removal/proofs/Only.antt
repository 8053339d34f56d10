-- The contracts allow one result each, as far as they speak of it. Assumes nothing.
use mathlib.Core.Path.{◌≡◌, sym, subst, ◌∙◌}
use mathlib.Core.Bool.{Bool}
use mathlib.Core.List.{List}
use Prim.Native.Nat.{ℕ, ◌*◌, ◌≤◌}
use lib.ListN.{length, take}
use lib.IntN.{ℤ}
use denote.Ref.{Bor}
use Rattle.rows.specs.declared.Row.{Row}
use Rattle.rows.specs.Rows.{row_numbers, set_numbers}
use Rattle.sets.specs.Outcomes.{Outcome, Result, Ok}
use Rattle.sets.specs.Stores.{zeroed}
use Rattle.sets.proofs.Stores.{zeroed-touched}
use Rattle.removal.specs.declared.Placed.{Placed}
use Rattle.removal.specs.Alone.{pick, Moved, RemovedAlone, PartIs, RemovedPart}

-- removal called alone: the answer, and every number of both stores
pub only-alone : {count : ℕ} {vs : List ℕ} {a b a₁ b₁ a₂ b₂ : List ℤ} {r₁ r₂ : Result Placed} → RemovedAlone count vs a b a₁ b₁ r₁ → RemovedAlone count vs a b a₂ b₂ r₂ →
    (r₁ ≡ r₂) × (a₁ ≡ a₂) × (b₁ ≡ b₂)
only-alone h k = (h.answer ∙ sym k.answer, h.first ∙ sym k.first, h.second ∙ sym k.second)

-- a part: its numbers, and where it lies
pub only_part : {a b p q : Bor (List ℤ)} {r : Result Placed} → PartIs a b r p → PartIs a b r q → (p.now ≡ q.now) × (p.ref_ptr ≡ q.ref_ptr)
only_part h k = (h.numbers ∙ sym k.numbers, h.place ∙ sym k.place)

-- with the outcome
pub only-removed : {count : ℕ} {vs : List ℕ} {a b p q : Bor (List ℤ)} {n m : Outcome} → RemovedPart count vs a b n p → RemovedPart count vs a b m q →
    (n ≡ m) × (p.now ≡ q.now) × (p.ref_ptr ≡ q.ref_ptr)
only-removed h k = (h.answer ∙ sym k.answer, h.numbers ∙ sym k.numbers, h.place ∙ sym k.place)

-- an inner step between two stores: the answer and the set that is found; what else stands within a set's room is open until it is cleared
module _ (second : Bool) (x : Result (List Row)) (a b a₁ b₁ a₂ b₂ : List ℤ) (r₁ r₂ : Result Placed) (h : Moved second x a b a₁ b₁ r₁) (k : Moved second x a b a₂ b₂ r₂) where
  pub only-answer : r₁ ≡ r₂
  only-answer = h.answer ∙ sym k.answer

  pub only-front : (t : List Row) → x ≡ Ok t → take (length t * row_numbers) (pick second a₁ b₁) ≡ take (length t * row_numbers) (pick second a₂ b₂)
  only-front t e =
      let f : Moved second (Ok t) a b a₁ b₁ r₁ = subst (λ (y : Result (List Row)). Moved second y a b a₁ b₁ r₁) e h in
      let g : Moved second (Ok t) a b a₂ b₂ r₂ = subst (λ (y : Result (List Row)). Moved second y a b a₂ b₂ r₂) e k in
      f.front ∙ sym g.front

  pub only-cleared : set_numbers ≤ length a → set_numbers ≤ length b → (zeroed a₁ ≡ zeroed a₂) × (zeroed b₁ ≡ zeroed b₂)
  only-cleared l m = (
    zeroed-touched l h.first_touched ∙ sym (zeroed-touched l k.first_touched),
    zeroed-touched m h.second_touched ∙ sym (zeroed-touched m k.second_touched),
  )
