-- Any two results that the writer's contract allows are equal: the answer, and every number of the lent store. Assumes nothing.
-- (What reading and checking leave open needs no law: their contracts are equations with a function of what was handed in.)
use mathlib.Core.Path.{◌≡◌, sym, ◌∙◌}
use mathlib.Core.List.{List}
use Prim.Native.Nat.{ℕ}
use Rattle.std.specs.Prelude.{Option}
use Rattle.frames.specs.Writing.{WrittenIs}

module _ (cs to to₁ to₂ : List ℕ) (r₁ r₂ : Option ℕ) (h : WrittenIs cs to to₁ r₁) (k : WrittenIs cs to to₂ r₂) where
  pub only-written : r₁ ≡ r₂
  only-written = h.count ∙ sym k.count

  pub only_store : to₁ ≡ to₂
  only_store = h.store ∙ sym k.store
