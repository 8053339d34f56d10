-- An array made by calls of a function that changes nothing. Assumes nothing.
use Rattle.std.proofs.Common.{◌≡◌, ℕ, zero, suc, ◌+◌, ◌<◌, List, get_or, ◌∙◌, arith}
use Rattle.std.specs.Array.{IsFromFnResultFrom}
use denote.Param.Members.{Mut, Called}

module _ {F B : Type 0} (g : Mut F (ℕ × Unit {0}) B) (f : F) (v : ℕ → B) (step : (i : ℕ) (y : B) (q : F) → Called g f (i, tt) y q → (q ≡ f) × (y ≡ v i)) where
  made-from : (ys : List B) (a n : ℕ) → IsFromFnResultFrom g f ys a n → (i : ℕ) (d : B) → i < n → get_or ys (a + i) d ≡ v (a + i)
  made-from ys a zero r i d h = absurd (omega arith)
  made-from ys a (suc n) r zero d h = let e : a + 0 ≡ a = omega arith in rw e (r.2.1 d ∙ (step a r.1 r.0 r.3).1)
  made-from ys a (suc n) r (suc i) d h = let e : a + suc i ≡ a + 1 + i = omega arith in rw e (made-from ys (a + 1) n (rw (step a r.1 r.0 r.3).0 at r.4) i d (omega arith))

  pub made-at : (ys : List B) (n : ℕ) → IsFromFnResultFrom g f ys 0 n → (i : ℕ) (d : B) → i < n → get_or ys i d ≡ v i
  made-at ys n r i d h = let e : 0 + i ≡ i = omega arith in rw e at (made-from ys 0 n r i d h)
