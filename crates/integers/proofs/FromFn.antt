-- An array that `from_fn` makes: its element i is what the closure gives of i. Assumes nothing.
use Rattle.std.proofs.Common.{◌≡◌, refl, sym, ◌∙◌, ℕ, zero, suc, ◌+◌, ◌≤◌, ◌<◌, List, map, length, arith}
use lib.ListN.{get_or, length-map, get_or-map}
use lib.Seq.{ext_get_or}
use native.Mathlib.Decide.{ℕ_discrete}
use denote.Param.Members.{Mut}
use Rattle.std.specs.Fn.{Called}
use Rattle.std.specs.Array.{IsFromFnResult, IsFromFnResultFrom}

module _ {F B : Type 0} (g : Mut F (ℕ × Unit {0}) B) (f : F) (ys : List B) (d : B) (h : ℕ → B) (step : (i : ℕ) (y : B) (q : F) → Called g f (i, tt) y q → (q ≡ f) × (y ≡ h i)) where
  from_index : (p : F) → p ≡ f → (i n : ℕ) → IsFromFnResultFrom g p ys i n → (k : ℕ) → i ≤ k → k < i + n → get_or ys k d ≡ h k
  from_index p e i zero r k a b = absurd (omega arith)
  from_index p e i (suc n) (q, y, at, called, more) k a b =
      go (ℕ_discrete k i) (λ u. from_index q told.0 (i + 1) n more k (omega arith) (omega arith))
    where
      told : (q ≡ f) × (y ≡ h i)
      told = step i y q (rw e at called)

      go : Dec (k ≡ i) → (i < k → get_or ys k d ≡ h k) → get_or ys k d ≡ h k
      go (yes e) after = rw e (at.1 d ∙ told.1)
      go (no e) after = after (omega arith)

  pub from_fn_is : (n : ℕ) (l : List B) → IsFromFnResult g f ys n → length l ≡ n → ((i : ℕ) → i < n → h i ≡ get_or l i d) → ys ≡ l
  from_fn_is n l r e same =
      ext_get_or d ys l (r.long ∙ sym e)
      (λ i k. let j : i < n = omega (arith, r.long) in from_index f refl 0 n r.each i (omega arith) (omega arith) ∙ same i j)

  -- where the closure reads one element of a list and maps it
  pub from_fn_map : {A : Type 0} (k : A → B) (e : A) (xs : List A) (n : ℕ) → ((i : ℕ) → h i ≡ k (get_or xs i e)) → IsFromFnResult g f ys n → length xs ≡ n → d ≡ k e → ys ≡ map k xs
  from_fn_map k e xs n reads r long last =
      from_fn_is n (map k xs) r (length-map xs k ∙ long) (λ i j. reads i ∙ sym (rw last (get_or-map k xs i e)))
