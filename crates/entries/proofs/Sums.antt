-- Entry by entry: sums and multiples of entries, and one entry changed. Assumes nothing.
use mathlib.Core.Path.{◌≡◌, refl, sym, ap, ◌∙◌}
use mathlib.Core.Logic.{◌≢◌}
use mathlib.Core.List.{List, [], ◌∷◌}
use Prim.Native.Nat.{ℕ, zero, suc, ◌<◌}
use native.Mathlib.Nat.{suc_inj, suc-ne-zero, le_of_suc-le-suc, not-suc-le-zero}
use lib.ListN.{length, set, length-map, length-set}
use lib.IntN.{ℤ, ◌+ℤ◌, ◌*ℤ◌, +ℤ_idl, +ℤ_idr, *ℤ-zero}
use Rattle.entries.specs.Entries.{at, plus, times, with_entry}

pub at-plus : (l m : List ℤ) (v : ℕ) → at (plus l m) v ≡ at l v +ℤ at m v
unfolding plus
at-plus [] m v = sym (+ℤ_idl (at m v))
at-plus (a ∷ l) [] v = sym (+ℤ_idr (at (a ∷ l) v))
at-plus (a ∷ l) (b ∷ m) zero = refl
at-plus (a ∷ l) (b ∷ m) (suc v) = at-plus l m v

pub at-times : (k : ℤ) (l : List ℤ) (v : ℕ) → at (times k l) v ≡ k *ℤ at l v
unfolding times
at-times k [] v = sym (*ℤ-zero k)
at-times k (a ∷ l) zero = refl
at-times k (a ∷ l) (suc v) = at-times k l v

pub length-times : (k : ℤ) (l : List ℤ) → length (times k l) ≡ length l
unfolding times
length-times k l = length-map l _

pub length-plus : (l m : List ℤ) → length l ≡ length m → length (plus l m) ≡ length l
unfolding plus
length-plus [] [] e = refl
length-plus [] (b ∷ m) e = absurd (suc-ne-zero (length m) (sym e))
length-plus (a ∷ l) [] e = refl
length-plus (a ∷ l) (b ∷ m) e = ap suc (length-plus l m (suc_inj e))

-- ---- one entry changed
pub at_with : (v : ℕ) (z : ℤ) (l : List ℤ) → at (with_entry v z l) v ≡ z
unfolding with_entry
at_with zero z [] = refl
at_with zero z (a ∷ l) = refl
at_with (suc v) z [] = at_with v z []
at_with (suc v) z (a ∷ l) = at_with v z l

pub at-with_other : (v i : ℕ) (z : ℤ) (l : List ℤ) → i ≢ v → at (with_entry v z l) i ≡ at l i
unfolding with_entry
at-with_other zero zero z l f = absurd (f refl)
at-with_other zero (suc i) z [] f = refl
at-with_other zero (suc i) z (a ∷ l) f = refl
at-with_other (suc v) zero z [] f = refl
at-with_other (suc v) zero z (a ∷ l) f = refl
at-with_other (suc v) (suc i) z [] f = at-with_other v i z [] (λ e. f (ap suc e))
at-with_other (suc v) (suc i) z (a ∷ l) f = at-with_other v i z l (λ e. f (ap suc e))

-- inside the list it is a store
pub with-set : (v : ℕ) (z : ℤ) (l : List ℤ) → v < length l → with_entry v z l ≡ set l v z
unfolding with_entry
with-set v z [] h = absurd (not-suc-le-zero h)
with-set zero z (a ∷ l) h = refl
with-set (suc v) z (a ∷ l) h = ap {B = List ℤ} (λ k. a ∷ k) (with-set v z l (le_of_suc-le-suc h))

pub length-with : (v : ℕ) (z : ℤ) (l : List ℤ) → v < length l → length (with_entry v z l) ≡ length l
length-with v z l h = ap length (with-set v z l h) ∙ length-set l v z
