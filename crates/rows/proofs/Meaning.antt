-- Laws of `dot`, what a row comes to at a point: linear on both sides, one variable taken apart, rows of one variable.
-- For any width. Assumes nothing.
use mathlib.Core.Path.{◌≡◌, refl, sym, ◌∙◌, ap, ap₂}
use mathlib.Core.Bool.{true}
use mathlib.Core.Logic.Iff
use mathlib.Core.Logic.{◌↔◌}
use mathlib.Core.List.{List, [], ◌∷◌, ◌++◌}
use Prim.Native.Nat.{ℕ, zero, suc}
use native.Mathlib.Omega.{arith}
use lib.ListN.{length, set, replicate}
use lib.Seq.{set-set}
use lib.IntN.{ℤ, pos, negsuc, neg_ℤ, ◌+ℤ◌, ◌*ℤ◌, +ℤ_idl, +ℤ_idr, +ℤ_comm, +ℤ_assoc, *ℤ_comm, *ℤ-zero, zero-*ℤ}
use lib.Signed.{◌≤ℤ◌}
use Rattle.integers.specs.Lists.{every}
use Rattle.integers.specs.Signs.{is_zero}
use Rattle.integers.proofs.Tests.{and_left, and_right, zero_of}
use Rattle.integers.proofs.Whole.{ring, zed, up_neg, dn-neg, neg-*ℤ, one-*ℤ}
use Rattle.rows.specs.declared.Row.{Row}
use Rattle.rows.specs.Rows.{at, dot, plus, times, with_entry, single, all_zero, Holds}
use Rattle.entries.proofs.Sums.{at_with}
use Rattle.rows.proofs.Sign.{under_dec}

-- ---- it is linear, on both sides
pub dot-nil : (l : List ℤ) → dot l [] ≡ pos 0
unfolding dot
dot-nil [] = refl
dot-nil (a ∷ l) = refl

pub dot_comm : (l p : List ℤ) → dot l p ≡ dot p l
unfolding dot
dot_comm [] [] = refl
dot_comm [] (x ∷ p) = refl
dot_comm (a ∷ l) [] = refl
dot_comm (a ∷ l) (x ∷ p) = ap₂ (λ (s t : ℤ). s +ℤ t) (*ℤ_comm a x) (dot_comm l p)

-- the steps of the inductions are over variables alone, since a clause that calls itself may hold no `simp` that sorts
step-plus : (a b x r s : ℤ) → (a +ℤ b) *ℤ x +ℤ (r +ℤ s) ≡ (a *ℤ x +ℤ r) +ℤ (b *ℤ x +ℤ s)
step-plus a b x r s = simp ring

step-times : (k a x r : ℤ) → (k *ℤ a) *ℤ x +ℤ k *ℤ r ≡ k *ℤ (a *ℤ x +ℤ r)
step-times k a x r = simp ring

step-point : (k a x r : ℤ) → a *ℤ (k *ℤ x) +ℤ k *ℤ r ≡ k *ℤ (a *ℤ x +ℤ r)
step-point k a x r = simp ring

step-rest : (a r : ℤ) → a +ℤ r ≡ (pos 0 +ℤ r) +ℤ a
step-rest a r = rw +ℤ_idl (+ℤ_comm a r)

pub dot-plus : (l m p : List ℤ) → dot (plus l m) p ≡ dot l p +ℤ dot m p
unfolding dot plus
dot-plus [] m p = sym (+ℤ_idl (dot m p))
dot-plus (a ∷ l) [] p = sym (+ℤ_idr (dot (a ∷ l) p))
dot-plus (a ∷ l) (b ∷ m) [] = refl
dot-plus (a ∷ l) (b ∷ m) (x ∷ p) = rw (dot-plus l m p) (step-plus a b x (dot l p) (dot m p))

pub dot-times : (k : ℤ) (l p : List ℤ) → dot (times k l) p ≡ k *ℤ dot l p
unfolding dot times
dot-times k [] p = sym (*ℤ-zero k)
dot-times k (a ∷ l) [] = sym (*ℤ-zero k)
dot-times k (a ∷ l) (x ∷ p) = rw (dot-times k l p) (step-times k a x (dot l p))

pub dot-point : (k : ℤ) (l p : List ℤ) → dot l (times k p) ≡ k *ℤ dot l p
dot-point k l p = dot_comm l (times k p) ∙ dot-times k p l ∙ ap (λ (t : ℤ). k *ℤ t) (dot_comm p l)

-- ---- two points that agree, as rationals with the denominators E and D, wherever the row looks
step_weigh : (D E a x y r s : ℤ) → a *ℤ (D *ℤ y) ≡ a *ℤ (E *ℤ x) → D *ℤ s ≡ E *ℤ r → D *ℤ (a *ℤ y +ℤ s) ≡ E *ℤ (a *ℤ x +ℤ r)
step_weigh D E a x y r s e f = sym (step-point D a y s) ∙ ap₂ (λ (t u : ℤ). t +ℤ u) e f ∙ step-point E a x r

both_zero : (D E : ℤ) → D *ℤ pos 0 ≡ E *ℤ pos 0
both_zero D E = *ℤ-zero D ∙ sym (*ℤ-zero E)

pub dot_weigh : (D E : ℤ) (l p q : List ℤ) → length q ≡ length p → ((i : ℕ) → at l i *ℤ (D *ℤ at q i) ≡ at l i *ℤ (E *ℤ at p i)) → D *ℤ dot l q ≡ E *ℤ dot l p
unfolding dot
dot_weigh D E [] p q n f = both_zero D E
dot_weigh D E (a ∷ l) [] [] n f = both_zero D E
dot_weigh D E (a ∷ l) [] (y ∷ q) n f = absurd (omega arith)
dot_weigh D E (a ∷ l) (x ∷ p) [] n f = absurd (omega arith)
dot_weigh D E (a ∷ l) (x ∷ p) (y ∷ q) n f = step_weigh D E a x y (dot l p) (dot l q) (f 0) (dot_weigh D E l p q (omega arith) (λ i. f (suc i)))

-- ---- one variable apart: what the row comes to with 0 at v, and the entry at v times the number there
unfoldable pub rest : ℕ → List ℤ → List ℤ → ℤ
rest v l p = dot l (set p v (pos 0))

pub dot-rest : (v : ℕ) (l p : List ℤ) → dot l p ≡ rest v l p +ℤ at l v *ℤ at p v
unfolding dot rest
dot-rest v [] p = sym (+ℤ_idl (pos 0 *ℤ at p v) ∙ zero-*ℤ (at p v))
dot-rest v (a ∷ l) [] = sym (+ℤ_idl (at (a ∷ l) v *ℤ pos 0) ∙ *ℤ-zero (at (a ∷ l) v))
dot-rest zero (a ∷ l) (x ∷ p) = step-rest (a *ℤ x) (dot l p) ∙ ap (λ (t : ℤ). t +ℤ dot l p +ℤ a *ℤ x) (sym (*ℤ-zero a))
dot-rest (suc v) (a ∷ l) (x ∷ p) =
    ap (λ (t : ℤ). a *ℤ x +ℤ t) (dot-rest v l p) ∙ sym (+ℤ_assoc (a *ℤ x) (dot l (set p v (pos 0))) (at l v *ℤ at p v))

pub rest-set : (v : ℕ) (l p : List ℤ) (x : ℤ) → rest v l (set p v x) ≡ rest v l p
unfolding rest
rest-set v l p x = ap (dot l) (set-set p v x (pos 0))

pub rest-plus : (v : ℕ) (l m p : List ℤ) → rest v (plus l m) p ≡ rest v l p +ℤ rest v m p
unfolding rest
rest-plus v l m p = dot-plus l m (set p v (pos 0))

pub rest-times : (v : ℕ) (k : ℤ) (l p : List ℤ) → rest v (times k l) p ≡ k *ℤ rest v l p
unfolding rest
rest-times v k l p = dot-times k l (set p v (pos 0))

-- a row with nothing at v does not see what stands there
pub dot_blind : (v : ℕ) (l p : List ℤ) → at l v ≡ pos 0 → dot l p ≡ rest v l p
dot_blind v l p e = dot-rest v l p ∙ ap (λ (t : ℤ). rest v l p +ℤ t *ℤ at p v) e ∙ ap (λ (t : ℤ). rest v l p +ℤ t) (zero-*ℤ (at p v)) ∙ +ℤ_idr (rest v l p)

-- ---- one entry changed
pub set-zero : (p : List ℤ) (v : ℕ) → at (set p v (pos 0)) v ≡ pos 0
set-zero [] v = refl
set-zero (x ∷ p) zero = refl
set-zero (x ∷ p) (suc v) = set-zero p v

with_blind : (v : ℕ) (z : ℤ) (l q : List ℤ) → at q v ≡ pos 0 → dot (with_entry v z l) q ≡ dot l q
unfolding dot with_entry
with_blind zero z [] [] e = refl
with_blind zero z [] (x ∷ q) e = rw e (+ℤ_idr (z *ℤ pos 0) ∙ *ℤ-zero z)
with_blind zero z (a ∷ l) [] e = refl
with_blind zero z (a ∷ l) (x ∷ q) e = rw e (ap (λ (t : ℤ). t +ℤ dot l q) (*ℤ-zero z ∙ sym (*ℤ-zero a)))
with_blind (suc v) z [] [] e = refl
with_blind (suc v) z [] (x ∷ q) e = ap₂ (λ (s t : ℤ). s +ℤ t) (zero-*ℤ x) (with_blind v z [] q e)
with_blind (suc v) z (a ∷ l) [] e = refl
with_blind (suc v) z (a ∷ l) (x ∷ q) e = ap (λ (t : ℤ). a *ℤ x +ℤ t) (with_blind v z l q e)

pub rest-with : (v : ℕ) (z : ℤ) (l p : List ℤ) → rest v (with_entry v z l) p ≡ rest v l p
unfolding rest
rest-with v z l p = with_blind v z l (set p v (pos 0)) (set-zero p v)

pub dot-with : (v : ℕ) (z : ℤ) (l p : List ℤ) → dot (with_entry v z l) p ≡ rest v l p +ℤ z *ℤ at p v
dot-with v z l p = dot-rest v (with_entry v z l) p ∙ ap₂ (λ (s t : ℤ). s +ℤ t *ℤ at p v) (rest-with v z l p) (at_with v z l)

-- ---- rows of one variable, and of none
pub dot-zero : (l p : List ℤ) → all_zero l ≡ true → dot l p ≡ pos 0
unfolding dot all_zero
dot-zero [] p e = refl
dot-zero (a ∷ l) [] e = refl
dot-zero (a ∷ l) (x ∷ p) e =
    rw (zero_of a (and_left (is_zero a) (every is_zero l) e), dot-zero l p (and_right (is_zero a) (every is_zero l) e)) (+ℤ_idr (pos 0 *ℤ x) ∙ zero-*ℤ x)

-- zeros at the end of a point change nothing
dot-zeros : (l : List ℤ) (k : ℕ) → dot l (replicate k (pos 0)) ≡ pos 0
unfolding dot
dot-zeros [] k = refl
dot-zeros (a ∷ l) zero = refl
dot-zeros (a ∷ l) (suc k) = rw (*ℤ-zero a, dot-zeros l k) refl

pub dot-padded : (l p : List ℤ) (k : ℕ) → dot l (p ++ replicate k (pos 0)) ≡ dot l p
unfolding dot
dot-padded [] p k = refl
dot-padded (a ∷ l) [] k = dot-zeros (a ∷ l) k
dot-padded (a ∷ l) (x ∷ p) k = ap (λ (z : ℤ). a *ℤ x +ℤ z) (dot-padded l p k)

pub dot-single : (v : ℕ) (z : ℤ) (p : List ℤ) → dot (single v z).entries p ≡ z *ℤ at p v
unfolding rest all_zero
dot-single v z p = dot-with v z (replicate 16 (pos 0)) p ∙ ap (λ (s : ℤ). s +ℤ z *ℤ at p v) (dot-zero (replicate 16 (pos 0)) (set p v (pos 0)) refl) ∙ +ℤ_idl (z *ℤ at p v)

pub single-holds : (v : ℕ) (z : ℤ) (p : List ℤ) → Holds p (single v z) ↔ ((z *ℤ at p v) ≤ℤ pos 0)
single-holds v z p = (λ h. rw (dot-single v z p) at h, λ h. rw (dot-single v z p) h)

-- the variable is not below zero; it is not above zero
minus_one : (x : ℤ) → negsuc 0 *ℤ x ≡ neg_ℤ x
minus_one x = neg-*ℤ (pos 1) x ∙ ap neg_ℤ (one-*ℤ x)

pub single-above : (v : ℕ) (p : List ℤ) → Holds p (single v (negsuc 0)) ↔ (pos 0 ≤ℤ at p v)
single-above v p = Iff.trans (single-holds v (negsuc 0) p) (rw minus_one (λ h. omega (zed, up_neg (at p v), dn-neg (at p v)), λ h. omega (zed, up_neg (at p v), dn-neg (at p v))))

pub single-below : (v : ℕ) (p : List ℤ) → Holds p (single v (pos 1)) ↔ (at p v ≤ℤ pos 0)
single-below v p = Iff.trans (single-holds v (pos 1) p) (rw one-*ℤ Iff.rfl)

-- ---- whether a row holds is decided
pub holds_dec : (p : List ℤ) (r : Row) → Dec (Holds p r)
holds_dec p r = under_dec r.strict (dot r.entries p)
