-- Equations of polynomials over ℤ, by computation: both sides are made sums of monomials, and their difference vanishes.
-- Terms may cancel, numbers are computed. `Quote` reads the two sides, `Order.ring-by` is the tactic.
use mathlib.Core.Path.{◌≡◌, refl, sym, ◌∙◌, ap, ap₂}
use mathlib.Core.Bool.{Bool, true, false, cond, ◌&&◌}
use mathlib.Core.List.{List, [], ◌∷◌}
use Prim.Native.Nat.{ℕ}
use lib.Dec.{T, leb, eqb}
use borrow.Author.Tests.{eqb-true}
use lib.IntN.{ℤ, pos, negsuc, ◌+ℤ◌, ◌*ℤ◌, neg_ℤ, +ℤ_idl, +ℤ_idr, *ℤ-zero, zero-*ℤ, +ℤ_assoc, *ℤ_comm}
use lib.ListN.{get_or}
use Rattle.integers.specs.Signs.{is_zero}
use Rattle.integers.proofs.Tests.{and_left, and_right, not-both, true_of, zero_of, from_difference}
use Rattle.integers.proofs.Whole.{ring, +ℤ-*ℤ, *ℤ-assoc, *ℤ-left-comm, +ℤ-left-comm, one-*ℤ, neg-*ℤ}

pub data Ex : Type 0 where
  var : ℕ → Ex
  num : ℤ → Ex
  ◌⊕◌ : Ex → Ex → Ex
  ◌⊗◌ : Ex → Ex → Ex
  neg : Ex → Ex

infixl 6 ◌⊕◌
infixl 7 ◌⊗◌
infixl 6 ◌⊖◌
abbrev pub ◌⊖◌ : Ex → Ex → Ex
a ⊖ b = a ⊕ neg b

abbrev pub den : List ℤ → Ex → ℤ
den ρ (var i) = get_or ρ i (pos 0)
den ρ (num k) = k
den ρ (a ⊕ b) = den ρ a +ℤ den ρ b
den ρ (a ⊗ b) = den ρ a *ℤ den ρ b
den ρ (neg a) = neg_ℤ (den ρ a)

-- a monomial: its variables, sorted. A term: a number and a monomial
pub record Term : Type 0 where
  pub coef : ℤ
  pub mono : List ℕ

abbrev pub den_mono : List ℤ → List ℕ → ℤ
den_mono ρ [] = pos 1
den_mono ρ (i ∷ m) = get_or ρ i (pos 0) *ℤ den_mono ρ m

abbrev pub den_poly : List ℤ → List Term → ℤ
den_poly ρ [] = pos 0
den_poly ρ (t ∷ p) = t.coef *ℤ den_mono ρ t.mono +ℤ den_poly ρ p

abbrev pub ins : ℕ → List ℕ → List ℕ
ins i [] = i ∷ []
ins i (j ∷ m) = let r = ins i m in cond (leb i j) (i ∷ j ∷ m) (j ∷ r)

abbrev pub join : List ℕ → List ℕ → List ℕ
join [] n = n
join (i ∷ m) n = ins i (join m n)

abbrev pub same : List ℕ → List ℕ → Bool
same [] [] = true
same [] (j ∷ n) = false
same (i ∷ m) [] = false
same (i ∷ m) (j ∷ n) = eqb i j && same m n

abbrev pub add_term : ℤ → List ℕ → List Term → List Term
add_term c m [] = record { coef = c; mono = m } ∷ []
add_term c m (t ∷ p) = let r = add_term c m p in cond (same m t.mono) (record { coef = c +ℤ t.coef; mono = t.mono } ∷ p) (t ∷ r)

abbrev pub add_poly : List Term → List Term → List Term
add_poly [] q = q
add_poly (t ∷ p) q = add_term t.coef t.mono (add_poly p q)

abbrev pub mul_term : ℤ → List ℕ → List Term → List Term
mul_term c m [] = []
mul_term c m (t ∷ p) = add_term (c *ℤ t.coef) (join m t.mono) (mul_term c m p)

abbrev pub mul_poly : List Term → List Term → List Term
mul_poly [] q = []
mul_poly (t ∷ p) q = add_poly (mul_term t.coef t.mono q) (mul_poly p q)

abbrev pub norm : Ex → List Term
norm (var i) = record { coef = pos 1; mono = i ∷ [] } ∷ []
norm (num k) = record { coef = k; mono = [] } ∷ []
norm (a ⊕ b) = add_poly (norm a) (norm b)
norm (a ⊗ b) = mul_poly (norm a) (norm b)
norm (neg a) = mul_term (negsuc 0) [] (norm a)

abbrev pub vanishes : List Term → Bool
vanishes [] = true
vanishes (t ∷ p) = is_zero t.coef && vanishes p

-- ---- soundness
module _ (ρ : List ℤ) where
  cond-mono : (b : Bool) (m n : List ℕ) (z : ℤ) → den_mono ρ m ≡ z → den_mono ρ n ≡ z → den_mono ρ (cond b m n) ≡ z
  cond-mono true m n z e f = e
  cond-mono false m n z e f = f

  ins-sound : (i : ℕ) (m : List ℕ) → den_mono ρ (ins i m) ≡ get_or ρ i (pos 0) *ℤ den_mono ρ m
  ins-sound i [] = refl
  ins-sound i (j ∷ m) = cond-mono (leb i j) (i ∷ j ∷ m) (j ∷ ins i m) _ refl
      (ap (λ (z : ℤ). get_or ρ j (pos 0) *ℤ z) (ins-sound i m) ∙ *ℤ-left-comm (get_or ρ j (pos 0)) (get_or ρ i (pos 0)) (den_mono ρ m))

  join-sound : (m n : List ℕ) → den_mono ρ (join m n) ≡ den_mono ρ m *ℤ den_mono ρ n
  join-sound [] n = sym (one-*ℤ (den_mono ρ n))
  join-sound (i ∷ m) n = ins-sound i (join m n) ∙ ap (λ (z : ℤ). get_or ρ i (pos 0) *ℤ z) (join-sound m n) ∙ sym (*ℤ-assoc (get_or ρ i (pos 0)) (den_mono ρ m) (den_mono ρ n))

  same-sound : (m n : List ℕ) → same m n ≡ true → den_mono ρ m ≡ den_mono ρ n
  same-sound [] [] t = refl
  same-sound [] (j ∷ n) t = not-both t
  same-sound (i ∷ m) [] t = not-both t
  same-sound (i ∷ m) (j ∷ n) t =
      ap₂ (λ (k : ℕ) (z : ℤ). get_or ρ k (pos 0) *ℤ z) (eqb-true i j (and_left (eqb i j) (same m n) t)) (same-sound m n (and_right (eqb i j) (same m n) t))

  cond_poly : (b : Bool) (p q : List Term) (z : ℤ) → (b ≡ true → den_poly ρ p ≡ z) → den_poly ρ q ≡ z → den_poly ρ (cond b p q) ≡ z
  cond_poly true p q z e f = e refl
  cond_poly false p q z e f = f

  merge_step : (c d m n r : ℤ) → m ≡ n → (c +ℤ d) *ℤ n +ℤ r ≡ c *ℤ m +ℤ (d *ℤ n +ℤ r)
  merge_step c d m n r e = rw e (ap (λ (z : ℤ). z +ℤ r) (+ℤ-*ℤ c d n) ∙ +ℤ_assoc (c *ℤ n) (d *ℤ n) r)

  add_term-sound : (c : ℤ) (m : List ℕ) (p : List Term) → den_poly ρ (add_term c m p) ≡ c *ℤ den_mono ρ m +ℤ den_poly ρ p
  add_term-sound c m [] = refl
  add_term-sound c m (t ∷ p) = cond_poly (same m t.mono) (record { coef = c +ℤ t.coef; mono = t.mono } ∷ p) (t ∷ add_term c m p) _
      (λ e. merge_step c t.coef (den_mono ρ m) (den_mono ρ t.mono) (den_poly ρ p) (same-sound m t.mono e))
      (ap (λ (z : ℤ). t.coef *ℤ den_mono ρ t.mono +ℤ z) (add_term-sound c m p) ∙ +ℤ-left-comm (t.coef *ℤ den_mono ρ t.mono) (c *ℤ den_mono ρ m) (den_poly ρ p))

  add-sound : (p q : List Term) → den_poly ρ (add_poly p q) ≡ den_poly ρ p +ℤ den_poly ρ q
  add-sound [] q = sym (+ℤ_idl (den_poly ρ q))
  add-sound (t ∷ p) q = add_term-sound t.coef t.mono (add_poly p q) ∙ ap (λ (z : ℤ). t.coef *ℤ den_mono ρ t.mono +ℤ z) (add-sound p q)
      ∙ sym (+ℤ_assoc (t.coef *ℤ den_mono ρ t.mono) (den_poly ρ p) (den_poly ρ q))

  mul_step : (c d m n r : ℤ) → (c *ℤ d) *ℤ (m *ℤ n) +ℤ (c *ℤ m) *ℤ r ≡ (c *ℤ m) *ℤ (d *ℤ n +ℤ r)
  mul_step c d m n r = simp ring

  mul_term-sound : (c : ℤ) (m : List ℕ) (p : List Term) → den_poly ρ (mul_term c m p) ≡ (c *ℤ den_mono ρ m) *ℤ den_poly ρ p
  mul_term-sound c m [] = sym (*ℤ-zero (c *ℤ den_mono ρ m))
  mul_term-sound c m (t ∷ p) = add_term-sound (c *ℤ t.coef) (join m t.mono) (mul_term c m p)
      ∙ ap₂ (λ (x y : ℤ). (c *ℤ t.coef) *ℤ x +ℤ y) (join-sound m t.mono) (mul_term-sound c m p)
      ∙ mul_step c t.coef (den_mono ρ m) (den_mono ρ t.mono) (den_poly ρ p)

  mul_sound : (p q : List Term) → den_poly ρ (mul_poly p q) ≡ den_poly ρ p *ℤ den_poly ρ q
  mul_sound [] q = sym (zero-*ℤ (den_poly ρ q))
  mul_sound (t ∷ p) q = add-sound (mul_term t.coef t.mono q) (mul_poly p q) ∙ ap₂ ◌+ℤ◌ (mul_term-sound t.coef t.mono q) (mul_sound p q)
      ∙ sym (+ℤ-*ℤ (t.coef *ℤ den_mono ρ t.mono) (den_poly ρ p) (den_poly ρ q))

  one_term : (z : ℤ) → pos 1 *ℤ (z *ℤ pos 1) +ℤ pos 0 ≡ z
  one_term z = +ℤ_idr _ ∙ one-*ℤ _ ∙ *ℤ_comm z (pos 1) ∙ one-*ℤ z

  const_term : (z : ℤ) → z *ℤ pos 1 +ℤ pos 0 ≡ z
  const_term z = +ℤ_idr _ ∙ *ℤ_comm z (pos 1) ∙ one-*ℤ z

  neg_term : (z : ℤ) → (negsuc 0 *ℤ pos 1) *ℤ z ≡ neg_ℤ z
  neg_term z = neg-*ℤ (pos 1) z ∙ ap neg_ℤ (one-*ℤ z)

  pub norm-sound : (e : Ex) → den_poly ρ (norm e) ≡ den ρ e
  norm-sound (var i) = one_term (get_or ρ i (pos 0))
  norm-sound (num k) = const_term k
  norm-sound (a ⊕ b) = add-sound (norm a) (norm b) ∙ ap₂ ◌+ℤ◌ (norm-sound a) (norm-sound b)
  norm-sound (a ⊗ b) = mul_sound (norm a) (norm b) ∙ ap₂ ◌*ℤ◌ (norm-sound a) (norm-sound b)
  norm-sound (neg a) = mul_term-sound (negsuc 0) [] (norm a) ∙ neg_term (den_poly ρ (norm a)) ∙ ap neg_ℤ (norm-sound a)

  vanish_step : (c m r : ℤ) → c ≡ pos 0 → r ≡ pos 0 → c *ℤ m +ℤ r ≡ pos 0
  vanish_step c m r e f = rw (e, f) (+ℤ_idr (pos 0 *ℤ m) ∙ zero-*ℤ m)

  vanishes-sound : (p : List Term) → vanishes p ≡ true → den_poly ρ p ≡ pos 0
  vanishes-sound [] t = refl
  vanishes-sound (t ∷ p) h = vanish_step t.coef (den_mono ρ t.mono) (den_poly ρ p)
      (zero_of t.coef (and_left (is_zero t.coef) (vanishes p) h)) (vanishes-sound p (and_right (is_zero t.coef) (vanishes p) h))

pub solve : (ρ : List ℤ) (a b : Ex) → T (vanishes (norm (a ⊖ b))) → den ρ a ≡ den ρ b
solve ρ a b t = from_difference (den ρ a) (den ρ b) (sym (norm-sound ρ (a ⊖ b)) ∙ vanishes-sound ρ (norm (a ⊖ b)) (true_of t))
