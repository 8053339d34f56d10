-- ℤ through ℕ: every whole number is `dif a b`, a − b for two naturals, and a statement on `dif`s is one on naturals, which
-- `omega arith` proves. Equations: `simp ring`. Orders: `omega zed`, or `with-parts` and `simp whole`.
use mathlib.Core.Path.{◌≡◌, refl, ◌∙◌, ap, subst}
use mathlib.Core.Bool.{Bool, true, false, not, cond}
use Prim.Native.Nat.{ℕ, zero, suc, ◌+◌, ◌*◌, ◌-◌, ◌<◌, ◌≤◌}
use native.Mathlib.Omega.{arith}
use lib.Dec.{T, ltb, ltb→lt, nltb→le, leb→le, le→leb, lt→ltb}
use lib.IntN.{ℤ, pos, negsuc, ◌+ℤ◌, ◌-ℤ◌, ◌*ℤ◌, neg_ℤ, sub_ℕ, +ℤ_assoc, +ℤ_comm, *ℤ_comm, neg_ℤ-+ℤ, neg_ℤ-neg_ℤ, *ℤ-zero}
use lib.Signed.{◌≤ℤ◌, ◌<ℤ◌, lt_z, lt_z_yes, lt_z_no, clash_ℤ, ≤ℤ_refl}
use mathlib.Core.Logic.{◌↔◌, ◌⊎◌, inl, inr, ⊎_elim}
use native.Mathlib.Nat.{mul-le-mul_left}

-- the part above zero and the part below it
abbrev pub up : ℤ → ℕ
up (pos n) = n
up (negsuc n) = 0

abbrev pub dn : ℤ → ℕ
dn (pos n) = 0
dn (negsuc n) = suc n

pub eq_in : (x y : ℤ) → up x + dn y ≡ up y + dn x → x ≡ y
eq_in (pos m) (pos n) h = ap pos (omega arith)
eq_in (pos m) (negsuc n) h = absurd (omega arith)
eq_in (negsuc m) (pos n) h = absurd (omega arith)
eq_in (negsuc m) (negsuc n) h = ap negsuc (omega arith)

pub eq_out : {x y : ℤ} → x ≡ y → up x + dn y ≡ up y + dn x
eq_out {x} {y} e = subst (λ (z : ℤ). up x + dn z ≡ up z + dn x) e refl

-- a − b
pub dif : ℕ → ℕ → ℤ
dif a b = sub_ℕ a b

cond-fact : (a b : ℕ) (c : Bool) → (T c → a < b) → (T (not c) → b ≤ a) → up (cond c (negsuc (b - suc a)) (pos (a - b))) + b ≡ a + dn (cond c (negsuc (b - suc a)) (pos (a - b)))
cond-fact a b true f g = let h : a < b = f tt in omega arith
cond-fact a b false f g = let h : b ≤ a = g tt in omega arith

sub-fact : (a b : ℕ) → up (sub_ℕ a b) + b ≡ a + dn (sub_ℕ a b)
sub-fact a b = cond-fact a b (ltb a b) (ltb→lt a b) (nltb→le a b)

pub dif_fact : (a b : ℕ) → up (dif a b) + b ≡ a + dn (dif a b)
unfolding dif
dif_fact a b = sub-fact a b

pub add-fact : (x y : ℤ) → up (x +ℤ y) + (dn x + dn y) ≡ up x + up y + dn (x +ℤ y)
add-fact (pos a) (pos b) = omega arith
add-fact (pos a) (negsuc b) = omega (arith, sub-fact a (suc b))
add-fact (negsuc a) (pos b) = omega (arith, sub-fact b (suc a))
add-fact (negsuc a) (negsuc b) = omega arith

pub up_neg : (x : ℤ) → up (neg_ℤ x) ≡ dn x
up_neg (pos zero) = refl
up_neg (pos (suc n)) = refl
up_neg (negsuc n) = refl

pub dn-neg : (x : ℤ) → dn (neg_ℤ x) ≡ up x
dn-neg (pos zero) = refl
dn-neg (pos (suc n)) = refl
dn-neg (negsuc n) = refl

pub mul_fact : (x y : ℤ) → up (x *ℤ y) + (up x * dn y + dn x * up y) ≡ up x * up y + dn x * dn y + dn (x *ℤ y)
mul_fact (pos a) (pos b) = omega arith
mul_fact (pos a) (negsuc b) = omega (arith, up_neg (pos (a * suc b)), dn-neg (pos (a * suc b)))
mul_fact (negsuc a) (pos b) = omega (arith, up_neg (pos (suc a * b)), dn-neg (pos (suc a * b)))
mul_fact (negsuc a) (negsuc b) = omega arith

-- ---- the order
pub le_in : (x y : ℤ) → up x + dn y ≤ up y + dn x → x ≤ℤ y
le_in (pos m) (pos n) h = record { le = le→leb m n (omega arith) }
le_in (pos m) (negsuc n) h = absurd (omega arith)
le_in (negsuc m) (pos n) h = record { le = tt }
le_in (negsuc m) (negsuc n) h = record { le = le→leb n m (omega arith) }

pub lt_in : (x y : ℤ) → up x + dn y < up y + dn x → x <ℤ y
lt_in (pos m) (pos n) h = record { lt = lt→ltb m n (omega arith) }
lt_in (pos m) (negsuc n) h = absurd (omega arith)
lt_in (negsuc m) (pos n) h = record { lt = tt }
lt_in (negsuc m) (negsuc n) h = record { lt = lt→ltb n m (omega arith) }

pub le_out : {x y : ℤ} → x ≤ℤ y → up x + dn y ≤ up y + dn x
le_out {x = pos m} {y = pos n} h = omega (arith, leb→le m n h.le)
le_out {x = pos m} {y = negsuc n} h = absurd h.le
le_out {x = negsuc m} {y = pos n} h = omega arith
le_out {x = negsuc m} {y = negsuc n} h = omega (arith, leb→le n m h.le)

pub lt_out : {x y : ℤ} → x <ℤ y → up x + dn y < up y + dn x
lt_out {x = pos m} {y = pos n} h = omega (arith, ltb→lt m n h.lt)
lt_out {x = pos m} {y = negsuc n} h = absurd h.lt
lt_out {x = negsuc m} {y = pos n} h = omega arith
lt_out {x = negsuc m} {y = negsuc n} h = omega (arith, ltb→lt n m h.lt)

-- ---- differences
pub parts : (x : ℤ) → x ≡ dif (up x) (dn x)
parts x = eq_in x (dif (up x) (dn x)) (omega (arith, dif_fact (up x) (dn x)))

pub with-parts {ℓ} : {G : Type ℓ} (x : ℤ) → ((a b : ℕ) → x ≡ dif a b → G) → G
with-parts x k = k (up x) (dn x) (parts x)

pub dif_pos : (n : ℕ) → pos n ≡ dif n 0
dif_pos n = parts (pos n)

pub dif_add : (a b c d : ℕ) → dif a b +ℤ dif c d ≡ dif (a + c) (b + d)
dif_add a b c d = eq_in _ _ (omega (arith, add-fact (dif a b) (dif c d), dif_fact a b, dif_fact c d, dif_fact (a + c) (b + d)))

pub dif_neg : (a b : ℕ) → neg_ℤ (dif a b) ≡ dif b a
dif_neg a b = eq_in _ _ (omega (arith, up_neg (dif a b), dn-neg (dif a b), dif_fact a b, dif_fact b a))

pub dif_eq : (a b c d : ℕ) → a + d ≡ c + b → dif a b ≡ dif c d
dif_eq a b c d h = eq_in _ _ (omega (arith, dif_fact a b, dif_fact c d))

pub dif_le : (a b c d : ℕ) → a + d ≤ c + b → dif a b ≤ℤ dif c d
dif_le a b c d h = le_in _ _ (omega (arith, dif_fact a b, dif_fact c d))

pub dif_lt : (a b c d : ℕ) → a + d < c + b → dif a b <ℤ dif c d
dif_lt a b c d h = lt_in _ _ (omega (arith, dif_fact a b, dif_fact c d))

pub dif_eq_out : (a b c d : ℕ) → dif a b ≡ dif c d → a + d ≡ c + b
dif_eq_out a b c d h = omega (arith, eq_out h, dif_fact a b, dif_fact c d)

pub dif_le_out : (a b c d : ℕ) → dif a b ≤ℤ dif c d → a + d ≤ c + b
dif_le_out a b c d h = omega (arith, le_out h, dif_fact a b, dif_fact c d)

pub dif_lt_out : (a b c d : ℕ) → dif a b <ℤ dif c d → a + d < c + b
dif_lt_out a b c d h = omega (arith, lt_out h, dif_fact a b, dif_fact c d)

-- the product: both at their normal forms, where only one part is not zero, and then by a + e ≡ f + b, c + h ≡ g + d
pub mul_step : (a b c d e f g h p q : ℕ) → p + (e * h + f * g) ≡ e * g + f * h + q → e + b ≡ a + f → g + d ≡ c + h →
    p + (a * d + b * c) ≡ a * c + b * d + q
mul_step a b c d e f g h p q m k l = omega (arith, ap (λ (t : ℕ). t * c) k, ap (λ (t : ℕ). t * d) k, ap (λ (t : ℕ). t * e) l, ap (λ (t : ℕ). t * f) l)

pub dif_mul : (a b c d : ℕ) → dif a b *ℤ dif c d ≡ dif (a * c + b * d) (a * d + b * c)
dif_mul a b c d = eq_in _ _ (omega (
  arith,
  dif_fact (a * c + b * d) (a * d + b * c),
  mul_step a b c d (up (dif a b)) (dn (dif a b)) (up (dif c d)) (dn (dif c d)) _ _ (mul_fact (dif a b) (dif c d)) (dif_fact a b) (dif_fact c d),
))

-- ---- ring laws. A law is read off: each variable by its parts, the operations on differences, and omega
pub ruleset difs = (dif_add, dif_neg, dif_mul)

pub *ℤ-assoc : (x y z : ℤ) → (x *ℤ y) *ℤ z ≡ x *ℤ (y *ℤ z)
*ℤ-assoc x y z = with-parts x λ x₁ x₂ ex. with-parts y λ y₁ y₂ ey. with-parts z λ z₁ z₂ ez.
    simp (ex, ey, ez, difs) (dif_eq _ _ _ _ (omega arith))

pub *ℤ-+ℤ : (x y z : ℤ) → x *ℤ (y +ℤ z) ≡ x *ℤ y +ℤ x *ℤ z
*ℤ-+ℤ x y z = with-parts x λ x₁ x₂ ex. with-parts y λ y₁ y₂ ey. with-parts z λ z₁ z₂ ez.
    simp (ex, ey, ez, difs) (dif_eq _ _ _ _ (omega arith))

pub +ℤ-*ℤ : (x y z : ℤ) → (x +ℤ y) *ℤ z ≡ x *ℤ z +ℤ y *ℤ z
+ℤ-*ℤ x y z = with-parts x λ x₁ x₂ ex. with-parts y λ y₁ y₂ ey. with-parts z λ z₁ z₂ ez.
    simp (ex, ey, ez, difs) (dif_eq _ _ _ _ (omega arith))

pub +ℤ-left-comm : (x y z : ℤ) → x +ℤ (y +ℤ z) ≡ y +ℤ (x +ℤ z)
+ℤ-left-comm x y z = with-parts x λ x₁ x₂ ex. with-parts y λ y₁ y₂ ey. with-parts z λ z₁ z₂ ez.
    simp (ex, ey, ez, difs) (dif_eq _ _ _ _ (omega arith))

pub *ℤ-left-comm : (x y z : ℤ) → x *ℤ (y *ℤ z) ≡ y *ℤ (x *ℤ z)
*ℤ-left-comm x y z = with-parts x λ x₁ x₂ ex. with-parts y λ y₁ y₂ ey. with-parts z λ z₁ z₂ ez.
    simp (ex, ey, ez, difs) (dif_eq _ _ _ _ (omega arith))

pub neg-*ℤ : (x y : ℤ) → neg_ℤ x *ℤ y ≡ neg_ℤ (x *ℤ y)
neg-*ℤ x y = with-parts x λ x₁ x₂ ex. with-parts y λ y₁ y₂ ey. simp (ex, ey, difs) (dif_eq _ _ _ _ (omega arith))

pub *ℤ-neg : (x y : ℤ) → x *ℤ neg_ℤ y ≡ neg_ℤ (x *ℤ y)
*ℤ-neg x y = with-parts x λ x₁ x₂ ex. with-parts y λ y₁ y₂ ey. simp (ex, ey, difs) (dif_eq _ _ _ _ (omega arith))

pub two-*ℤ : (x : ℤ) → pos 2 *ℤ x ≡ x +ℤ x
two-*ℤ x = with-parts x λ x₁ x₂ ex. simp (ex, difs, dif_pos) (dif_eq _ _ _ _ (omega arith))

pub one-*ℤ : (x : ℤ) → pos 1 *ℤ x ≡ x
one-*ℤ x = with-parts x λ x₁ x₂ ex. simp (ex, difs, dif_pos) (dif_eq _ _ _ _ (omega arith))

pub *ℤ-two : (x : ℤ) → x *ℤ pos 2 ≡ x +ℤ x
*ℤ-two x = *ℤ_comm x (pos 2) ∙ two-*ℤ x

-- an equation of sums of products, with no term that cancels: `simp ring`
pub ruleset ring = (+ℤ_assoc, +ℤ_comm, +ℤ-left-comm, *ℤ-assoc, *ℤ_comm, *ℤ-left-comm, *ℤ-+ℤ, +ℤ-*ℤ, neg-*ℤ, *ℤ-neg, neg_ℤ-+ℤ, neg_ℤ-neg_ℤ, *ℤ-two, two-*ℤ, one-*ℤ)

-- ---- linear order over ℤ, by facts: `omega (zed, add-fact x y, ..)`, with a fact for each sum, product and negation in sight
pub ruleset zed = (arith, le_out, lt_out, eq_out, le_in, lt_in, eq_in)

-- ---- and by rewriting: `with-parts x λ x₁ x₂ ex. .. simp (ex, .., whole) (omega arith)`, with the hypotheses left in the goal
pub dif_le_iff : (a b c d : ℕ) → (dif a b ≤ℤ dif c d) ↔ (a + d ≤ c + b)
dif_le_iff a b c d = (dif_le_out a b c d, dif_le a b c d)

pub dif_lt_iff : (a b c d : ℕ) → (dif a b <ℤ dif c d) ↔ (a + d < c + b)
dif_lt_iff a b c d = (dif_lt_out a b c d, dif_lt a b c d)

pub dif_eq_iff : (a b c d : ℕ) → (dif a b ≡ dif c d) ↔ (a + d ≡ c + b)
dif_eq_iff a b c d = (dif_eq_out a b c d, dif_eq a b c d)

pub ruleset whole = (difs, dif_pos, dif_le_iff, dif_lt_iff, dif_eq_iff)

-- ---- order and products
pub data IsPos : ℤ → Type 0 where
  is_pos : (n : ℕ) → IsPos (pos (suc n))

pub pos_of : {k : ℤ} → pos 0 <ℤ k → IsPos k
pos_of {k = pos zero} h = absurd h.lt
pos_of {k = pos (suc n)} h = is_pos n
pos_of {k = negsuc n} h = absurd h.lt

pub of-pos : {k : ℤ} → IsPos k → pos 0 <ℤ k
of-pos (is_pos n) = omega zed

pub le_scale : {k : ℤ} → IsPos k → (x y : ℤ) → x ≤ℤ y → (k *ℤ x) ≤ℤ (k *ℤ y)
le_scale (is_pos n) x y = with-parts x λ x₁ x₂ ex. with-parts y λ y₁ y₂ ey.
    simp (ex, ey, whole) λ h. omega (arith, mul-le-mul_left (suc n) h)

pub lt_scale : {k : ℤ} → IsPos k → (x y : ℤ) → x <ℤ y → (k *ℤ x) <ℤ (k *ℤ y)
lt_scale (is_pos n) x y = with-parts x λ x₁ x₂ ex. with-parts y λ y₁ y₂ ey.
    simp (ex, ey, whole) λ h. omega (arith, mul-le-mul_left (suc n) h)

pub total : (x y : ℤ) → (x ≤ℤ y) ⊎ (y <ℤ x)
total x y = test (lt_z y x) refl
  where
    test : (b : Bool) → lt_z y x ≡ b → (x ≤ℤ y) ⊎ (y <ℤ x)
    test true e = inr (lt_z_yes (rw e tt))
    test false e = inl (lt_z_no (rw e tt))

pub le_unscale : {k : ℤ} → IsPos k → (x y : ℤ) → (k *ℤ x) ≤ℤ (k *ℤ y) → x ≤ℤ y
le_unscale k x y h = ⊎_elim (λ a. a) (λ b. clash_ℤ (lt_scale k y x b) h) (total x y)

pub lt_unscale : {k : ℤ} → IsPos k → (x y : ℤ) → (k *ℤ x) <ℤ (k *ℤ y) → x <ℤ y
lt_unscale k x y h = ⊎_elim (λ a. clash_ℤ h (le_scale k y x a)) (λ b. b) (total y x)

pub pos-* : {a b : ℤ} → IsPos a → IsPos b → IsPos (a *ℤ b)
pos-* (is_pos m) (is_pos n) = pos_of (omega zed)

pub pos_two : IsPos (pos 2)
pos_two = is_pos 1

pub eq_unscale : {k : ℤ} → IsPos k → (x y : ℤ) → k *ℤ x ≡ k *ℤ y → x ≡ y
eq_unscale k x y e =
    let a : x ≤ℤ y = le_unscale k x y (rw e (≤ℤ_refl _)) in
    let b : y ≤ℤ x = le_unscale k y x (rw e (≤ℤ_refl _)) in
    omega zed
