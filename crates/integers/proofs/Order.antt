-- Order over ℤ by `omega`. The terms are read by `search read`, their difference is made a sum of monomials, and each monomial's two parts are atoms:
-- `le-by ρ (search read) (omega (arith, le_as ρ (search read) h, ..))`, with the list ρ of the unknowns.
use mathlib.Core.Path.{◌≡◌, refl, ap₂, subst}
use mathlib.Core.List.{List, [], ◌∷◌}
use Prim.Native.Nat.{ℕ, ◌+◌, ◌*◌, ◌≤◌, ◌<◌}
use native.Mathlib.Omega.{arith}
use lib.Dec.{T}
use lib.IntN.{ℤ, ◌+ℤ◌, ◌-ℤ◌, ◌*ℤ◌, neg_ℤ}
use lib.Signed.{◌≤ℤ◌, ◌<ℤ◌}
use Rattle.integers.proofs.Whole.{up, dn, add-fact, mul_fact, up_neg, dn-neg, le_in, lt_in, eq_in, le_out, lt_out, eq_out}
use Rattle.integers.proofs.Ring.{Ex, Term, ◌⊖◌, den, den_mono, den_poly, norm, norm-sound, vanishes}
use Rattle.integers.proofs.Quote.{Q, quote, auto}

-- what a sum of monomials comes to, above zero and below
abbrev pub high : List ℤ → List Term → ℕ
high ρ [] = 0
high ρ (t ∷ p) = up t.coef * up (den_mono ρ t.mono) + dn t.coef * dn (den_mono ρ t.mono) + high ρ p

abbrev pub low : List ℤ → List Term → ℕ
low ρ [] = 0
low ρ (t ∷ p) = up t.coef * dn (den_mono ρ t.mono) + dn t.coef * up (den_mono ρ t.mono) + low ρ p

parts_step : (c m r : ℤ) (h l : ℕ) → up r + l ≡ h + dn r → up (c *ℤ m +ℤ r) + (up c * dn m + dn c * up m + l) ≡ (up c * up m + dn c * dn m + h) + dn (c *ℤ m +ℤ r)
parts_step c m r h l e = omega (arith, add-fact (c *ℤ m) r, mul_fact c m)

parts : (ρ : List ℤ) (p : List Term) → up (den_poly ρ p) + low ρ p ≡ high ρ p + dn (den_poly ρ p)
parts ρ [] = refl
parts ρ (t ∷ p) = parts_step t.coef (den_mono ρ t.mono) (den_poly ρ p) (high ρ p) (low ρ p) (parts ρ p)

difference : (ρ : List ℤ) (e : Ex) → up (den ρ e) + low ρ (norm e) ≡ high ρ (norm e) + dn (den ρ e)
difference ρ e = rw (norm-sound ρ e) at (parts ρ (norm e))

-- two terms, read
pub record QQ (ρ : List ℤ) (x y : ℤ) : Type 0 where
  pub fst : Q ρ x
  pub snd : Q ρ y

abbrev pub qq : (ρ : List ℤ) (x y : ℤ) → Q ρ x → Q ρ y → QQ ρ x y
qq ρ x y a b = record { fst = a; snd = b }

pub ruleset read = (quote, qq)

abbrev pub dif_of : {ρ : List ℤ} {x y : ℤ} → QQ ρ x y → List Term
dif_of q = norm (q.fst.ex ⊖ q.snd.ex)

both : (ρ : List ℤ) {x y : ℤ} (q : QQ ρ x y) → up (x -ℤ y) + low ρ (dif_of q) ≡ high ρ (dif_of q) + dn (x -ℤ y)
both ρ {x} {y} q = subst (λ (z : ℤ). up z + low ρ (dif_of q) ≡ high ρ (dif_of q) + dn z) (ap₂ (λ (a b : ℤ). a -ℤ b) q.fst.is q.snd.is)
    (difference ρ (q.fst.ex ⊖ q.snd.ex))

pub whole-fact : (ρ : List ℤ) {x y : ℤ} (q : QQ ρ x y) → up x + dn y + low ρ (dif_of q) ≡ high ρ (dif_of q) + (up y + dn x)
whole-fact ρ {x} {y} q = omega (arith, both ρ q, add-fact x (neg_ℤ y), up_neg y, dn-neg y)

pub le_by : (ρ : List ℤ) {x y : ℤ} (q : QQ ρ x y) → high ρ (dif_of q) ≤ low ρ (dif_of q) → x ≤ℤ y
le_by ρ {x} {y} q h = le_in x y (omega (arith, whole-fact ρ q))

pub lt_by : (ρ : List ℤ) {x y : ℤ} (q : QQ ρ x y) → high ρ (dif_of q) < low ρ (dif_of q) → x <ℤ y
lt_by ρ {x} {y} q h = lt_in x y (omega (arith, whole-fact ρ q))

pub eq_by : (ρ : List ℤ) {x y : ℤ} (q : QQ ρ x y) → high ρ (dif_of q) ≡ low ρ (dif_of q) → x ≡ y
eq_by ρ {x} {y} q h = eq_in x y (omega (arith, whole-fact ρ q))

pub le_as : (ρ : List ℤ) {x y : ℤ} (q : QQ ρ x y) → x ≤ℤ y → high ρ (dif_of q) ≤ low ρ (dif_of q)
le_as ρ {x} {y} q h = omega (arith, whole-fact ρ q, le_out h)

pub lt_as : (ρ : List ℤ) {x y : ℤ} (q : QQ ρ x y) → x <ℤ y → high ρ (dif_of q) < low ρ (dif_of q)
lt_as ρ {x} {y} q h = omega (arith, whole-fact ρ q, lt_out h)

pub eq_as : (ρ : List ℤ) {x y : ℤ} (q : QQ ρ x y) → x ≡ y → high ρ (dif_of q) ≡ low ρ (dif_of q)
eq_as ρ {x} {y} q h = omega (arith, whole-fact ρ q, eq_out h)

-- an equation of polynomials: `ring-by ρ (search read) tt`
pub ring_by : (ρ : List ℤ) {x y : ℤ} (q : QQ ρ x y) → T (vanishes (dif_of q)) → x ≡ y
ring_by ρ q t = auto ρ q.fst q.snd t
