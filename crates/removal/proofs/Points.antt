-- Points that give some variables the same values: what rows say at both, and a point moved in one variable. Assumes nothing.
use mathlib.Core.Path.{◌≡◌, refl, sym, ◌∙◌, ap}
use mathlib.Core.Logic.{◌≢◌, ◌⊎◌, inl, inr}
use mathlib.Core.List.{List, [], ◌∷◌, ◌++◌}
use Prim.Native.Nat.{ℕ, zero, suc, ◌<◌}
use native.Mathlib.Decide.{ℕ_discrete}
use lib.ListN.{length, set, length-set}
use lib.Seq.{get_or-set_same, get_or-set_other}
use lib.IntN.{ℤ, pos, ◌+ℤ◌, ◌*ℤ◌, *ℤ-zero, zero-*ℤ}
use lib.Signed.{◌<ℤ◌}
use Rattle.integers.specs.Lists.{All, nil, cons, In, here, there}
use Rattle.integers.proofs.Lists.{all_head, all_append, all_in}
use Rattle.integers.proofs.Whole.{ring, IsPos, of-pos, pos_of, pos-*, eq_unscale}
use Rattle.rows.specs.declared.Row.{Row}
use Rattle.rows.specs.Rows.{at, dot, times, Holds}
use Rattle.entries.proofs.Sums.{at-times, length-times}
use Rattle.rows.proofs.Sign.{under_scale, under_unscale}
use Rattle.rows.proofs.Meaning.{dot-point, dot_weigh, dot-rest, rest, rest-set}
use Rattle.removal.specs.Removal.{entry}
use Rattle.removal.specs.Exact.{Point, SameBut}

-- ---- the same values: x / p is y / m is z / q
pub cross_same : (p m q x y z : ℤ) → IsPos m → p *ℤ y ≡ m *ℤ x → m *ℤ z ≡ q *ℤ y → p *ℤ z ≡ q *ℤ x
cross_same p m q x y z h e f =
    let a : m *ℤ (p *ℤ z) ≡ p *ℤ (m *ℤ z) = simp ring in
    let b : p *ℤ (q *ℤ y) ≡ q *ℤ (p *ℤ y) = simp ring in
    let c : q *ℤ (m *ℤ x) ≡ m *ℤ (q *ℤ x) = simp ring in
    eq_unscale h _ _ (a ∙ ap (λ (t : ℤ). p *ℤ t) f ∙ b ∙ ap (λ (t : ℤ). q *ℤ t) e ∙ c)

pub same_refl : (vs : List ℕ) (p : List ℤ) → SameBut vs p p
same_refl vs p = record { sizes = refl; same = λ i ne. refl }

pub same-sym : {vs : List ℕ} {p q : List ℤ} → SameBut vs p q → SameBut vs q p
same-sym h = record { sizes = sym h.sizes; same = λ i ne. sym (h.same i ne) }

pub same-trans : (us vs : List ℕ) (p m q : List ℤ) → pos 0 <ℤ at m 0 → SameBut vs p m → SameBut us m q → SameBut (us ++ vs) p q
same-trans us vs p m q h a b = record {
  sizes = b.sizes ∙ a.sizes;
  same = λ i ne. let n = (all_append us vs).0 ne in
      cross_same (at p 0) (at m 0) (at q 0) (at p i) (at m i) (at q i) (pos_of h) (a.same i n.1) (b.same i n.0);
}

-- ---- a row that names none of the variables holds at the one where it holds at the other
pub apart_or_in : (i : ℕ) (vs : List ℕ) → All (λ v. i ≢ v) vs ⊎ In i vs
apart_or_in i [] = inl nil
apart_or_in i (v ∷ vs) = go (ℕ_discrete i v) (apart_or_in i vs)
  where
    go : Dec (i ≡ v) → All (λ v. i ≢ v) vs ⊎ In i vs → All (λ v. i ≢ v) (v ∷ vs) ⊎ In i (v ∷ vs)
    go (yes e) d = inr (here e)
    go (no f) (inl a) = inl (cons f a)
    go (no f) (inr m) = inr (there m)

pub blind_holds : (vs : List ℕ) (p q : List ℤ) → pos 0 <ℤ at p 0 → pos 0 <ℤ at q 0 → SameBut vs p q → (r : Row) → All (λ v. entry v r ≡ pos 0) vs → Holds q r → Holds p r
blind_holds vs p q hp hq sb r b h =
    under_unscale (pos_of hq) r.strict _ (rw z at (under_scale (pos_of hp) r.strict _ h))
  where
    by : (i : ℕ) → All (λ v. i ≢ v) vs ⊎ In i vs → at r.entries i *ℤ (at p 0 *ℤ at q i) ≡ at r.entries i *ℤ (at q 0 *ℤ at p i)
    by i (inl a) = ap (λ (t : ℤ). at r.entries i *ℤ t) (sb.same i a)
    by i (inr m) = rw (all_in b m) (zero-*ℤ (at p 0 *ℤ at q i) ∙ sym (zero-*ℤ (at q 0 *ℤ at p i)))

    z : at p 0 *ℤ dot r.entries q ≡ at q 0 *ℤ dot r.entries p
    z = dot_weigh (at p 0) (at q 0) r.entries p q sb.sizes (λ i. by i (apart_or_in i vs))

-- ---- the point moved to x / k at v, the denominator k times as large
unfoldable pub move : ℕ → ℤ → ℤ → List ℤ → List ℤ
move v k x p = set (times k p) v x

set-times : (k : ℤ) (p : List ℤ) (v : ℕ) → set (times k p) v (pos 0) ≡ times k (set p v (pos 0))
unfolding times
set-times k [] v = refl
set-times k (a ∷ p) zero = ap {B = List ℤ} (λ (z : ℤ). z ∷ times k p) (sym (*ℤ-zero k))
set-times k (a ∷ p) (suc v) = ap {B = List ℤ} (λ l. (k *ℤ a) ∷ l) (set-times k p v)

rest-move : (v : ℕ) (k x : ℤ) (l p : List ℤ) → rest v l (move v k x p) ≡ k *ℤ rest v l p
unfolding rest move
rest-move v k x l p = rest-set v l (times k p) x ∙ ap (dot l) (set-times k p v) ∙ dot-point k l (set p v (pos 0))

pub at-move : (v : ℕ) (k x : ℤ) (p : List ℤ) → v < length p → at (move v k x p) v ≡ x
unfolding move
at-move v k x p h = get_or-set_same (times k p) v x (pos 0) (rw length-times h)

pub at-move_other : (v i : ℕ) (k x : ℤ) (p : List ℤ) → i ≢ v → at (move v k x p) i ≡ k *ℤ at p i
unfolding move
at-move_other v i k x p h = get_or-set_other (times k p) v i x (pos 0) h ∙ at-times k p i

pub dot-move : (v : ℕ) (k x : ℤ) (l p : List ℤ) → v < length p → dot l (move v k x p) ≡ k *ℤ rest v l p +ℤ at l v *ℤ x
dot-move v k x l p h = dot-rest v l (move v k x p) ∙ rw (rest-move v k x l p, at-move v k x p h)

pub length-move : (v : ℕ) (k x : ℤ) (p : List ℤ) → length (move v k x p) ≡ length p
unfolding move
length-move v k x p = length-set (times k p) v x ∙ length-times k p

pub move-point : (w v : ℕ) (k x : ℤ) (p : List ℤ) → Point w p → v ≢ 0 → pos 0 <ℤ k → Point w (move v k x p)
move-point w v k x p hp nz h = record {
  size = length-move v k x p ∙ hp.size;
  positive = rw (at-move_other v 0 k x p (λ e. nz (sym e))) (of-pos (pos-* (pos_of h) (pos_of hp.positive)));
}

pub move_same : (v : ℕ) (k x : ℤ) (p : List ℤ) → v ≢ 0 → SameBut (v ∷ []) p (move v k x p)
move_same v k x p nz = record {
  sizes = length-move v k x p;
  same = λ i ne. rw (at-move_other v i k x p (all_head ne), at-move_other v 0 k x p (λ e. nz (sym e))) (simp ring);
}
