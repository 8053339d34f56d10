-- The steps on sets are the steps of points: letting time pass, and the invariant around it, forwards and backwards. Assumes nothing.
use mathlib.Core.Path.{◌≡◌, sym, ◌∙◌, ap, ap₂}
use mathlib.Core.Logic.{◌↔◌}
use mathlib.Core.List.{List, [], ◌∷◌, map}
use Prim.Native.Nat.{ℕ, ◌<◌}
use native.Mathlib.Omega.{arith}
use lib.IntN.{ℤ, pos, negsuc, neg_ℤ, ◌+ℤ◌, ◌*ℤ◌}
use lib.Signed.{◌≤ℤ◌, ◌<ℤ◌}
use Rattle.integers.specs.Lists.{All, nil, cons}
use Rattle.integers.proofs.Lists.{all_head, all_tail, all_map, all-zip, all_mapped}
use Rattle.integers.proofs.Whole.{zed, ring, pos_of}
use Rattle.integers.proofs.Order.{read, ring_by}
use Rattle.rows.specs.declared.Row.{Row}
use Rattle.rows.specs.Rows.{delay_entry, at, single, dot, Holds}
use Rattle.entries.proofs.Sums.{at_with}
use Rattle.rows.proofs.Sign.{under_scale}
use Rattle.rows.proofs.Meaning.{dot_blind, rest-with, single-above}
use Rattle.rows.proofs.Dividing.{Blind}
use Rattle.sets.specs.Outcomes.{Ok}
use Rattle.sets.proofs.Joining.{joined_exact}
use Rattle.removal.specs.Exact.{Point, Meets}
use Rattle.removal.proofs.Points.{move, dot-move, at-move, move-point}
use Rattle.removal.proofs.Exact.{Moved}
use Rattle.removal.proofs.Steps.{removed-moved}
use Rattle.models.proofs.Shape.{Names}
use Rattle.method.specs.Method.{shifted, passed, stayed}
use Rattle.method.proofs.Stages.{Passing, passing, staying}
use Rattle.guarantee.proofs.Common.{waited}
use Rattle.guarantee.proofs.Points.{waited-point, clock_sum, dot-waited}
use Rattle.guarantee.proofs.Scope.{joined-names}

-- ---- letting time pass: the rows held at the point earlier by x / (k · p 0)
pub record Earlier (s : List Row) (p : List ℤ) : Type 0 where
  pub k : ℤ
  pub x : ℤ
  pub k_pos : pos 0 <ℤ k
  pub x_ok : pos 0 ≤ℤ x
  pub holds : Meets (waited k (neg_ℤ x) p) s

swap_step : (k d s x : ℤ) → k *ℤ d +ℤ neg_ℤ s *ℤ x ≡ k *ℤ d +ℤ neg_ℤ x *ℤ s
swap_step k d s x = simp ring

module _ (k x : ℤ) (p : List ℤ) (hp : Point 16 p) where
  shifted-dot : (r : Row) → Blind delay_entry r → dot (shifted r).entries (move delay_entry k x p) ≡ dot r.entries (waited k (neg_ℤ x) p)
  unfolding shifted
  shifted-dot r e =
      dot-move delay_entry k x (shifted r).entries p (rw hp.size (omega arith))
      ∙ ap₂ (λ (a b : ℤ). k *ℤ a +ℤ b *ℤ x) (rest-with delay_entry (neg_ℤ (clock_sum r.entries)) r.entries p ∙ sym (dot_blind delay_entry r.entries p e)) (at_with delay_entry _ r.entries)
      ∙ swap_step k (dot r.entries p) (clock_sum r.entries) x
      ∙ sym (dot-waited k (neg_ℤ x) r.entries p)

  shifted-holds : (r : Row) → Blind delay_entry r → Holds (move delay_entry k x p) (shifted r) ↔ Holds (waited k (neg_ℤ x) p) r
  unfolding shifted
  shifted-holds r e = let z = shifted-dot r e in (λ h. rw z at h, λ h. rw z h)

  shifted-meets : (s : List Row) → All (Blind delay_entry) s → Meets (move delay_entry k x p) (map shifted s) ↔ Meets (waited k (neg_ℤ x) p) s
  shifted-meets s b =
      let m = all_mapped shifted s in
      (λ a. all_map (λ r h. (shifted-holds r h.0).0 h.1) (all-zip b (m.0 a)), λ a. m.1 (all_map (λ r h. (shifted-holds r h.0).1 h.1) (all-zip b a)))

  at-delay : at (move delay_entry k x p) delay_entry ≡ x
  at-delay = at-move delay_entry k x p (rw hp.size (omega arith))

passed_exact : (s t : List Row) → passed s ≡ Ok t → All (Blind delay_entry) s → (p : List ℤ) → Point 16 p → Meets p t ↔ Earlier s p
passed_exact s t e b p hp = (
  λ a. let m = moved.0 a in
      let j = (open_up m.den m.num m.den_pos).0 m.holds in
      record {
        k = m.den;
        x = m.num;
        k_pos = m.den_pos;
        x_ok = rw (at-delay m.den m.num p hp) at ((single-above delay_entry (move delay_entry m.den m.num p)).0 (all_head j));
        holds = (shifted-meets m.den m.num p hp s b).0 (all_tail j);
      },
  λ a. moved.1 (record {
    num = a.x;
    den = a.k;
    den_pos = a.k_pos;
    holds = (open_up a.k a.x a.k_pos).1 (cons
        ((single-above delay_entry (move delay_entry a.k a.x p)).1 (rw (at-delay a.k a.x p hp) a.x_ok))
        ((shifted-meets a.k a.x p hp s b).1 a.holds));
  }),
)
  where
    y : Passing s t
    y = passing s t e

    moved : Meets p t ↔ Moved y.delayed delay_entry p
    moved = removed-moved delay_entry y.delayed t y.is_out 16 p hp (λ (f : delay_entry ≡ 0). omega arith) (omega arith)

    open_up : (k x : ℤ) → pos 0 <ℤ k → Meets (move delay_entry k x p) y.delayed ↔ Meets (move delay_entry k x p) (single delay_entry (negsuc 0) ∷ map shifted s)
    open_up k x h =
        let q = move-point 16 delay_entry k x p hp (λ (f : delay_entry ≡ 0). omega arith) h in
        let j = joined_exact (move delay_entry k x p) q.positive (single delay_entry (negsuc 0) ∷ map shifted s) [] y.delayed y.is_delayed in
        (λ a. (j.0 a).0, λ a. j.1 (a, nil))

-- ---- an invariant, time, the invariant again
back_step : (k d a s : ℤ) → pos 1 *ℤ (k *ℤ a +ℤ d *ℤ s) +ℤ neg_ℤ d *ℤ s ≡ k *ℤ a
back_step k d a s = ring_by (k ∷ d ∷ a ∷ s ∷ []) (search read depth 12) tt

back_holds : (r : Row) (k d : ℤ) (q : List ℤ) → pos 0 <ℤ k → Holds q r → Holds (waited (pos 1) (neg_ℤ d) (waited k d q)) r
back_holds r k d q h a =
    let z : dot r.entries (waited (pos 1) (neg_ℤ d) (waited k d q)) ≡ k *ℤ dot r.entries q =
    dot-waited (pos 1) (neg_ℤ d) r.entries (waited k d q)
    ∙ ap (λ (t : ℤ). pos 1 *ℤ t +ℤ neg_ℤ d *ℤ clock_sum r.entries) (dot-waited k d r.entries q)
    ∙ back_step k d (dot r.entries q) (clock_sum r.entries) in
    rw z (under_scale (pos_of h) r.strict _ a)

-- where a point enters, and where it was on entering
pub record Entered (inv s : List Row) (q : List ℤ) : Type 0 where
  pub stays : Meets q inv
  pub k : ℤ
  pub x : ℤ
  pub k_pos : pos 0 <ℤ k
  pub x_ok : pos 0 ≤ℤ x
  pub arrived : Meets (waited k (neg_ℤ x) q) inv
  pub was : Meets (waited k (neg_ℤ x) q) s

module _ (n : ℕ) (lt : n < delay_entry) (inv s t : List Row) (e : stayed inv s ≡ Ok t) (ni : All (Names n) inv) (ns : All (Names n) s) where
  pub stayed_forward : (q : List ℤ) → Point 16 q → Meets q s → Meets q inv → (k d : ℤ) → pos 0 <ℤ k → pos 0 ≤ℤ d → Meets (waited k d q) inv → Meets (waited k d q) t
  stayed_forward q hq a i k d hk hd w =
      let x = staying inv s t e in
      let hw = waited-point k d q hq hk in
      let nm = joined-names inv s x.arrived x.is_arrived ni ns in
      let mid = (joined_exact q hq.positive inv s x.arrived x.is_arrived).1 (i, a) in
      let after = (passed_exact x.arrived x.waited x.is_waited (all_map (λ r f. f delay_entry lt) nm) (waited k d q) hw).1 (record {
        k = pos 1;
        x = d;
        k_pos = omega zed;
        x_ok = hd;
        holds = all_map (λ r h. back_holds r k d q hk h) mid;
      }) in
      (joined_exact (waited k d q) hw.positive inv x.waited t x.is_out).1 (w, after)

  pub stayed_back : (q : List ℤ) → Point 16 q → Meets q t → Entered inv s q
  stayed_back q hq a =
      let x = staying inv s t e in
      let nm = joined-names inv s x.arrived x.is_arrived ni ns in
      let out = (joined_exact q hq.positive inv x.waited t x.is_out).0 a in
      let b = (passed_exact x.arrived x.waited x.is_waited (all_map (λ r f. f delay_entry lt) nm) q hq).0 out.1 in
      let hb = waited-point b.k (neg_ℤ b.x) q hq b.k_pos in
      let mid = (joined_exact (waited b.k (neg_ℤ b.x) q) hb.positive inv s x.arrived x.is_arrived).0 b.holds in
      record { stays = out.0; k = b.k; x = b.x; k_pos = b.k_pos; x_ok = b.x_ok; arrived = mid.0; was = mid.1 }
