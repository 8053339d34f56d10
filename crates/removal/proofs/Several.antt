-- Removing several variables, one after the other, is exact too. Assumes nothing.
use mathlib.Core.Path.{◌≡◌, sym, ◌∙◌}
use mathlib.Core.Logic.Iff
use mathlib.Core.Logic.{◌↔◌, ◌≢◌}
use mathlib.Core.List.{List, [], ◌∷◌}
use Prim.Native.Nat.{ℕ, ◌<◌}
use native.Mathlib.Decide.{ℕ_discrete}
use lib.IntN.{ℤ, ◌*ℤ◌}
use Rattle.integers.specs.Lists.{All, nil, cons}
use Rattle.integers.proofs.Lists.{all_head, all_tail, all_map}
use Rattle.integers.proofs.Whole.{ring}
use Rattle.rows.specs.declared.Row.{Row}
use Rattle.rows.specs.Rows.{at}
use Rattle.removal.specs.Removal.{remaining}
use Rattle.removal.specs.Exact.{Point, Meets, Values}
use Rattle.removal.proofs.Points.{same_refl, same-sym, same-trans, blind_holds, move, at-move, at-move_other, length-move, move-point, move_same}
use Rattle.removal.proofs.Exact.{remaining_exact}

-- ---- no variable: the rows at the point itself
pub values_none : (rows : List Row) (w : ℕ) (p : List ℤ) → Point w p → Meets p rows ↔ Values rows w [] p
values_none rows w p hp = (
  λ a. record { point = p; is_point = hp; same_but = same_refl [] p; holds = a },
  λ x. all_map (λ r h. blind_holds [] p x.point hp.positive x.is_point.positive x.same_but r nil h) x.holds,
)

-- the rows changed for others that say no less at any point
pub values_map : {s t : List Row} {w : ℕ} {vs : List ℕ} {p : List ℤ} → ((q : List ℤ) → Point w q → Meets q s → Meets q t) → Values s w vs p → Values t w vs p
values_map f x = record { point = x.point; is_point = x.is_point; same_but = x.same_but; holds = f x.point x.is_point x.holds }

-- ---- one variable more: first a value for vs in what remains, then one for v
forth : (rows : List Row) (w v : ℕ) (vs : List ℕ) (p : List ℤ) → v ≢ 0 → v < w → Values (remaining v rows) w vs p → Values rows w (v ∷ vs) p
forth rows w v vs p nz lt x =
    let m = x.point in
    let y = (remaining_exact rows w v m x.is_point nz lt).0 x.holds in
    record {
      point = y.point;
      is_point = y.is_point;
      same_but = same-trans (v ∷ []) vs p m y.point x.is_point.positive x.same_but y.same_but;
      holds = y.holds;
    }

step-at : (p q x : ℤ) → p *ℤ (q *ℤ x) ≡ (p *ℤ q) *ℤ x
step-at p q x = simp ring

-- back: the point of all values, moved at v to where p has it
back : (rows : List Row) (w v : ℕ) (vs : List ℕ) (p : List ℤ) → Point w p → v ≢ 0 → v < w → Values rows w (v ∷ vs) p → Values (remaining v rows) w vs p
back rows w v vs p hp nz lt x =
    record {
      point = m;
      is_point = hm;
      same_but = record { sizes = length-move v k t q ∙ x.same_but.sizes; same = λ i ne. by i ne (ℕ_discrete i v) };
      holds = (remaining_exact rows w v m hm nz lt).1 (record { point = q; is_point = x.is_point; same_but = same-sym (move_same v k t q nz); holds = x.holds });
    }
  where
    q : List ℤ
    q = x.point

    k : ℤ
    k = at p 0

    t : ℤ
    t = at q 0 *ℤ at p v

    m : List ℤ
    m = move v k t q

    hm : Point w m
    hm = move-point w v k t q x.is_point nz hp.positive

    zero-at : at m 0 ≡ k *ℤ at q 0
    zero-at = at-move_other v 0 k t q (λ e. nz (sym e))

    by : (i : ℕ) → All (λ u. i ≢ u) vs → Dec (i ≡ v) → at p 0 *ℤ at m i ≡ at m 0 *ℤ at p i
    by i ne (yes e) = rw (e, zero-at, at-move v k t q (rw x.is_point.size lt)) (step-at (at p 0) (at q 0) (at p v))
    by i ne (no f) = rw (zero-at, at-move_other v i k t q f, x.same_but.same i (cons f ne)) (step-at (at p 0) (at q 0) (at p i))

pub values_more : (rows : List Row) (w v : ℕ) (vs : List ℕ) (p : List ℤ) → Point w p → v ≢ 0 → v < w → Values (remaining v rows) w vs p ↔ Values rows w (v ∷ vs) p
values_more rows w v vs p hp nz lt = (forth rows w v vs p nz lt, back rows w v vs p hp nz lt)

-- ---- the rows that remain of several variables, as they are formed
unfoldable pub all_remaining : List ℕ → List Row → List Row
all_remaining [] rows = rows
all_remaining (v ∷ vs) rows = all_remaining vs (remaining v rows)

pub all_remaining_exact : (vs : List ℕ) (rows : List Row) (w : ℕ) (p : List ℤ) → Point w p → All (λ v. (v ≢ 0) × (v < w)) vs → Meets p (all_remaining vs rows) ↔ Values rows w vs p
unfolding all_remaining
all_remaining_exact [] rows w p hp ok = values_none rows w p hp
all_remaining_exact (v ∷ vs) rows w p hp ok =
    let o = all_head ok in
    Iff.trans (all_remaining_exact vs (remaining v rows) w p hp (all_tail ok)) (values_more rows w v vs p hp o.0 o.1)
