-- With every variable removed, what is left says whether any point at all meets the rows; so that is decided. Assumes nothing.
use mathlib.Core.Path.{◌≡◌, sym, ◌∙◌, ap}
use mathlib.Core.Logic.Dec
use mathlib.Core.Logic.Iff
use mathlib.Core.Logic.{◌↔◌, ◌≢◌}
use mathlib.Core.List.{List, [], ◌∷◌}
use Prim.Native.Nat.{ℕ, zero, suc, ◌<◌, ◌≤◌}
use native.Mathlib.Omega.{arith}
use lib.ListN.{get_or-eq_default, replicate, length-replicate}
use lib.IntN.{ℤ, pos, ◌*ℤ◌, *ℤ_comm, *ℤ-zero}
use Rattle.integers.specs.Lists.{All, nil, cons}
use Rattle.integers.proofs.Lists.{all_head, all_tail}
use Rattle.integers.proofs.Whole.{zed}
use Rattle.rows.specs.declared.Row.{Row}
use Rattle.rows.specs.Rows.{at, Holds}
use Rattle.rows.proofs.Meaning.{holds_dec}
use Rattle.removal.specs.Exact.{Point, Meets, Values}
use Rattle.removal.proofs.Several.{all_remaining, all_remaining_exact}

-- the variables 1 to n
abbrev pub variables : ℕ → List ℕ
variables zero = []
variables (suc n) = suc n ∷ variables n

variables_ok : (n w : ℕ) → n < w → All (λ v. (v ≢ 0) × (v < w)) (variables n)
variables_ok zero w h = nil
variables_ok (suc n) w h = cons (λ (e : suc n ≡ 0). omega arith, h) (variables_ok n w (omega arith))

past-variables : (n i : ℕ) → All (λ v. suc i ≢ v) (variables n) → n ≤ i
past-variables zero i a = omega arith
past-variables (suc n) i a = let h = past-variables n i (all_tail a) in let k : suc i ≢ suc n = all_head a in omega arith

pub record Some (rows : List Row) (w : ℕ) : Type 0 where
  pub point : List ℤ
  pub is_point : Point w point
  pub holds : Meets point rows

-- values of all variables are a point
some_values : (rows : List Row) (n : ℕ) (p : List ℤ) → Point (suc n) p → Values rows (suc n) (variables n) p ↔ Some rows (suc n)
some_values rows n p hp = (
  λ x. record { point = x.point; is_point = x.is_point; holds = x.holds },
  λ x. record {
    point = x.point;
    is_point = x.is_point;
    holds = x.holds;
    same_but = record { sizes = x.is_point.size ∙ sym hp.size; same = λ i. by x.point x.is_point i };
  },
)
  where
    by : (q : List ℤ) → Point (suc n) q → (i : ℕ) → All (λ v. i ≢ v) (variables n) → at p 0 *ℤ at q i ≡ at q 0 *ℤ at p i
    by q hq zero ne = *ℤ_comm (at p 0) (at q 0)
    by q hq (suc i) ne =
        let h = past-variables n i ne in
        rw (get_or-eq_default q (pos 0) {n = suc i} (rw hq.size (omega arith)), get_or-eq_default p (pos 0) {n = suc i} (rw hp.size (omega arith)))
        (*ℤ-zero (at p 0) ∙ sym (*ℤ-zero (at q 0)))

-- the rows without variables, at whatever point
pub some_exact : (rows : List Row) (n : ℕ) (p : List ℤ) → Point (suc n) p → Meets p (all_remaining (variables n) rows) ↔ Some rows (suc n)
some_exact rows n p hp = Iff.trans (all_remaining_exact (variables n) rows (suc n) p hp (variables_ok n (suc n) (omega arith))) (some_values rows n p hp)

-- ---- decided
pub meets_dec : (p : List ℤ) (rows : List Row) → Dec (Meets p rows)
meets_dec p [] = yes nil
meets_dec p (r ∷ rows) = both (holds_dec p r) (meets_dec p rows)
  where
    both : Dec (Holds p r) → Dec (Meets p rows) → Dec (Meets p (r ∷ rows))
    both (yes h) (yes t) = yes (cons h t)
    both (yes h) (no f) = no (λ a. f (all_tail a))
    both (no f) d = no (λ a. f (all_head a))

origin : ℕ → List ℤ
origin n = pos 1 ∷ replicate n (pos 0)

origin_point : (n : ℕ) → Point (suc n) (origin n)
unfolding origin
origin_point n = record { size = ap suc (length-replicate n (pos 0)); positive = omega zed }

pub some_dec : (rows : List Row) (n : ℕ) → Dec (Some rows (suc n))
some_dec rows n = Dec.of_iff (some_exact rows n (origin n) (origin_point n)) (meets_dec (origin n) (all_remaining (variables n) rows))
