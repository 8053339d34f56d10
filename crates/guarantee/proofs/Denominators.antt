-- A setting of fractions over one common denominator, and the reference, which has one. Assumes nothing.
use mathlib.Core.Path.{◌≡◌, refl, ◌∙◌, ap}
use mathlib.Core.List.{List, [], ◌∷◌, map}
use Prim.Native.Nat.{ℕ, zero, suc, ◌+◌, ◌<◌, ◌≤◌}
use native.Mathlib.Omega.{arith}
use lib.ListN.{length, drop}
use lib.IntN.{ℤ, pos, ◌*ℤ◌, *ℤ_comm}
use lib.Signed.{◌≤ℤ◌, ◌<ℤ◌}
use Rattle.integers.specs.Lists.{All, nil, cons}
use Rattle.integers.proofs.Lists.{all_head, all_tail}
use Rattle.integers.proofs.Whole.{zed, ring, IsPos, is_pos, of-pos, pos_of, pos-*}
use Rattle.rows.specs.Rows.{at, times}
use Rattle.entries.proofs.Sums.{at-times, length-times}
use Rattle.models.specs.Automaton.{Automaton}
use Rattle.models.specs.Runs.{Fraction, whole, over, NotNegative, filled, at_zero, reference_setting}
use Rattle.models.proofs.Shape.{Shaped}
use Rattle.guarantee.specs.Promise.{Setting}
use Rattle.guarantee.proofs.Common.{Setting as SettingC, padded, at_zero as zeroC}
use Rattle.guarantee.proofs.Points.{not-below-*, at-padded}
use Rattle.guarantee.proofs.Bridge.{value, at_drop, zero-over-one, Same}

-- ---- the product of all denominators, and the numerators over it
common_den : List Fraction → ℤ
common_den [] = pos 1
common_den (x ∷ ps) = x.den *ℤ common_den ps

common_nums : List Fraction → List ℤ
common_nums [] = []
common_nums (x ∷ ps) = (x.num *ℤ common_den ps) ∷ times x.den (common_nums ps)

pub common : List Fraction → List ℤ
common ps = common_den ps ∷ common_nums ps

common_pos : (ps : List Fraction) → pos 0 <ℤ common_den ps
unfolding common_den
common_pos [] = omega zed
common_pos (x ∷ ps) = of-pos (pos-* (pos_of x.positive) (pos_of (common_pos ps)))

common_length : (ps : List Fraction) → length (common_nums ps) ≡ length ps
unfolding common_nums
common_length [] = refl
common_length (x ∷ ps) = ap suc (length-times x.den (common_nums ps) ∙ common_length ps)

times-not-below : {k : ℤ} → pos 0 <ℤ k → (l : List ℤ) → All (λ z. pos 0 ≤ℤ z) l → All (λ z. pos 0 ≤ℤ z) (times k l)
unfolding times
times-not-below {k} h [] a = nil
times-not-below {k} h (z ∷ l) a = let b : pos 0 ≤ℤ (k *ℤ z) = rw *ℤ_comm (not-below-* (all_head a) h) in cons b (times-not-below h l (all_tail a))

common_not-below : (ps : List Fraction) → All NotNegative ps → All (λ z. pos 0 ≤ℤ z) (common_nums ps)
unfolding common_nums
common_not-below [] a = nil
common_not-below (x ∷ ps) a = cons (not-below-* (all_head a) (common_pos ps)) (times-not-below x.positive (common_nums ps) (common_not-below ps (all_tail a)))

first_step : (d D n : ℤ) → (d *ℤ D) *ℤ n ≡ d *ℤ (n *ℤ D)
first_step d D n = simp ring

next-step : (d D n e y : ℤ) → D *ℤ n ≡ e *ℤ y → (d *ℤ D) *ℤ n ≡ e *ℤ (d *ℤ y)
next-step d D n e y h =
    let a : (d *ℤ D) *ℤ n ≡ d *ℤ (D *ℤ n) = simp ring in
    let b : d *ℤ (e *ℤ y) ≡ e *ℤ (d *ℤ y) = simp ring in
    a ∙ ap (λ (t : ℤ). d *ℤ t) h ∙ b

common_values : (ps : List Fraction) (i : ℕ) → common_den ps *ℤ (value ps i).num ≡ (value ps i).den *ℤ at (common_nums ps) i
unfolding common_den common_nums
common_values [] i = refl
common_values (x ∷ ps) zero = first_step x.den (common_den ps) x.num
common_values (x ∷ ps) (suc i) =
    rw (at-times x.den (common_nums ps) i) (next-step x.den (common_den ps) (value ps i).num (value ps i).den (at (common_nums ps) i) (common_values ps i))

pub common_setting : (m : Automaton) (ps : List Fraction) → Setting m ps → SettingC m (common ps)
unfolding common
common_setting m ps h = record {
  size = ap suc (common_length ps ∙ h.size);
  positive = common_pos ps;
  not_negative = cons (below (common_pos ps)) (common_not-below ps h.not_negative);
}
  where
    below : {z : ℤ} → pos 0 <ℤ z → pos 0 ≤ℤ z
    below h = omega zed

-- ---- a setting given both ways, with the clocks at 0
length-filled : (n : ℕ) (ps : List Fraction) → length (filled n ps) ≡ n
unfolding filled
length-filled zero ps = refl
length-filled (suc n) [] = ap suc (length-filled n [])
length-filled (suc n) (x ∷ ps) = ap suc (length-filled n ps)

value-filled : (n : ℕ) (ps : List Fraction) (i : ℕ) → i < n → value (filled n ps) i ≡ value ps i
unfolding filled
value-filled zero ps i h = absurd (omega arith)
value-filled (suc n) [] zero h = refl
value-filled (suc n) [] (suc i) h = value-filled n [] i (omega arith)
value-filled (suc n) (x ∷ ps) zero h = refl
value-filled (suc n) (x ∷ ps) (suc i) h = value-filled n ps i (omega arith)

zero_same : (m : Automaton) → m.clocks ≤ 6 → (s : List ℤ) (ps : List Fraction) → ((i : ℕ) → at s 0 *ℤ (value ps i).num ≡ (value ps i).den *ℤ at s (suc i)) → Same (8 + m.clocks) (zeroC s) (at_zero m ps)
unfolding at_zero zeroC
zero_same m few s ps f = record { size = ap suc (length-filled (8 + m.clocks) ps); same = λ i h. by i h }
  where
    by : (i : ℕ) → i ≤ 8 + m.clocks →
        at (padded 16 s) 0 *ℤ (value (whole (pos 1) ∷ filled (8 + m.clocks) ps) i).num ≡ (value (whole (pos 1) ∷ filled (8 + m.clocks) ps) i).den *ℤ at (padded 16 s) i
    by zero h = *ℤ_comm (at (padded 16 s) 0) (pos 1)
    by (suc i) h =
        let lt : suc i < 16 = omega arith in
        rw (value-filled (8 + m.clocks) ps i (omega arith), at-padded 16 s 0 (omega arith), at-padded 16 s (suc i) lt) (f i)

pub common_same : (m : Automaton) → Shaped m → (ps : List Fraction) → Same (8 + m.clocks) (zeroC (common ps)) (at_zero m ps)
unfolding common
common_same m ok ps = zero_same m ok.few_clocks (common ps) ps (common_values ps)

-- ---- the reference
over-same : (D : ℤ) → IsPos D → (l : List ℤ) (i : ℕ) → D *ℤ (value (map (λ n. over n D) l) i).num ≡ (value (map (λ n. over n D) l) i).den *ℤ at l i
over-same D h [] i = zero-over-one D (pos 0) refl
over-same D (is_pos d) (z ∷ l) zero = refl
over-same D h (z ∷ l) (suc i) = over-same D h l i

module _ (m : Automaton) (ok : Shaped m) where
  reference_values : (i : ℕ) → at m.reference 0 *ℤ (value (reference_setting m) i).num ≡ (value (reference_setting m) i).den *ℤ at m.reference (suc i)
  unfolding reference_setting
  reference_values i =
      over-same (at m.reference 0) (pos_of ok.positive) (drop 1 m.reference) i
      ∙ ap (λ (t : ℤ). (value (reference_setting m) i).den *ℤ t) (at_drop m.reference i)

  pub reference-same : Same (8 + m.clocks) (zeroC m.reference) (at_zero m (reference_setting m))
  reference-same = zero_same m ok.few_clocks m.reference (reference_setting m) reference_values
