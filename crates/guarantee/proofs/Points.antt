-- Points that agree as rationals; the setting with its clocks at 0; waiting and resetting; the rows that fix variables. Assumes nothing.
use mathlib.Core.Path.{◌≡◌, refl, sym, ◌∙◌, ap, ap₂}
use mathlib.Core.Bool.{true}
use mathlib.Core.Logic.{◌↔◌, ◌≢◌, ◌⊎◌, inl, inr}
use mathlib.Core.List.{List, [], ◌∷◌, ◌++◌}
use Prim.Native.Nat.{ℕ, zero, suc, ◌<◌, ◌≤◌}
use native.Mathlib.Omega.{arith}
use native.Mathlib.Decide.{ℕ_discrete, dec_le}
use lib.ListN.{length, replicate, set, length-set, take, drop, get_or-replicate, get_or-append, get_or-eq_default}
use lib.Seq.{get_or-set_other}
use lib.IntN.{ℤ, pos, neg_ℤ, ◌+ℤ◌, ◌*ℤ◌, +ℤ_idr, +ℤ_idl, *ℤ-zero, zero-*ℤ, *ℤ_comm}
use lib.Signed.{◌≤ℤ◌, ◌<ℤ◌}
use Rattle.integers.specs.Lists.{All, nil, cons, In}
use Rattle.integers.proofs.Lists.{all_head, all_tail, all_map, all-zip, all_in, all_mapped}
use Rattle.integers.proofs.Whole.{zed, ring, one-*ℤ, of-pos, pos_of, pos-*, le_scale}
use Rattle.integers.proofs.Order.{read, ring_by}
use Rattle.rows.specs.declared.Row.{Row}
use Rattle.rows.specs.Rows.{at, dot, plus, times, Holds, holds_at}
use Rattle.entries.proofs.Sums.{at-plus, at-times, length-times, length-plus}
use Rattle.rows.proofs.Sign.{under_scale, under_unscale, under-yes}
use Rattle.rows.proofs.Meaning.{dot-nil, dot_comm, dot-plus, dot-times, dot_weigh, set-zero, single-above, single-below}
use Rattle.removal.specs.Exact.{Point, Meets, SameBut}
use Rattle.removal.proofs.Points.{cross_same, apart_or_in}
use Rattle.models.specs.Automaton.{Automaton}
use Rattle.models.proofs.Shape.{Names, Shaped}
use Rattle.method.specs.Method.{not_below_zero, equal_zero, sum}
use Rattle.guarantee.proofs.Common.{Setting, reference-is, padded, at_zero, clock_rates, waited, reset}

-- ---- a number
pub not-below-* : {a b : ℤ} → pos 0 ≤ℤ a → pos 0 <ℤ b → pos 0 ≤ℤ (a *ℤ b)
not-below-* {a} {b} h k = rw *ℤ_comm (rw *ℤ-zero at (le_scale (pos_of k) (pos 0) a h))

-- ---- agreement up to entry n: q i / q 0 is p i / p 0
pub record Agree (n : ℕ) (p q : List ℤ) : Type 0 where
  pub same : (i : ℕ) → i ≤ n → at p 0 *ℤ at q i ≡ at q 0 *ℤ at p i

pub agree_refl : (n : ℕ) (p : List ℤ) → Agree n p p
agree_refl n p = record { same = λ i h. refl }

pub agree_sym : {n : ℕ} {p q : List ℤ} → Agree n p q → Agree n q p
agree_sym a = record { same = λ i h. sym (a.same i h) }

pub agree_trans : {n : ℕ} {p q u : List ℤ} → Point 16 q → Agree n p q → Agree n q u → Agree n p u
agree_trans {n} {p} {q} {u} hq a b = record {
  same = λ i h. cross_same (at p 0) (at q 0) (at u 0) (at p i) (at q i) (at u i) (pos_of hq.positive) (a.same i h) (b.same i h);
}

pub agree_buts : {n : ℕ} {cs : List ℕ} {p q : List ℤ} → All (λ c. n < c) cs → SameBut cs p q → Agree n p q
agree_buts lo b = record { same = λ i h. b.same i (all_map (λ c k. λ e. omega arith) lo) }

-- a row that names nothing past n holds at both or at neither
pub agree_holds : {n : ℕ} {p q : List ℤ} → Point 16 p → Point 16 q → Agree n p q → (r : Row) → Names n r → Holds q r → Holds p r
agree_holds {n} {p} {q} hp hq a r nm h =
    under_unscale (pos_of hq.positive) r.strict _ (rw z at (under_scale (pos_of hp.positive) r.strict _ h))
  where
    by : (i : ℕ) → Dec (i ≤ n) → at r.entries i *ℤ (at p 0 *ℤ at q i) ≡ at r.entries i *ℤ (at q 0 *ℤ at p i)
    by i (yes l) = ap (λ (t : ℤ). at r.entries i *ℤ t) (a.same i l)
    by i (no g) = rw (nm i (omega arith)) (zero-*ℤ (at p 0 *ℤ at q i) ∙ sym (zero-*ℤ (at q 0 *ℤ at p i)))

    z : at p 0 *ℤ dot r.entries q ≡ at q 0 *ℤ dot r.entries p
    z = dot_weigh (at p 0) (at q 0) r.entries p q (hq.size ∙ sym hp.size) (λ i. by i (dec_le i n))

pub agree_meets : {n : ℕ} {p q : List ℤ} → Point 16 p → Point 16 q → Agree n p q → {rows : List Row} → All (Names n) rows → Meets q rows → Meets p rows
agree_meets hp hq a nm h = all_map (λ r k. agree_holds hp hq a r k.0 k.1) (all-zip nm h)

-- ---- the setting with its clocks at 0
length-padded : (n : ℕ) (s : List ℤ) → length (padded n s) ≡ n
unfolding padded
length-padded zero s = refl
length-padded (suc n) [] = ap suc (length-padded n [])
length-padded (suc n) (x ∷ s) = ap suc (length-padded n s)

pub at-padded : (n : ℕ) (s : List ℤ) (i : ℕ) → i < n → at (padded n s) i ≡ at s i
unfolding padded
at-padded zero s i h = absurd (omega arith)
at-padded (suc n) [] zero h = refl
at-padded (suc n) [] (suc i) h = at-padded n [] i (omega arith)
at-padded (suc n) (x ∷ s) zero h = refl
at-padded (suc n) (x ∷ s) (suc i) h = at-padded n s i (omega arith)

dot-zeros : (l : List ℤ) (n : ℕ) → dot l (padded n []) ≡ pos 0
unfolding dot padded
dot-zeros [] n = refl
dot-zeros (a ∷ l) zero = refl
dot-zeros (a ∷ l) (suc n) = rw (*ℤ-zero a, dot-zeros l n)

dot-padded : (l : List ℤ) (n : ℕ) (s : List ℤ) → length s ≤ n → dot l (padded n s) ≡ dot l s
unfolding dot padded
dot-padded [] n s h = refl
dot-padded (a ∷ l) zero [] h = refl
dot-padded (a ∷ l) zero (x ∷ s) h = absurd (omega arith)
dot-padded (a ∷ l) (suc n) [] h = rw (*ℤ-zero a, dot-zeros l n)
dot-padded (a ∷ l) (suc n) (x ∷ s) h = ap (λ (t : ℤ). a *ℤ x +ℤ t) (dot-padded l n s (omega arith))

module _ {m : Automaton} (ok : Shaped m) {s : List ℤ} (hs : Setting m s) where
  pub zero-point : Point 16 (at_zero s)
  unfolding at_zero
  zero-point = record { size = length-padded 16 s; positive = rw (at-padded 16 s 0 (omega arith)) hs.positive }

  pub zero_clock : (i : ℕ) → 8 < i → i < 16 → at (at_zero s) i ≡ pos 0
  unfolding at_zero
  zero_clock i a b = let few = ok.few_parameters in at-padded 16 s i b ∙ get_or-eq_default s (pos 0) {n = i} (rw hs.size (omega arith))

  pub dot-at_zero : (l : List ℤ) → dot l (at_zero s) ≡ dot l s
  unfolding at_zero
  dot-at_zero l = let few = ok.few_parameters in dot-padded l 16 s (rw hs.size (omega arith))

-- the reference meets the initial constraint and the first invariant
module _ {m : Automaton} (ok : Shaped m) where
  tested : {rows : List Row} → All (λ r. holds_at m.reference r ≡ true) rows → Meets (at_zero m.reference) rows
  tested a = all_map (λ r e. rw (dot-at_zero ok (reference-is ok) r.entries) (under-yes r.strict (dot r.entries m.reference) e)) a

  pub reference-initial : Meets (at_zero m.reference) m.initial
  reference-initial = tested ok.meets_initial

  pub reference-invariant : Meets (at_zero m.reference) (m.invariant 0)
  reference-invariant = tested ok.meets_invariant

-- ---- waiting
pub at-waited : (k d : ℤ) (p : List ℤ) (i : ℕ) → at (waited k d p) i ≡ k *ℤ at p i +ℤ d *ℤ at clock_rates i
unfolding waited
at-waited k d p i = at-plus (times k p) (times d clock_rates) i ∙ ap₂ (λ (x y : ℤ). x +ℤ y) (at-times k p i) (at-times d clock_rates i)

pub waited-first : (k d : ℤ) (p : List ℤ) → at (waited k d p) 0 ≡ k *ℤ at p 0
waited-first k d p = at-waited k d p 0 ∙ ap (λ (t : ℤ). k *ℤ at p 0 +ℤ t) (*ℤ-zero d) ∙ +ℤ_idr (k *ℤ at p 0)

pub rate_low : (i : ℕ) → i ≤ 8 → at clock_rates i ≡ pos 0
rate_low i h = get_or-append (replicate 9 (pos 0)) (replicate 6 (pos 1) ++ (pos 0 ∷ [])) (pos 0) i (omega arith) ∙ get_or-replicate 9 i (pos 0) (pos 0) (omega arith)

pub waited-point : (k d : ℤ) (p : List ℤ) → Point 16 p → pos 0 <ℤ k → Point 16 (waited k d p)
unfolding waited
waited-point k d p hp h = record {
  size = length-plus (times k p) (times d clock_rates) (length-times k p ∙ hp.size ∙ sym (length-times d clock_rates)) ∙ length-times k p ∙ hp.size;
  positive = rw (waited-first k d p) (of-pos (pos-* (pos_of h) (pos_of hp.positive)));
}

-- it leaves the parameters
low_step : (k d x y : ℤ) → x *ℤ (k *ℤ y +ℤ d *ℤ pos 0) ≡ (k *ℤ x) *ℤ y
low_step k d x y = rw (*ℤ-zero d, +ℤ_idr (k *ℤ y)) (simp ring)

pub waited-low : (k d : ℤ) (p : List ℤ) → Agree 8 p (waited k d p)
waited-low k d p = record { same = λ i h. rw (waited-first k d p, at-waited k d p i, rate_low i h) (low_step k d (at p 0) (at p i)) }

-- what a row comes to after it
dot-skip : (n : ℕ) (l p : List ℤ) → dot (replicate n (pos 0) ++ l) p ≡ dot l (drop n p)
unfolding dot
dot-skip zero l p = refl
dot-skip (suc n) l [] = sym (dot-nil l)
dot-skip (suc n) l (x ∷ p) = rw (zero-*ℤ x, +ℤ_idl) (dot-skip n l p)

dot_ones : (n : ℕ) (p : List ℤ) → dot (replicate n (pos 1) ++ (pos 0 ∷ [])) p ≡ sum (take n p)
unfolding dot sum
dot_ones zero [] = refl
dot_ones zero (x ∷ p) = +ℤ_idr (pos 0 *ℤ x) ∙ zero-*ℤ x
dot_ones (suc n) [] = refl
dot_ones (suc n) (x ∷ p) = ap₂ (λ (s t : ℤ). s +ℤ t) (one-*ℤ x) (dot_ones n p)

abbrev pub clock_sum : List ℤ → ℤ
clock_sum l = sum (take 6 (drop 9 l))

pub dot-waited : (k d : ℤ) (l p : List ℤ) → dot l (waited k d p) ≡ k *ℤ dot l p +ℤ d *ℤ clock_sum l
unfolding waited
dot-waited k d l p =
    dot_comm l (plus (times k p) (times d clock_rates)) ∙ dot-plus (times k p) (times d clock_rates) l
    ∙ ap₂ (λ (x y : ℤ). x +ℤ y) (dot-times k p l ∙ ap (λ (t : ℤ). k *ℤ t) (dot_comm p l))
    (dot-times d clock_rates l ∙ ap (λ (t : ℤ). d *ℤ t) (dot-skip 9 (replicate 6 (pos 1) ++ (pos 0 ∷ [])) l ∙ dot_ones 6 (drop 9 l)))

-- a delay of 0
pub still : (p : List ℤ) {rows : List Row} → Meets p rows → Meets (waited (pos 1) (pos 0) p) rows
still p a = all_map (λ r h. rw (z r.entries) h) a
  where
    z : (l : List ℤ) → dot l (waited (pos 1) (pos 0) p) ≡ dot l p
    z l = dot-waited (pos 1) (pos 0) l p ∙ ap₂ (λ (x y : ℤ). x +ℤ y) (one-*ℤ (dot l p)) (zero-*ℤ (clock_sum l)) ∙ +ℤ_idr (dot l p)

-- waiting again what was taken back
catch_step : (k q₀ z₀ qi zi x r : ℤ) → z₀ *ℤ (k *ℤ qi +ℤ neg_ℤ x *ℤ r) ≡ (k *ℤ q₀) *ℤ zi →
    ((k *ℤ q₀) *ℤ z₀) *ℤ qi ≡ q₀ *ℤ ((k *ℤ q₀) *ℤ zi +ℤ (x *ℤ z₀) *ℤ r)
catch_step k q₀ z₀ qi zi x r h =
    let ρ : List ℤ = k ∷ q₀ ∷ z₀ ∷ qi ∷ x ∷ r ∷ [] in
    let e : ((k *ℤ q₀) *ℤ z₀) *ℤ qi ≡ q₀ *ℤ (z₀ *ℤ (k *ℤ qi +ℤ neg_ℤ x *ℤ r) +ℤ (x *ℤ z₀) *ℤ r) = ring_by ρ (search read depth 14) tt in
    e ∙ ap (λ (t : ℤ). q₀ *ℤ (t +ℤ (x *ℤ z₀) *ℤ r)) h

pub catch_up : {n : ℕ} (k x : ℤ) (z q : List ℤ) → Agree n z (waited k (neg_ℤ x) q) → Agree n (waited (k *ℤ at q 0) (x *ℤ at z 0) z) q
catch_up {n} k x z q a = record {
  same = λ i h.
      rw (waited-first (k *ℤ at q 0) (x *ℤ at z 0) z, at-waited (k *ℤ at q 0) (x *ℤ at z 0) z i)
      (catch_step k (at q 0) (at z 0) (at q i) (at z i) x _ (rw (waited-first k (neg_ℤ x) q, at-waited k (neg_ℤ x) q i) at (a.same i h)));
}

-- ---- resetting
set-stays : (p : List ℤ) (c i : ℕ) → at p i ≡ pos 0 → at (set p c (pos 0)) i ≡ pos 0
set-stays p c i e = by (ℕ_discrete i c)
  where
    by : Dec (i ≡ c) → at (set p c (pos 0)) i ≡ pos 0
    by (yes f) = rw f (set-zero p c)
    by (no f) = get_or-set_other p c i (pos 0) (pos 0) f ∙ e

reset-stays : (cs : List ℕ) (p : List ℤ) (i : ℕ) → at p i ≡ pos 0 → at (reset cs p) i ≡ pos 0
unfolding reset
reset-stays [] p i e = e
reset-stays (c ∷ cs) p i e = reset-stays cs (set p c (pos 0)) i (set-stays p c i e)

pub reset-zero : (cs : List ℕ) (p : List ℤ) → All (λ c. at (reset cs p) c ≡ pos 0) cs
unfolding reset
reset-zero [] p = nil
reset-zero (c ∷ cs) p = cons (reset-stays cs (set p c (pos 0)) c (set-zero p c)) (reset-zero cs (set p c (pos 0)))

reset_other : (cs : List ℕ) (p : List ℤ) (i : ℕ) → All (λ c. i ≢ c) cs → at (reset cs p) i ≡ at p i
unfolding reset
reset_other [] p i a = refl
reset_other (c ∷ cs) p i a = reset_other cs (set p c (pos 0)) i (all_tail a) ∙ get_or-set_other p c i (pos 0) (pos 0) (all_head a)

length-reset : (cs : List ℕ) (p : List ℤ) → length (reset cs p) ≡ length p
unfolding reset
length-reset [] p = refl
length-reset (c ∷ cs) p = length-reset cs (set p c (pos 0)) ∙ length-set p c (pos 0)

reset-first : (cs : List ℕ) (p : List ℤ) → All (λ c. 8 < c) cs → at (reset cs p) 0 ≡ at p 0
reset-first cs p lo = reset_other cs p 0 (all_map (λ c k. λ (e : 0 ≡ c). omega arith) lo)

pub reset-point : (cs : List ℕ) (p : List ℤ) → All (λ c. 8 < c) cs → Point 16 p → Point 16 (reset cs p)
reset-point cs p lo hp = record { size = length-reset cs p ∙ hp.size; positive = rw (reset-first cs p lo) hp.positive }

-- a point has the values of its reset but at the clocks reset
pub reset_buts : (cs : List ℕ) (p : List ℤ) → All (λ c. 8 < c) cs → SameBut cs (reset cs p) p
reset_buts cs p lo = record { sizes = sym (length-reset cs p); same = λ i h. rw (reset-first cs p lo, reset_other cs p i h) refl }

-- what was reset agrees with a point that has zeros there and agrees elsewhere
pub reset_agree : {n : ℕ} (cs : List ℕ) (p u q : List ℤ) → All (λ c. 8 < c) cs → Point 16 u → Agree n p u → SameBut cs q u → All (λ c. at q c ≡ pos 0) cs → Agree n (reset cs p) q
reset_agree {n} cs p u q lo hu a b z = record { same = λ i h. by i h (apart_or_in i cs) }
  where
    by : (i : ℕ) → i ≤ n → All (λ c. i ≢ c) cs ⊎ In i cs → at (reset cs p) 0 *ℤ at q i ≡ at q 0 *ℤ at (reset cs p) i
    by i h (inl x) = rw (reset-first cs p lo, reset_other cs p i x)
        (cross_same (at p 0) (at u 0) (at q 0) (at p i) (at u i) (at q i) (pos_of hu.positive) (a.same i h) (sym (b.same i x)))
    by i h (inr x) = rw (all_in z x, all_in (reset-zero cs p) x) (*ℤ-zero (at (reset cs p) 0) ∙ sym (*ℤ-zero (at q 0)))

-- ---- the rows that fix variables
pub equal_zero_exact : (vs : List ℕ) (p : List ℤ) → Meets p (equal_zero vs) ↔ All (λ v. at p v ≡ pos 0) vs
unfolding equal_zero
equal_zero_exact [] p = (λ a. nil, λ a. nil)
equal_zero_exact (v ∷ vs) p =
    let ih = equal_zero_exact vs p in (
      λ a. let b = (single-below v p).0 (all_head a) in let c = (single-above v p).0 (all_head (all_tail a)) in let e : at p v ≡ pos 0 = omega zed in cons e (ih.0 (all_tail (all_tail a))),
      λ a. let e = all_head a in cons ((single-below v p).1 (omega zed)) (cons ((single-above v p).1 (omega zed)) (ih.1 (all_tail a))),
    )

pub not_below_zero_exact : (vs : List ℕ) (p : List ℤ) → Meets p (not_below_zero vs) ↔ All (λ v. pos 0 ≤ℤ at p v) vs
unfolding not_below_zero
not_below_zero_exact vs p =
    let x = all_mapped _ vs in
    (λ a. all_map (λ v h. (single-above v p).0 h) (x.0 a), λ a. x.1 (all_map (λ v h. (single-above v p).1 h) a))
