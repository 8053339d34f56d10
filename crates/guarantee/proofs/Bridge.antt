-- Runs with fractions and runs over a common denominator have the same traces: a valuation and a point that say the same stay so.
-- Assumes nothing.
use mathlib.Core.Path.{◌≡◌, refl, sym, ◌∙◌, ap, ap₂}
use mathlib.Core.Logic.{◌↔◌}
use mathlib.Core.List.{List, [], ◌∷◌, ◌++◌, map}
use Prim.Native.Nat.{ℕ, zero, suc, ◌+◌, ◌-◌, ◌<◌, ◌≤◌}
use native.Mathlib.Omega.{arith}
use native.Mathlib.Decide.{ℕ_discrete, dec_lt}
use lib.ListN.{length, get_or, set, length-set, take, drop, replicate, get_or-replicate, get_or-append}
use lib.Seq.{get_or-set_other, get_or-append-add}
use lib.IntN.{ℤ, pos, ◌+ℤ◌, ◌*ℤ◌, +ℤ_idr, *ℤ-zero, zero-*ℤ}
use lib.Signed.{◌≤ℤ◌, ◌<ℤ◌}
use Rattle.integers.specs.Lists.{All, In}
use Rattle.integers.proofs.Lists.{all_head, all_tail, all_map, all-zip, all_in}
use Rattle.integers.proofs.Whole.{ring, one-*ℤ, of-pos, pos_of, pos-*}
use Rattle.integers.proofs.Order.{read, ring_by}
use Rattle.rows.specs.declared.Row.{Row}
use Rattle.rows.specs.Rows.{at, dot, Holds as HoldsC}
use Rattle.rows.proofs.Sign.{under_scale, under_unscale}
use Rattle.rows.proofs.Meaning.{dot-nil, set-zero}
use Rattle.removal.specs.Exact.{Point, Meets as MeetsC}
use Rattle.models.specs.Automaton.{Automaton, Edge}
use Rattle.models.specs.Runs.{Fraction, whole, ◌⊕◌, NotNegative, total, Holds, Meets, at_zero, later, reset, Event, event, Run, begins, moves, Trace}
use Rattle.models.proofs.Shape.{Names, Shaped}
use Rattle.guarantee.proofs.Common.{Setting, at_zero as zeroC, clock_rates, waited, reset as resetC, Run as RunC, begins as beginsC, moves as movesC, Trace as TraceC}
use Rattle.guarantee.proofs.Points.{not-below-*, zero-point, at-waited, waited-first, waited-point, rate_low, reset-point}
use Rattle.guarantee.proofs.Scope.{names_more}
use Rattle.guarantee.proofs.Moves.{clocks-high}

abbrev pub none : Fraction
none = whole (pos 0)

abbrev pub value : List Fraction → ℕ → Fraction
value v i = get_or v i none

-- ---- the sum of a row
dot-first : (a : ℤ) (l q : List ℤ) → dot (a ∷ l) q ≡ a *ℤ at q 0 +ℤ dot l (drop 1 q)
unfolding dot
dot-first a l [] = sym (ap₂ (λ (x y : ℤ). x +ℤ y) (*ℤ-zero a) (dot-nil l))
dot-first a l (x ∷ q) = refl

pub at_drop : (q : List ℤ) (i : ℕ) → at (drop 1 q) i ≡ at q (suc i)
at_drop [] i = refl
at_drop (x ∷ q) i = refl

dot_null : (l q : List ℤ) → ((i : ℕ) → at l i *ℤ at q i ≡ pos 0) → dot l q ≡ pos 0
unfolding dot
dot_null [] q f = refl
dot_null (a ∷ l) [] f = refl
dot_null (a ∷ l) (x ∷ q) f = ap₂ (λ (s t : ℤ). s +ℤ t) (f 0) (dot_null l q (λ i. f (suc i)))

sum_step : (D a n d y m e s : ℤ) → D *ℤ n ≡ d *ℤ y → D *ℤ m ≡ e *ℤ s → D *ℤ ((a *ℤ n) *ℤ e +ℤ m *ℤ d) ≡ (d *ℤ e) *ℤ (a *ℤ y +ℤ s)
sum_step D a n d y m e s h k =
    let x₁ : D *ℤ ((a *ℤ n) *ℤ e +ℤ m *ℤ d) ≡ (a *ℤ e) *ℤ (D *ℤ n) +ℤ d *ℤ (D *ℤ m) = simp ring in
    let x₂ : (a *ℤ e) *ℤ (d *ℤ y) +ℤ d *ℤ (e *ℤ s) ≡ (d *ℤ e) *ℤ (a *ℤ y +ℤ s) = simp ring in
    x₁ ∙ ap₂ (λ (t u : ℤ). (a *ℤ e) *ℤ t +ℤ d *ℤ u) h k ∙ x₂

pub zero-over-one : (D : ℤ) (x : ℤ) → x ≡ pos 0 → D *ℤ pos 0 ≡ pos 1 *ℤ x
zero-over-one D x e = *ℤ-zero D ∙ sym (one-*ℤ x ∙ e)

total-dot : (D : ℤ) (l q : List ℤ) (v : List Fraction) → ((i : ℕ) → i < length v → D *ℤ (value v i).num ≡ (value v i).den *ℤ at q i) → ((i : ℕ) → length v ≤ i → at l i *ℤ at q i ≡ pos 0) →
    D *ℤ (total l v).num ≡ (total l v).den *ℤ dot l q
unfolding total
total-dot D [] q v f g = zero-over-one D (dot [] q) (dot_null [] q (λ i. zero-*ℤ (at q i)))
total-dot D (a ∷ l) q [] f g = zero-over-one D (dot (a ∷ l) q) (dot_null (a ∷ l) q (λ i. g i (omega arith)))
total-dot D (a ∷ l) q (x ∷ v) f g =
    let ih = total-dot D l (drop 1 q) v (λ i h. rw (at_drop q i) (f (suc i) (omega arith))) (λ i h. rw (at_drop q i) (g (suc i) (omega arith))) in
    rw (dot-first a l q) (sum_step D a x.num x.den (at q 0) (total l v).num (total l v).den (dot l (drop 1 q)) (f 0 (omega arith)) ih)

-- ---- a point and a valuation say the same, up to entry n
pub record Same (n : ℕ) (p : List ℤ) (v : List Fraction) : Type 0 where
  pub size : length v ≡ suc n
  pub same : (i : ℕ) → i ≤ n → at p 0 *ℤ (value v i).num ≡ (value v i).den *ℤ at p i

same-holds : {n : ℕ} {p : List ℤ} {v : List Fraction} → Point 16 p → Same n p v → (r : Row) → Names n r → Holds v r ↔ HoldsC p r
same-holds {n} {p} {v} hp x r nm =
    let e = total-dot (at p 0) r.entries p v
    (λ i h. x.same i (let k : i < suc n = rw x.size at h in omega arith))
    (λ i h. let k : suc n ≤ i = rw x.size at h in let z = nm i (omega arith) in rw z (zero-*ℤ (at p i))) in (
      λ h. under_unscale (pos_of (total r.entries v).positive) r.strict _ (rw e at (under_scale (pos_of hp.positive) r.strict _ h)),
      λ h. under_unscale (pos_of hp.positive) r.strict _ (rw e (under_scale (pos_of (total r.entries v).positive) r.strict _ h)),
    )

pub same_to : {n : ℕ} {p : List ℤ} {v : List Fraction} → Point 16 p → Same n p v → {rows : List Row} → All (Names n) rows → Meets v rows → MeetsC p rows
same_to hp x nm a = all_map (λ r k. (same-holds hp x r k.0).0 k.1) (all-zip nm a)

pub same_from : {n : ℕ} {p : List ℤ} {v : List Fraction} → Point 16 p → Same n p v → {rows : List Row} → All (Names n) rows → MeetsC p rows → Meets v rows
same_from hp x nm a = all_map (λ r k. (same-holds hp x r k.0).1 k.1) (all-zip nm a)

-- ---- waiting
module _ (f : Fraction → Fraction) where
  value-map : (v : List Fraction) (i : ℕ) → i < length v → value (map f v) i ≡ f (value v i)
  value-map [] i h = absurd (omega arith)
  value-map (x ∷ v) zero h = refl
  value-map (x ∷ v) (suc i) h = value-map v i (omega arith)

  value_stays : (n : ℕ) (v : List Fraction) (i : ℕ) → i < n → value (take n v ++ map f (drop n v)) i ≡ value v i
  value_stays zero v i h = absurd (omega arith)
  value_stays (suc n) [] i h = refl
  value_stays (suc n) (x ∷ v) zero h = refl
  value_stays (suc n) (x ∷ v) (suc i) h = value_stays n v i (omega arith)

  value_grows : (n : ℕ) (v : List Fraction) (i : ℕ) → n ≤ i → i < length v → value (take n v ++ map f (drop n v)) i ≡ f (value v i)
  value_grows zero v i a b = value-map v i b
  value_grows (suc n) [] i a b = absurd (omega arith)
  value_grows (suc n) (x ∷ v) zero a b = absurd (omega arith)
  value_grows (suc n) (x ∷ v) (suc i) a b = value_grows n v i (omega arith) (omega arith)

  length_mapped : (n : ℕ) (v : List Fraction) → length (take n v ++ map f (drop n v)) ≡ length v
  length_mapped zero [] = refl
  length_mapped zero (x ∷ v) = ap suc (length_mapped zero v)
  length_mapped (suc n) [] = refl
  length_mapped (suc n) (x ∷ v) = ap suc (length_mapped n v)

rate_high : (i : ℕ) → 9 ≤ i → i ≤ 14 → at clock_rates i ≡ pos 1
rate_high i a b = go (i - 9) (omega arith) (omega arith)
  where
    ones : (j : ℕ) → j < 6 → at clock_rates (9 + j) ≡ pos 1
    ones j h =
        get_or-append-add (replicate 9 (pos 0)) (replicate 6 (pos 1) ++ (pos 0 ∷ [])) j (pos 0)
        ∙ get_or-append (replicate 6 (pos 1)) (pos 0 ∷ []) (pos 0) j h
        ∙ get_or-replicate 6 j (pos 1) (pos 0) h

    go : (j : ℕ) → i ≡ 9 + j → j < 6 → at clock_rates i ≡ pos 1
    go j e h = rw e (ones j h)

low_step : (k d p₀ n e y : ℤ) → p₀ *ℤ n ≡ e *ℤ y → (k *ℤ p₀) *ℤ n ≡ e *ℤ (k *ℤ y +ℤ d *ℤ pos 0)
low_step k d p₀ n e y h =
    let a : (k *ℤ p₀) *ℤ n ≡ k *ℤ (p₀ *ℤ n) = simp ring in
    let b : k *ℤ (e *ℤ y) ≡ e *ℤ (k *ℤ y) = simp ring in
    a ∙ ap (λ (t : ℤ). k *ℤ t) h ∙ b ∙ ap (λ (t : ℤ). e *ℤ t) (sym (ap (λ (t : ℤ). k *ℤ y +ℤ t) (*ℤ-zero d) ∙ +ℤ_idr (k *ℤ y)))

high-step : (k d p₀ n e y g f : ℤ) → p₀ *ℤ n ≡ e *ℤ y → g *ℤ (k *ℤ p₀) ≡ d *ℤ f → (k *ℤ p₀) *ℤ (n *ℤ f +ℤ g *ℤ e) ≡ (e *ℤ f) *ℤ (k *ℤ y +ℤ d *ℤ pos 1)
high-step k d p₀ n e y g f h c =
    let a : (k *ℤ p₀) *ℤ (n *ℤ f +ℤ g *ℤ e) ≡ (k *ℤ f) *ℤ (p₀ *ℤ n) +ℤ e *ℤ (g *ℤ (k *ℤ p₀)) = simp ring in
    let b : (k *ℤ f) *ℤ (e *ℤ y) +ℤ e *ℤ (d *ℤ f) ≡ (e *ℤ f) *ℤ (k *ℤ y +ℤ d *ℤ pos 1) = ring_by (k ∷ d ∷ e ∷ y ∷ f ∷ []) (search read depth 14) tt in
    a ∙ ap₂ (λ (t u : ℤ). (k *ℤ f) *ℤ t +ℤ e *ℤ u) h c ∙ b

-- the delay g is d / (k · p 0)
pub same-later : {n : ℕ} {p : List ℤ} {v : List Fraction} → 8 ≤ n → n ≤ 14 → (k d : ℤ) (g : Fraction) → g.num *ℤ (k *ℤ at p 0) ≡ d *ℤ g.den → Same n p v → Same n (waited k d p) (later g v)
unfolding later
same-later {n} {p} {v} lo hi k d g c x = record { size = length_mapped (λ y. y ⊕ g) 9 v ∙ x.size; same = λ i h. by i h (dec_lt i 9) }
  where
    w : List Fraction
    w = take 9 v ++ map (λ y. y ⊕ g) (drop 9 v)

    by : (i : ℕ) → i ≤ n → Dec (i < 9) → at (waited k d p) 0 *ℤ (value w i).num ≡ (value w i).den *ℤ at (waited k d p) i
    by i h (yes l) =
        rw (waited-first k d p, at-waited k d p i, value_stays (λ y. y ⊕ g) 9 v i l, rate_low i (omega arith))
        (low_step k d (at p 0) (value v i).num (value v i).den (at p i) (x.same i h))
    by i h (no l) =
        rw (waited-first k d p, at-waited k d p i, value_grows (λ y. y ⊕ g) 9 v i (omega arith) (rw x.size (omega arith)), rate_high i (omega arith) (omega arith))
        (high-step k d (at p 0) (value v i).num (value v i).den (at p i) g.num g.den (x.same i h) c)

-- ---- resetting
value_set : (v : List Fraction) (c : ℕ) → value (set v c none) c ≡ none
value_set [] c = refl
value_set (a ∷ v) zero = refl
value_set (a ∷ v) (suc c) = value_set v c

same_set : {n : ℕ} {p : List ℤ} {v : List Fraction} (c : ℕ) → 8 < c → Same n p v → Same n (set p c (pos 0)) (set v c none)
same_set {n} {p} {v} c lo x = record { size = length-set v c none ∙ x.size; same = λ i h. by i h (ℕ_discrete i c) }
  where
    first : at (set p c (pos 0)) 0 ≡ at p 0
    first = get_or-set_other p c 0 (pos 0) (pos 0) (λ (e : 0 ≡ c). omega arith)

    by : (i : ℕ) → i ≤ n → Dec (i ≡ c) → at (set p c (pos 0)) 0 *ℤ (value (set v c none) i).num ≡ (value (set v c none) i).den *ℤ at (set p c (pos 0)) i
    by i h (yes e) = rw (e, value_set v c, set-zero p c) (zero-over-one (at (set p c (pos 0)) 0) (pos 0) refl)
    by i h (no f) = rw (first, get_or-set_other p c i (pos 0) (pos 0) f, get_or-set_other v c i none none f) (x.same i h)

same-reset : {n : ℕ} {p : List ℤ} {v : List Fraction} (cs : List ℕ) → All (λ c. 8 < c) cs → Same n p v → Same n (resetC cs p) (reset cs v)
unfolding reset resetC
same-reset [] a x = x
same-reset (c ∷ cs) a x = same-reset cs (all_tail a) (same_set c (all_head a) x)

-- ---- runs, both ways, from a setting given both ways
module _ (m : Automaton) (ok : Shaped m) (s : List ℤ) (ps : List Fraction) (hs : Setting m s) (start : Same (8 + m.clocks) (zeroC s) (at_zero m ps)) where
  hz : Point 16 (zeroC s)
  hz = zero-point ok hs

  pub record There (tr : List Event) (l : ℕ) (v : List Fraction) : Type 0 where
    pub point : List ℤ
    pub is_point : Point 16 point
    pub says : Same (8 + m.clocks) point v
    pub run : RunC m s tr l point

  there-step : {tr : List Event} {l : ℕ} {v : List Fraction} → There tr l v → (d : Fraction) → NotNegative d → Meets (later d v) (m.invariant l) →
      (t : Edge) → In t m.edges → t.source ≡ l → Meets (later d v) t.guard → Meets (reset t.resets (later d v)) (m.invariant t.target) →
      There (tr ++ (event t ∷ [])) t.target (reset t.resets (later d v))
  there-step {tr} {l} {v} x d hd inv t it src gd arr =
      let few = ok.few_clocks in
      let p = x.point in
      let k = d.den in
      let e = d.num *ℤ at p 0 in
      let hi = clocks-high (all_in ok.resets it) in
      let hw = waited-point k e p x.is_point d.positive in
      let sw = same-later {n = 8 + m.clocks} (omega arith) (omega arith) k e d (later_eq d.num k (at p 0)) x.says in
      let hq = reset-point t.resets (waited k e p) hi hw in
      let sq = same-reset t.resets hi sw in
      record {
        point = resetC t.resets (waited k e p);
        is_point = hq;
        says = sq;
        run = movesC x.run t it src k e d.positive (not-below-* hd x.is_point.positive)
            (same_to hw sw (ok.invariants l) inv) (same_to hw sw (all_in ok.guards it) gd) (same_to hq sq (ok.invariants t.target) arr);
      }
    where
      later_eq : (g k p : ℤ) → g *ℤ (k *ℤ p) ≡ (g *ℤ p) *ℤ k
      later_eq g k p = simp ring

  pub there : {tr : List Event} {l : ℕ} {v : List Fraction} → Run m ps tr l v → There tr l v
  there (begins a) = record { point = zeroC s; is_point = hz; says = start; run = beginsC (same_to hz start (ok.invariants 0) a) }
  there (moves r d hd inv t it src gd arr) = there-step (there r) d hd inv t it src gd arr

  record Back (tr : List Event) (l : ℕ) (p : List ℤ) : Type 0 where
    valuation : List Fraction
    is_point : Point 16 p
    says : Same (8 + m.clocks) p valuation
    run : Run m ps tr l valuation

  back_step : {tr : List Event} {l : ℕ} {p : List ℤ} → Back tr l p → (t : Edge) → In t m.edges → t.source ≡ l → (k d : ℤ) → pos 0 <ℤ k → pos 0 ≤ℤ d →
      MeetsC (waited k d p) (m.invariant l) → MeetsC (waited k d p) t.guard → MeetsC (resetC t.resets (waited k d p)) (m.invariant t.target) →
      Back (tr ++ (event t ∷ [])) t.target (resetC t.resets (waited k d p))
  back_step {tr} {l} {p} x t it src k d hk hd inv gd arr =
      let few = ok.few_clocks in
      let g : Fraction = record { num = d; den = k *ℤ at p 0; positive = of-pos (pos-* (pos_of hk) (pos_of x.is_point.positive)) } in
      let hi = clocks-high (all_in ok.resets it) in
      let hw = waited-point k d p x.is_point hk in
      let sw = same-later {n = 8 + m.clocks} (omega arith) (omega arith) k d g refl x.says in
      let hq = reset-point t.resets (waited k d p) hi hw in
      let sq = same-reset t.resets hi sw in
      record {
        valuation = reset t.resets (later g x.valuation);
        is_point = hq;
        says = sq;
        run = moves x.run g hd (same_from hw sw (ok.invariants l) inv) t it src (same_from hw sw (all_in ok.guards it) gd) (same_from hq sq (ok.invariants t.target) arr);
      }

  back : {tr : List Event} {l : ℕ} {p : List ℤ} → RunC m s tr l p → Back tr l p
  back (beginsC a) = record { valuation = at_zero m ps; is_point = hz; says = start; run = begins (same_from hz start (ok.invariants 0) a) }
  back (movesC r t it src k d hk hd inv gd arr) = back_step (back r) t it src k d hk hd inv gd arr

  pub trace_same : (tr : List Event) → Trace m ps tr ↔ TraceC m s tr
  trace_same tr = (
    λ x. let y = there x.run in record { location = x.location; point = y.point; run = y.run },
    λ x. let y = back x.run in record { location = x.location; valuation = y.valuation; run = y.run },
  )

  -- the setting meets rows on parameters only
  pub inside_same : (rows : List Row) → All (Names 8) rows → Meets (at_zero m ps) rows ↔ MeetsC (zeroC s) rows
  inside_same rows nm = let w = names_more {k = 8 + m.clocks} (omega arith) nm in (same_to hz start w, same_from hz start w)
