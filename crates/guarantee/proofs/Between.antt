-- The invariant holds during a delay, not only at its two ends: rows are convex. So a run asks for it only there. Assumes nothing.
use mathlib.Core.Path.{◌≡◌}
use mathlib.Core.Bool.{Bool}
use mathlib.Core.Logic.{⊎_elim}
use mathlib.Core.List.{List}
use Prim.Native.Nat.{ℕ, zero, suc, ◌+◌}
use native.Mathlib.Omega.{arith}
use lib.IntN.{ℤ, pos, negsuc, ◌+ℤ◌, ◌*ℤ◌, *ℤ-zero, zero-*ℤ, *ℤ_comm}
use lib.Signed.{◌≤ℤ◌, ◌<ℤ◌}
use Rattle.integers.proofs.Lists.{all_map, all-zip}
use Rattle.integers.proofs.Whole.{zed, ring, add-fact, total, is_pos, of-pos, pos_of, pos-*, le_scale}
use Rattle.rows.specs.declared.Row.{Row}
use Rattle.rows.specs.Rows.{Under, at, dot}
use Rattle.rows.proofs.Sign.{under_scale, under-less}
use Rattle.removal.specs.Exact.{Meets as MeetsC}
use Rattle.models.specs.Automaton.{Automaton}
use Rattle.models.specs.Runs.{Fraction, NotNegative, Meets, later, Event, Run, begins, moves}
use Rattle.models.proofs.Shape.{Shaped}
use Rattle.guarantee.specs.Promise.{Setting}
use Rattle.guarantee.proofs.Common.{waited}
use Rattle.guarantee.proofs.Points.{not-below-*, dot-waited, clock_sum, waited-point}
use Rattle.guarantee.proofs.Bridge.{there, same_to, same_from, same-later}
use Rattle.guarantee.proofs.Denominators.{common, common_setting, common_same}

below-zero : (e s : ℤ) → pos 0 ≤ℤ e → s ≤ℤ pos 0 → (e *ℤ s) ≤ℤ pos 0
below-zero (pos zero) s h k = let z : pos 0 *ℤ s ≡ pos 0 = zero-*ℤ s in omega zed
below-zero (pos (suc n)) s h k = let a = le_scale (is_pos n) s (pos 0) k in let z : pos (suc n) *ℤ pos 0 ≡ pos 0 = *ℤ-zero (pos (suc n)) in omega zed
below-zero (negsuc n) s h k = absurd h.le

times-less : (e d s : ℤ) → e ≤ℤ d → pos 0 <ℤ s → (e *ℤ s) ≤ℤ (d *ℤ s)
times-less e d s h k = let a = le_scale (pos_of k) e d h in let x = *ℤ_comm s e in let y = *ℤ_comm s d in omega zed

-- a + e s lies below a, or below a + d s
between : (t : Bool) (a e d s : ℤ) → pos 0 ≤ℤ e → e ≤ℤ d → Under t a → Under t (a +ℤ d *ℤ s) → Under t (a +ℤ e *ℤ s)
between t a e d s h k p q = ⊎_elim
    (λ l. let b = below-zero e s h l in under-less t _ a (omega (zed, add-fact a (e *ℤ s))) p)
    (λ l. let b = times-less e d s k l in under-less t _ _ (omega (zed, add-fact a (e *ℤ s), add-fact a (d *ℤ s))) q)
    (total s (pos 0))

stays-between : (k e d : ℤ) (p : List ℤ) (rows : List Row) → pos 0 <ℤ k → pos 0 ≤ℤ e → e ≤ℤ d → MeetsC p rows → MeetsC (waited k d p) rows → MeetsC (waited k e p) rows
stays-between k e d p rows hk he hd a b = all_map (λ r x.
    let y = rw (dot-waited k d r.entries p) at x.1 in
    rw (dot-waited k e r.entries p) (between r.strict (k *ℤ dot r.entries p) e d (clock_sum r.entries) he hd (under_scale (pos_of hk) r.strict _ x.0) y)) (all-zip a b)

-- ---- in a run: where it has arrived the invariant holds, and so at every time up to one where it holds again
module _ (m : Automaton) (ok : Shaped m) (ps : List Fraction) (h : Setting m ps) where
  arrived : {tr : List Event} {l : ℕ} {v : List Fraction} → Run m ps tr l v → Meets v (m.invariant l)
  arrived (begins a) = a
  arrived (moves r d hd inv t it src gd arr) = arr

  first_eq : (g k f p : ℤ) → g *ℤ ((k *ℤ f) *ℤ p) ≡ ((g *ℤ f) *ℤ p) *ℤ k
  first_eq g k f p = simp ring

  second_eq : (g k f p : ℤ) → g *ℤ ((k *ℤ f) *ℤ p) ≡ ((g *ℤ k) *ℤ p) *ℤ f
  second_eq g k f p = simp ring

  -- e is not negative and not above d
  pub stays_during : {tr : List Event} {l : ℕ} {v : List Fraction} → Run m ps tr l v → (d e : Fraction) → NotNegative e → (e.num *ℤ d.den) ≤ℤ (d.num *ℤ e.den) →
      Meets (later d v) (m.invariant l) → Meets (later e v) (m.invariant l)
  stays_during {tr} {l} {v} r d e he le inv =
      let few = ok.few_clocks in
      let x = there m ok (common ps) ps (common_setting m ps h) (common_same m ok ps) r in
      let p = x.point in
      let hp = x.is_point in
      let k = d.den *ℤ e.den in
      let hk = of-pos (pos-* (pos_of d.positive) (pos_of e.positive)) in
      let i = (d.num *ℤ e.den) *ℤ at p 0 in
      let j = (e.num *ℤ d.den) *ℤ at p 0 in
      let sd = same-later {n = 8 + m.clocks} (omega arith) (omega arith) k i d (first_eq d.num d.den e.den (at p 0)) x.says in
      let se = same-later {n = 8 + m.clocks} (omega arith) (omega arith) k j e (second_eq e.num d.den e.den (at p 0)) x.says in
      let names = ok.invariants l in
      same_from (waited-point k j p hp hk) se names
      (stays-between k j i p (m.invariant l) hk
      (not-below-* (not-below-* he d.positive) hp.positive)
      (times-less (e.num *ℤ d.den) (d.num *ℤ e.den) (at p 0) le hp.positive)
      (same_to hp x.says names (arrived r))
      (same_to (waited-point k i p hp hk) sd names inv))
