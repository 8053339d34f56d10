-- A start state, a successor and a shadow hold exactly the points that they should: forwards and backwards. Assumes nothing.
use mathlib.Core.Path.{◌≡◌}
use mathlib.Core.Logic.{◌↔◌, ◌≢◌}
use mathlib.Core.List.{List}
use Prim.Native.Nat.{ℕ, ◌+◌, ◌<◌, ◌≤◌}
use native.Mathlib.Omega.{arith}
use lib.IntN.{ℤ, pos, neg_ℤ}
use lib.Signed.{◌≤ℤ◌, ◌<ℤ◌}
use Rattle.integers.specs.Lists.{All, In}
use Rattle.integers.proofs.Lists.{all_map, all_in}
use Rattle.rows.specs.declared.Row.{Row}
use Rattle.rows.specs.Rows.{at}
use Rattle.sets.specs.Outcomes.{Ok}
use Rattle.sets.proofs.Joining.{joined_exact}
use Rattle.removal.specs.Exact.{Point, Meets, SameBut, Values}
use Rattle.removal.proofs.Points.{same_refl}
use Rattle.removal.proofs.Steps.{all_removed_exact}
use Rattle.models.specs.Automaton.{Automaton, Edge, clock_entries}
use Rattle.models.proofs.Shape.{Names, Shaped}
use Rattle.method.specs.Method.{equal_zero, start, successor, shadow}
use Rattle.method.proofs.Stages.{Starting, starting, Stages, stages}
use Rattle.guarantee.proofs.Common.{Setting, at_zero, waited, reset}
use Rattle.guarantee.proofs.Points.{zero_clock, waited-point, reset-zero, reset-point, reset_buts, equal_zero_exact}
use Rattle.guarantee.proofs.Scope.{clocks-within, start-zeroed-names, successor-zeroed-names}
use Rattle.guarantee.proofs.Steps.{Entered, stayed_forward, stayed_back}

pub clocks-high : {n : ℕ} {cs : List ℕ} → All (λ c. (8 < c) × (c ≤ n)) cs → All (λ c. 8 < c) cs
clocks-high a = all_map (λ c h. h.0) a

clocks_ok : {n : ℕ} {cs : List ℕ} → n < 16 → All (λ c. (8 < c) × (c ≤ n)) cs → All (λ c. (c ≢ 0) × (c < 16)) cs
clocks_ok l a = all_map (λ c h. let a = h.0 in let b = h.1 in (λ (e : c ≡ 0). omega arith, omega arith)) a

-- at a setting every clock is 0
pub zero_clocks : {m : Automaton} → Shaped m → {s : List ℤ} → Setting m s → All (λ v. at (at_zero s) v ≡ pos 0) (clock_entries m)
zero_clocks {m} ok {s} hs = all_map (λ c h. zero c h.0 h.1) (clocks-within m)
  where
    zero : (c : ℕ) → 8 < c → c ≤ 8 + m.clocks → at (at_zero s) c ≡ pos 0
    zero c h k = let few = ok.few_clocks in zero_clock ok hs c h (omega arith)

module _ (m : Automaton) (ok : Shaped m) where
  room : 8 + m.clocks < 15
  room = let few = ok.few_clocks in omega arith

  -- ---- a shadow
  pub shadow_exact : (s sh : List Row) → shadow m s ≡ Ok sh → (p : List ℤ) → Point 16 p → Meets p sh ↔ Values s 16 (clock_entries m) p
  unfolding shadow
  shadow_exact s sh e p hp = all_removed_exact (clock_entries m) s sh e 16 p hp (clocks_ok (let r = room in omega arith) (clocks-within m))

  -- a point of a state is one of its shadow
  pub shadow-of : (s sh : List Row) → shadow m s ≡ Ok sh → (p : List ℤ) → Point 16 p → Meets p s → Meets p sh
  shadow-of s sh e p hp a = (shadow_exact s sh e p hp).1 (record { point = p; is_point = hp; same_but = same_refl (clock_entries m) p; holds = a })

  -- ---- the start state
  module _ (K out : List Row) (e : start m K ≡ Ok out) (nk : All (Names 8) K) where
    abbrev st : Starting m K out
    st = starting m K out e

    pub start_forward : (q : List ℤ) → Point 16 q → All (λ v. at q v ≡ pos 0) (clock_entries m) → Meets q K → Meets q (m.invariant 0) →
        (k d : ℤ) → pos 0 <ℤ k → pos 0 ≤ℤ d → Meets (waited k d q) (m.invariant 0) → Meets (waited k d q) out
    start_forward q hq z a =
        stayed_forward (8 + m.clocks) room (m.invariant 0) st.zeroed out st.is_out (ok.invariants 0) (start-zeroed-names m ok K out e nk) q hq
        ((joined_exact q hq.positive (equal_zero (clock_entries m)) K st.zeroed st.is_zeroed).1 ((equal_zero_exact (clock_entries m) q).1 z, a))

    pub record Began (q : List ℤ) : Type 0 where
      pub entered : Entered (m.invariant 0) (starting m K out e).zeroed q
      pub zeros : All (λ v. at (waited entered.k (neg_ℤ entered.x) q) v ≡ pos 0) (clock_entries m)
      pub before : Meets (waited entered.k (neg_ℤ entered.x) q) K

    pub start_back : (q : List ℤ) → Point 16 q → Meets q out → Began q
    start_back q hq a =
        let n = stayed_back (8 + m.clocks) room (m.invariant 0) st.zeroed out st.is_out (ok.invariants 0) (start-zeroed-names m ok K out e nk) q hq a in
        let p = waited n.k (neg_ℤ n.x) q in
        let hp = waited-point n.k (neg_ℤ n.x) q hq n.k_pos in
        let b = (joined_exact p hp.positive (equal_zero (clock_entries m)) K st.zeroed st.is_zeroed).0 n.was in
        record { entered = n; zeros = (equal_zero_exact (clock_entries m) p).0 b.0; before = b.1 }

  -- ---- a successor
  module _ (s : List Row) (t : Edge) (it : In t m.edges) (out : List Row) (e : successor m s t ≡ Ok out) (ns : All (Names (8 + m.clocks)) s) where
    abbrev sg : Stages m s t out
    sg = stages m s t out e

    resets_ok : All (λ c. (c ≢ 0) × (c < 16)) t.resets
    resets_ok = clocks_ok (let r = room in omega arith) (all_in ok.resets it)

    pub successor_forward : (w : List ℤ) → Point 16 w → Meets w s → Meets w t.guard → Meets (reset t.resets w) (m.invariant t.target) →
        (k d : ℤ) → pos 0 <ℤ k → pos 0 ≤ℤ d → Meets (waited k d (reset t.resets w)) (m.invariant t.target) → Meets (waited k d (reset t.resets w)) out
    successor_forward w hw a g =
        let q = reset t.resets w in
        let hi = clocks-high (all_in ok.resets it) in
        let hq = reset-point t.resets w hi hw in
        let b = (joined_exact w hw.positive t.guard s sg.guarded sg.is_guarded).1 (g, a) in
        let c = (all_removed_exact t.resets sg.guarded sg.freed sg.is_freed 16 q hq resets_ok).1
        (record { point = w; is_point = hw; same_but = reset_buts t.resets w hi; holds = b }) in
        let z = (joined_exact q hq.positive (equal_zero t.resets) sg.freed sg.zeroed sg.is_zeroed).1 ((equal_zero_exact t.resets q).1 (reset-zero t.resets w), c) in
        stayed_forward (8 + m.clocks) room (m.invariant t.target) sg.zeroed out sg.is_out (ok.invariants t.target) (successor-zeroed-names m ok s t it out e ns) q hq z

    pub record Came (q : List ℤ) : Type 0 where
      pub entered : Entered (m.invariant t.target) (stages m s t out e).zeroed q
      pub zeros : All (λ c. at (waited entered.k (neg_ℤ entered.x) q) c ≡ pos 0) t.resets
      pub from_point : List ℤ
      pub is_point : Point 16 from_point
      pub same : SameBut t.resets (waited entered.k (neg_ℤ entered.x) q) from_point
      pub guard : Meets from_point t.guard
      pub before : Meets from_point s

    pub successor_back : (q : List ℤ) → Point 16 q → Meets q out → Came q
    successor_back q hq a =
        let n = stayed_back (8 + m.clocks) room (m.invariant t.target) sg.zeroed out sg.is_out (ok.invariants t.target) (successor-zeroed-names m ok s t it out e ns) q hq a in
        let p = waited n.k (neg_ℤ n.x) q in
        let hp = waited-point n.k (neg_ℤ n.x) q hq n.k_pos in
        let b = (joined_exact p hp.positive (equal_zero t.resets) sg.freed sg.zeroed sg.is_zeroed).0 n.was in
        let v = (all_removed_exact t.resets sg.guarded sg.freed sg.is_freed 16 p hp resets_ok).0 b.1 in
        let g = (joined_exact v.point v.is_point.positive t.guard s sg.guarded sg.is_guarded).0 v.holds in
        record { entered = n; zeros = (equal_zero_exact t.resets p).0 b.0; from_point = v.point; is_point = v.is_point; same = v.same_but; guard = g.0; before = g.1 }
