-- Which variables the rows of the method's sets name: a start state and a successor no clock beyond the last, a shadow no clock at all.
-- Assumes nothing.
use mathlib.Core.Path.{◌≡◌, ◌∙◌}
use mathlib.Core.Logic.{◌≢◌}
use mathlib.Core.List.{List, [], ◌∷◌, map}
use Prim.Native.Nat.{ℕ, ◌+◌, ◌<◌, ◌≤◌}
use native.Mathlib.Omega.{arith}
use native.Mathlib.Decide.{ℕ_discrete, dec_le}
use lib.IntN.{pos, negsuc}
use Rattle.integers.specs.Lists.{All, nil, cons, In}
use Rattle.integers.proofs.Lists.{all_head, all_tail, all_map, all_mapped, all_in}
use Rattle.rows.specs.declared.Row.{Row}
use Rattle.rows.specs.Rows.{delay_entry, single}
use Rattle.entries.proofs.Sums.{at-with_other}
use Rattle.rows.proofs.Dividing.{Blind, single_blind}
use Rattle.sets.specs.Outcomes.{Ok}
use Rattle.sets.specs.Sets.{joined}
use Rattle.sets.proofs.Joining.{joined_blind}
use Rattle.removal.specs.Removal.{removed}
use Rattle.removal.proofs.Kept.{removed_other, removed_self, all_removed_other}
use Rattle.models.specs.Automaton.{Automaton, Edge, clock_entries}
use Rattle.models.proofs.Setting.{from-within, in_from}
use Rattle.models.proofs.Shape.{Names, Shaped}
use Rattle.method.specs.Method.{not_below_zero, equal_zero, shifted, passed, stayed, start, successor, shadow}
use Rattle.method.proofs.Stages.{passing, staying, starting, stages, shadow_blind}

-- ---- one variable: the rows that the method makes
equal_zero_blind : (u : ℕ) (vs : List ℕ) → All (λ v. u ≢ v) vs → All (Blind u) (equal_zero vs)
unfolding equal_zero
equal_zero_blind u [] a = nil
equal_zero_blind u (v ∷ vs) a =
    cons (single_blind u v (pos 1) (all_head a)) (cons (single_blind u v (negsuc 0) (all_head a)) (equal_zero_blind u vs (all_tail a)))

not_below_zero_blind : (u : ℕ) (vs : List ℕ) → All (λ v. u ≢ v) vs → All (Blind u) (not_below_zero vs)
unfolding not_below_zero
not_below_zero_blind u vs a = (all_mapped _ vs).1 (all_map (λ v h. single_blind u v (negsuc 0) h) a)

shifted_blind : (u : ℕ) → u ≢ delay_entry → (s : List Row) → All (Blind u) s → All (Blind u) (map shifted s)
unfolding shifted
shifted_blind u h s a = (all_mapped shifted s).1 (all_map (λ r e. at-with_other delay_entry u _ r.entries h ∙ e) a)

-- ---- one variable: time, which names the delay only in between
passed_blind : (u : ℕ) → 0 < u → (s t : List Row) → passed s ≡ Ok t → All (Blind u) s → All (Blind u) t
passed_blind u h s t e a = let x = passing s t e in go (ℕ_discrete u delay_entry) x.delayed x.is_delayed x.is_out
  where
    go : Dec (u ≡ delay_entry) → (d : List Row) → joined (single delay_entry (negsuc 0) ∷ map shifted s) [] ≡ Ok d → removed delay_entry d ≡ Ok t → All (Blind u) t
    go (yes f) d i o = rw f (removed_self delay_entry (omega arith) d t o)
    go (no f) d i o = removed_other u h delay_entry d t o (joined_blind u h _ [] d i (cons (single_blind u delay_entry (negsuc 0) f) (shifted_blind u f s a)) nil)

stayed_blind : (u : ℕ) → 0 < u → (inv s t : List Row) → stayed inv s ≡ Ok t → All (Blind u) inv → All (Blind u) s → All (Blind u) t
stayed_blind u h inv s t e i a =
    let x = staying inv s t e in
    joined_blind u h inv x.waited t x.is_out i (passed_blind u h x.arrived x.waited x.is_waited (joined_blind u h inv s x.arrived x.is_arrived i a))

-- ---- nothing past n is each variable past n not named
all-names : (n : ℕ) (l : List Row) → ((u : ℕ) → n < u → All (Blind u) l) → All (Names n) l
all-names n [] f = nil
all-names n (r ∷ l) f = cons (λ u h. all_head (f u h)) (all-names n l (λ u h. all_tail (f u h)))

names_blind : {n : ℕ} {l : List Row} → All (Names n) l → (u : ℕ) → n < u → All (Blind u) l
names_blind a u h = all_map (λ r f. f u h) a

pub names_more : {n k : ℕ} {l : List Row} → n ≤ k → All (Names n) l → All (Names k) l
names_more h a = all_map (λ r f i l. f i (omega arith)) a

pub joined-names : {n : ℕ} (rs s t : List Row) → joined rs s ≡ Ok t → All (Names n) rs → All (Names n) s → All (Names n) t
joined-names {n} rs s t e a b = all-names n t (λ u h. joined_blind u (omega arith) rs s t e (names_blind a u h) (names_blind b u h))

stayed-names : {n : ℕ} (inv s t : List Row) → stayed inv s ≡ Ok t → All (Names n) inv → All (Names n) s → All (Names n) t
stayed-names {n} inv s t e i a = all-names n t (λ u h. stayed_blind u (omega arith) inv s t e (names_blind i u h) (names_blind a u h))

equal_zero-names : {n : ℕ} (vs : List ℕ) → All (λ v. v ≤ n) vs → All (Names n) (equal_zero vs)
equal_zero-names {n} vs a = all-names n (equal_zero vs) (λ u h. equal_zero_blind u vs (all_map (λ v k. λ (e : u ≡ v). omega arith) a))

pub not_below_zero-names : {n : ℕ} (vs : List ℕ) → All (λ v. v ≤ n) vs → All (Names n) (not_below_zero vs)
not_below_zero-names {n} vs a = all-names n (not_below_zero vs) (λ u h. not_below_zero_blind u vs (all_map (λ v k. λ (e : u ≡ v). omega arith) a))

-- ---- the entries of clocks
pub clocks-within : (m : Automaton) → All (λ c. (8 < c) × (c ≤ 8 + m.clocks)) (clock_entries m)
clocks-within m = all_map (λ c h. within c h.0 h.1) (from-within 9 m.clocks)
  where
    within : (c : ℕ) → 9 ≤ c → c < 9 + m.clocks → (8 < c) × (c ≤ 8 + m.clocks)
    within c h k = (omega arith, omega arith)

-- ---- the states of an automaton
module _ (m : Automaton) (ok : Shaped m) where
  -- the start state, and what it is formed from
  module _ (K out : List Row) (e : start m K ≡ Ok out) (nk : All (Names 8) K) where
    pub start-zeroed-names : All (Names (8 + m.clocks)) (starting m K out e).zeroed
    start-zeroed-names =
        let x = starting m K out e in
        joined-names _ K x.zeroed x.is_zeroed (equal_zero-names (clock_entries m) (all_map (λ c h. h.1) (clocks-within m))) (names_more (omega arith) nk)

    pub start-names : All (Names (8 + m.clocks)) out
    start-names = let x = starting m K out e in stayed-names (m.invariant 0) x.zeroed out x.is_out (ok.invariants 0) start-zeroed-names

  -- a successor
  module _ (s : List Row) (t : Edge) (it : In t m.edges) (out : List Row) (e : successor m s t ≡ Ok out) (ns : All (Names (8 + m.clocks)) s) where
    pub successor-zeroed-names : All (Names (8 + m.clocks)) (stages m s t out e).zeroed
    successor-zeroed-names =
        let x = stages m s t out e in
        let a = joined-names t.guard s x.guarded x.is_guarded (all_in ok.guards it) ns in
        let b = all-names (8 + m.clocks) x.freed (λ u h. all_removed_other u (omega arith) t.resets x.guarded x.freed x.is_freed (names_blind a u h)) in
        joined-names _ x.freed x.zeroed x.is_zeroed (equal_zero-names t.resets (all_map (λ c h. h.1) (all_in ok.resets it))) b

    pub successor-names : All (Names (8 + m.clocks)) out
    successor-names = let x = stages m s t out e in stayed-names (m.invariant t.target) x.zeroed out x.is_out (ok.invariants t.target) successor-zeroed-names

-- a shadow
pub shadow-names : (m : Automaton) (s sh : List Row) → shadow m s ≡ Ok sh → All (Names (8 + m.clocks)) s → All (Names 8) sh
unfolding shadow
shadow-names m s sh e a = all-names 8 sh (λ u h. by u h (dec_le u (8 + m.clocks)))
  where
    by : (u : ℕ) → 8 < u → Dec (u ≤ 8 + m.clocks) → All (Blind u) sh
    by u h (yes l) = shadow_blind m s sh e u (omega arith) (in_from 9 m.clocks u h (omega arith))
    by u h (no g) = all_removed_other u (omega arith) (clock_entries m) s sh e (names_blind a u (omega arith))
