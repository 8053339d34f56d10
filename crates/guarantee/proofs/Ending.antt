-- From the first K to the end of the method: what stands when a region is found, and so the same traces. Assumes nothing.
use mathlib.Core.Path.{◌≡◌, refl, sym, subst}
use mathlib.Core.Logic.{◌↔◌, ⊎_elim}
use mathlib.Core.List.{List, [], ◌∷◌, ◌++◌}
use Prim.Native.Nat.{ℕ, zero, suc, ◌+◌, ◌<◌, ◌≤◌}
use native.Mathlib.Omega.{arith}
use lib.IntN.{ℤ, pos}
use lib.Signed.{◌≤ℤ◌}
use Rattle.integers.specs.Lists.{All, nil}
use Rattle.integers.proofs.Lists.{all_head, all_tail, all_map, all_append, all_in}
use Rattle.integers.proofs.Members.{in_none}
use Rattle.integers.proofs.Whole.{zed}
use Rattle.rows.specs.declared.Row.{Row}
use Rattle.rows.specs.Rows.{at}
use Rattle.sets.specs.Outcomes.{Ok, Result, Err}
use Rattle.sets.specs.Sets.{joined}
use Rattle.sets.proofs.Joining.{joined_exact}
use Rattle.removal.specs.Exact.{Meets}
use Rattle.models.specs.Automaton.{Automaton, parameter_entries}
use Rattle.models.specs.Runs.{Event}
use Rattle.models.proofs.Setting.{from-within}
use Rattle.models.proofs.Shape.{Names, Shaped}
use Rattle.method.specs.Method.{not_below_zero, State, Due, Limits, Attempt, Next, on, halted, fresh, begun, advanced, counted, Ending, explored, after_start, after_K, method}
use Rattle.method.proofs.Form.{Formed}
use Rattle.method.proofs.Loop.{explored_end, explored_spent, explored-on, explored-halted}
use Rattle.method.proofs.Entry.{not_found}
use Rattle.guarantee.proofs.Common.{Setting, reference-is, at_zero, Trace}
use Rattle.guarantee.proofs.Points.{at-padded, zero-point, reference-initial, not_below_zero_exact}
use Rattle.guarantee.proofs.Scope.{joined-names, not_below_zero-names}
use Rattle.guarantee.proofs.Graph.{Graph}
use Rattle.guarantee.proofs.Paths.{trace_path, path_trace}
use Rattle.guarantee.proofs.Explore.{Full, begun_full, advanced_full}

-- ---- what stands when nothing is due
pub record Ended (m : Automaton) (region : List Row) : Type 0 where
  pub K : List Row
  pub states : List State
  pub graph : Graph m K states region
  pub reference_inside : Meets (at_zero m.reference) region
  pub names : All (Names 8) region
  pub formed : Formed region

ended : {m : Automaton} (a : Attempt) → a.due ≡ [] → Full m a → Ended m a.region
ended a e x = record {
  K = a.K;
  states = a.states;
  graph = record {
    K_names = x.inv.K_names;
    begun = x.has_start;
    standing = λ S i. all_in x.inv.standing i;
    closed = λ S i t j s. ⊎_elim (λ h. h) (λ k. in_none a.due e k) (x.inv.done S i t j s);
  };
  reference_inside = x.inv.region_reference;
  names = x.inv.region_names;
  formed = x.inv.region_formed;
}

-- ---- the exploration ends so, if it finds a region
abbrev Ends : Automaton → Ending → Type 0
Ends m x = x.outcome ≡ Ok tt → Ended m x.region

module _ (m : Automaton) (ok : Shaped m) (l : Limits) where
  by_turn : (budget : ℕ) (a : Attempt) (d : Due) (ds : List Due) → a.due ≡ d ∷ ds → Full m a → ((b : Attempt) → Full m b → Ends m (explored budget m l b)) →
      (n : Next) → advanced m l (counted a ds) d ≡ n → Ends m (explored (suc budget) m l a)
  by_turn budget a d ds e x ih (on b) f =
      subst (Ends m) (sym (explored-on m l budget a b d ds e f)) (ih b (advanced_full m ok l (counted a ds) b d (rw e at x.inv) x.has_start f))
  by_turn budget a d ds e x ih (halted r b) f = subst (Ends m) (sym (explored-halted m l budget a b r d ds e f)) (λ o. not_found o)

  explored-ends : (budget : ℕ) (a : Attempt) → Full m a → Ends m (explored budget m l a)
  explored-ends zero a x = go a.due refl
    where
      go : (ds : List Due) → a.due ≡ ds → Ends m (explored zero m l a)
      go [] e = subst (Ends m) (sym (explored_end m l zero a e)) (λ o. ended a e x)
      go (d ∷ ds) e = subst (Ends m) (sym (explored_spent m l a d ds e)) (λ o. not_found o)
  explored-ends (suc budget) a x = go a.due refl (λ b y. explored-ends budget b y)
    where
      go : (ds : List Due) → a.due ≡ ds → ((b : Attempt) → Full m b → Ends m (explored budget m l b)) → Ends m (explored (suc budget) m l a)
      go [] e ih = subst (Ends m) (sym (explored_end m l (suc budget) a e)) (λ o. ended a e x)
      go (d ∷ ds) e ih = by_turn budget a d ds e x ih (advanced m l (counted a ds) d) refl

-- ---- the first K names parameters only, and the reference meets it
at-not_negative : (s : List ℤ) (i : ℕ) → All (λ z. pos 0 ≤ℤ z) s → pos 0 ≤ℤ at s i
at-not_negative [] i a = omega zed
at-not_negative (x ∷ s) zero a = all_head a
at-not_negative (x ∷ s) (suc i) a = at-not_negative s i (all_tail a)

module _ (m : Automaton) (ok : Shaped m) where
  abbrev first_rows : List Row
  first_rows = m.initial ++ not_below_zero (parameter_entries m)

  parameter_low : (v : ℕ) → v < 1 + m.parameters → v ≤ 8
  parameter_low v h = let few = ok.few_parameters in omega arith

  first-names : All (Names 8) first_rows
  first-names = (all_append m.initial (not_below_zero (parameter_entries m))).1
      (ok.initial, not_below_zero-names (parameter_entries m) (all_map (λ v h. parameter_low v h.1) (from-within 1 m.parameters)))

  reference-at : (v : ℕ) → v ≤ 8 → pos 0 ≤ℤ at (at_zero m.reference) v
  unfolding at_zero
  reference-at v h = let k : v < 16 = omega arith in rw (at-padded 16 m.reference v k) (at-not_negative m.reference v ok.not_negative)

  first-reference : Meets (at_zero m.reference) first_rows
  first-reference = (all_append m.initial (not_below_zero (parameter_entries m))).1
      (reference-initial ok, (not_below_zero_exact (parameter_entries m) (at_zero m.reference)).1 (all_map (λ v h. reference-at v (parameter_low v h.1)) (from-within 1 m.parameters)))

  -- ---- all of it
  start-ends : (budget : ℕ) (l : Limits) (n : Next) → ((a : Attempt) → n ≡ on a → Full m a) → Ends m (after_start budget m l n)
  start-ends budget l (on a) f = explored-ends m ok l budget a (f a refl)
  start-ends budget l (halted r a) f = λ o. not_found o

  K-ends : (budget : ℕ) (l : Limits) (k : Result (List Row)) → joined first_rows [] ≡ k → Ends m (after_K budget m l k)
  K-ends budget l (Ok K) e = start-ends budget l (begun m l (fresh K 0 0))
      (λ a f. begun_full m ok l K 0 0 a f
      (joined-names first_rows [] K e first-names nil)
      ((joined_exact (at_zero m.reference) (zero-point ok (reference-is ok)).positive first_rows [] K e).1 (first-reference, nil)))
  K-ends budget l (Err r) e = λ o. not_found o

  pub method-ended : (budget : ℕ) (l : Limits) → (method budget l m).outcome ≡ Ok tt → Ended m (method budget l m).region
  unfolding method
  method-ended budget l = K-ends budget l (joined first_rows []) refl

  -- the traces at every setting of the region are those of the paths, and so are the reference's
  pub same_traces : (region : List Row) → Ended m region → (s : List ℤ) → Setting m s → Meets (at_zero s) region → (tr : List Event) → Trace m s tr ↔ Trace m m.reference tr
  same_traces region e s hs inside tr = (
    λ x. path_trace m ok e.K e.states region e.graph m.reference (reference-is ok) e.reference_inside tr
        (trace_path m ok e.K e.states region e.graph s hs inside tr x),
    λ x. path_trace m ok e.K e.states region e.graph s hs inside tr
        (trace_path m ok e.K e.states region e.graph m.reference (reference-is ok) e.reference_inside tr x),
  )
