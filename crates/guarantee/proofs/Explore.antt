-- What is true of every attempt while the method explores, and that each step keeps it. Assumes nothing.
use mathlib.Core.Path.{◌≡◌, refl, sym, ◌∙◌, ap, subst}
use mathlib.Core.Logic.{◌⊎◌, inl, inr, ⊎_elim}
use mathlib.Core.List.{List, [], ◌∷◌, ◌++◌}
use Prim.Native.Nat.{ℕ, suc, ◌+◌}
use lib.IntN.{ℤ, pos, neg_ℤ}
use Rattle.integers.specs.Lists.{All, nil, cons, In, here}
use Rattle.integers.proofs.Tests.{or_true}
use Rattle.integers.proofs.Lists.{all_head, all_tail, all_map, all_append, all_in}
use Rattle.integers.proofs.Members.{in_cons, in_none, in_one, in_left, in_right, in_append}
use Rattle.integers.proofs.Whole.{zed}
use Rattle.rows.specs.declared.Row.{Row}
use Rattle.rows.specs.Rows.{Holds, negated}
use Rattle.rows.proofs.Negating.{negated-holds, at-negated}
use Rattle.sets.specs.Outcomes.{Ok}
use Rattle.sets.specs.Sets.{joined, any_false}
use Rattle.sets.proofs.Joining.{joined_exact}
use Rattle.sets.proofs.Tests.{any_false-never}
use Rattle.removal.specs.Exact.{Point, Meets}
use Rattle.models.specs.Automaton.{Automaton, Edge}
use Rattle.models.proofs.Shape.{Names, Shaped}
use Rattle.method.specs.Method.{State, Due, leaving, Limits, Attempt, on, start, successor, shadow, broken, fresh, begun, advanced}
use Rattle.method.proofs.Form.{Formed, none-formed, joined-formed}
use Rattle.method.proofs.Tests.{broken-all, broken-breaks, none-broken, negation_clash}
use Rattle.method.proofs.Steps.{Keeping, beginning, Verdict, has_false, ruled_out, refines, is_known, keeps, advancing}
use Rattle.method.specs.Due.{due}
use Rattle.method.proofs.Loop.{leaving_in, leaving-all}
use Rattle.guarantee.proofs.Common.{reference-is, at_zero, waited}
use Rattle.guarantee.proofs.Points.{agree_meets, zero-point, dot-at_zero, reference-invariant, waited-point, waited-low, still}
use Rattle.guarantee.proofs.Scope.{joined-names, start-names, successor-names, shadow-names}
use Rattle.guarantee.proofs.Moves.{zero_clocks, shadow-of, start_forward}
use Rattle.guarantee.proofs.Graph.{Standing, Handled, Begun}

-- ---- what is true: of a successor due, and of an attempt whose due list is ds
pub record DueOk (m : Automaton) (states : List State) (d : Due) : Type 0 where
  pub in_states : In d.state states
  pub in_table : In d.by m.edges

-- K and the region name parameters only and hold at the reference; every kept state stands; each of its transitions is handled or due
pub record Inv (m : Automaton) (K : List Row) (states : List State) (region : List Row) (ds : List Due) : Type 0 where
  pub K_names : All (Names 8) K
  pub K_reference : Meets (at_zero m.reference) K
  pub region_names : All (Names 8) region
  pub region_reference : Meets (at_zero m.reference) region
  pub region_formed : Formed region
  pub standing : All (Standing m region) states
  pub due_ok : All (DueOk m states) ds
  pub done : (S : State) → In S states → (t : Edge) → In t m.edges → t.source ≡ S.location → Handled m K states S t ⊎ In (due S t) ds

pub record Full (m : Automaton) (a : Attempt) : Type 0 where
  pub inv : Inv m a.K a.states a.region a.due
  pub has_start : Begun m a.K a.states

-- ---- one that was due is handled
settle_one : {m : Automaton} {K : List Row} {states : List State} {region : List Row} {d : Due} {ds : List Due} →
    Inv m K states region (d ∷ ds) → Handled m K states d.state d.by → Inv m K states region ds
settle_one {m} {K} {states} {region} {d} {ds} v h = record {
  K_names = v.K_names;
  K_reference = v.K_reference;
  region_names = v.region_names;
  region_reference = v.region_reference;
  region_formed = v.region_formed;
  standing = v.standing;
  due_ok = all_tail v.due_ok;
  done = λ S i t j s. ⊎_elim
      (λ a. inl a)
      (λ a. ⊎_elim (λ e. inl (subst (λ (x : Due). Handled m K states x.state x.by) (sym e) h)) (λ b. inr b) (in_cons a))
      (v.done S i t j s);
}

handled_more : {m : Automaton} {K : List Row} {states : List State} {S : State} {t : Edge} (more : List State) → Handled m K states S t → Handled m K (states ++ more) S t
handled_more more h = record { rows = h.rows; is_successor = h.is_successor; verdict = ⊎_elim (λ f. inl f) (λ i. inr (in_left more i)) h.verdict }

module _ (m : Automaton) (ok : Shaped m) where
  reference-point : Point 16 (at_zero m.reference)
  reference-point = zero-point ok (reference-is ok)

  -- ---- a state is kept
  grow : {K : List Row} {states : List State} {region : List Row} {ds : List Due} (S : State) (sh region' : List Row) → Inv m K states region ds →
      All (Names (8 + m.clocks)) S.rows → shadow m S.rows ≡ Ok sh → Meets (at_zero m.reference) sh → joined sh region ≡ Ok region' →
      Inv m K (states ++ (S ∷ [])) region' (ds ++ leaving S m.edges)
  grow {K} {states} {region} {ds} S sh region' v nm is-sh ref e = record {
    K_names = v.K_names;
    K_reference = v.K_reference;
    region_names = joined-names sh region region' e (shadow-names m S.rows sh is-sh nm) v.region_names;
    region_reference = (joined_exact (at_zero m.reference) reference-point.positive sh region region' e).1 (ref, v.region_reference);
    region_formed = joined-formed sh region region' e v.region_formed;
    standing = (all_append states (S ∷ [])).1 (
      all_map (λ U x. record { named = x.named; sh = x.sh; is_shadow = x.is_shadow; within = λ p hp h. x.within p hp ((joined_exact p hp.positive sh region region' e).0 h).1 }) v.standing,
      cons (record { named = nm; sh = sh; is_shadow = is-sh; within = λ p hp h. ((joined_exact p hp.positive sh region region' e).0 h).0 }) nil,
    );
    due_ok = (all_append ds (leaving S m.edges)).1 (
      all_map (λ d x. record { in_states = in_left (S ∷ []) x.in_states; in_table = x.in_table }) v.due_ok,
      leaving-all S m.edges (λ t i. record { in_states = in_right states (here refl); in_table = i }),
    );
    done = λ U i t j s. ⊎_elim
        (λ a. ⊎_elim (λ h. inl (handled_more (S ∷ []) h)) (λ b. inr (in_left (leaving S m.edges) b)) (v.done U a t j s))
        (λ a. inr (in_right ds (fresh-due U t j s (in_one a))))
        (in_append states (S ∷ []) i);
  }
    where
      fresh-due : (U : State) (t : Edge) → In t m.edges → t.source ≡ U.location → U ≡ S → In (due U t) (leaving S m.edges)
      fresh-due U t j s e = rw e (leaving_in S t m.edges (s ∙ ap (λ (x : State). x.location) e) j)

  -- ---- an attempt begins: the reference lies in the start state, and so in its shadow
  module _ (K rows : List Row) (e : start m K ≡ Ok rows) (nk : All (Names 8) K) (rk : Meets (at_zero m.reference) K) where
    pub reference-start : Meets (waited (pos 1) (pos 0) (at_zero m.reference)) rows
    reference-start = start_forward m ok K rows e nk (at_zero m.reference) reference-point (zero_clocks ok (reference-is ok)) rk (reference-invariant ok)
        (pos 1) (pos 0) (omega zed) (omega zed) (still (at_zero m.reference) (reference-invariant ok))

    pub reference-shadow : (sh : List Row) → shadow m rows ≡ Ok sh → Meets (at_zero m.reference) sh
    reference-shadow sh f =
        let z = at_zero m.reference in
        let hq = waited-point (pos 1) (pos 0) z reference-point (omega zed) in
        agree_meets reference-point hq (waited-low (pos 1) (pos 0) z) (shadow-names m rows sh f (start-names m ok K rows e nk)) (shadow-of m ok rows sh f (waited (pos 1) (pos 0) z) hq reference-start)

  pub begun_full : (l : Limits) (K : List Row) (n f : ℕ) (b : Attempt) → begun m l (fresh K n f) ≡ on b → All (Names 8) K → Meets (at_zero m.reference) K → Full m b
  begun_full l K n f b e nk rk =
      let x = beginning m l (fresh K n f) b e in
      let S : State = record { location = 0; rows = x.rows } in
      let w = x.is_kept in
      let v0 : Inv m K [] [] [] = record {
        K_names = nk;
        K_reference = rk;
        region_names = nil;
        region_reference = nil;
        region_formed = none-formed;
        standing = nil;
        due_ok = nil;
        done = λ U i t j s. in_none [] refl i;
      } in
      subst (λ (c : Attempt). Full m c) w.is_next (record {
        inv = grow S x.sh w.region v0 (start-names m ok K x.rows x.is_start nk) x.is_shadow (reference-shadow K x.rows x.is_start nk rk x.sh x.is_shadow) w.is_region;
        has_start = record { state = S; location = refl; is_start = x.is_start; is_in = here refl };
      })

  -- ---- a successor that was due is formed and judged
  module _ (l : Limits) (a b : Attempt) (d : Due) (v : Inv m a.K a.states a.region (d ∷ a.due)) (st : Begun m a.K a.states) where
    done-with : Handled m a.K a.states d.state d.by → a ≡ b → Full m b
    done-with h e = subst (λ (c : Attempt). Full m c) e (record { inv = settle_one v h; has_start = st })

    module _ (rows sh : List Row) (e₁ : successor m d.state.rows d.by ≡ Ok rows) (e₂ : shadow m rows ≡ Ok sh) where
      abbrev S : State
      S = record { location = d.by.target; rows = rows }

      ok_d : DueOk m a.states d
      ok_d = all_head v.due_ok

      named : All (Names (8 + m.clocks)) rows
      named = successor-names m ok d.state.rows d.by ok_d.in_table rows e₁ (all_in v.standing ok_d.in_states).named

      handled_empty : ((q : List ℤ) → Point 16 q → Meets q a.K → ¬ Meets q rows) → Handled m a.K a.states d.state d.by
      handled_empty f = record { rows = rows; is_successor = e₁; verdict = inl f }

      shadow-at : (q : List ℤ) → Point 16 q → Meets q rows → Meets q sh
      shadow-at = shadow-of m ok rows sh e₂

      at-point : (r : Row) → Holds m.reference r → Holds (at_zero m.reference) r
      at-point r h = rw (dot-at_zero ok (reference-is ok) r.entries) h

      at-reference : (r : Row) → Holds (at_zero m.reference) r → Holds m.reference r
      at-reference r h = rw (dot-at_zero ok (reference-is ok) r.entries) at h

      -- the state is kept
      kept_full : Meets (at_zero m.reference) sh → Keeping m a S sh b → Full m b
      kept_full r w =
          let u = grow S sh w.region v named e₂ r w.is_region in
          subst (λ (c : Attempt). Full m c) w.is_next (record {
            inv = settle_one u (record { rows = rows; is_successor = e₁; verdict = inr (in_right a.states (here refl)) });
            has_start = record { state = st.state; location = st.location; is_start = st.is_start; is_in = in_left (S ∷ []) st.is_in };
          })

      -- a new attempt: the negation of a row that the reference breaks holds at the reference
      refined_full : (r : Row) (K : List Row) → Names 8 r → ¬ Holds (at_zero m.reference) r → joined (negated r ∷ []) a.K ≡ Ok K →
          begun m l (fresh K (suc a.attempts) a.formed) ≡ on b → Full m b
      refined_full r K nr br e f =
          begun_full l K (suc a.attempts) a.formed b f
          (joined-names (negated r ∷ []) a.K K e (cons (λ i h. at-negated r.entries i ∙ ap neg_ℤ (nr i h)) nil) v.K_names)
          ((joined_exact (at_zero m.reference) reference-point.positive (negated r ∷ []) a.K K e).1 (cons ((negated-holds r (at_zero m.reference)).0 br) nil, v.K_reference))

      judged_full : Verdict m l a S sh b → Full m b
      judged_full (has_false t e) = done-with (handled_empty (λ q hq k w. ⊎_elim
          (λ x. any_false-never q hq.positive rows x w)
          (λ x. any_false-never q hq.positive sh x (shadow-at q hq w))
          (or_true (any_false rows) (any_false sh) t))) e
      judged_full (ruled_out t e) = done-with (handled_empty (λ q hq k w. negation_clash q (broken m.reference sh) a.K t (broken-all m.reference sh (shadow-at q hq w)) k)) e
      judged_full (refines r rs K f e g) = refined_full r K
          (all_head (rw f at (broken-all m.reference sh (shadow-names m rows sh e₂ named))))
          (λ h. all_head (rw f at (broken-breaks m.reference sh)) (at-reference r h)) e g
      judged_full (is_known f i e) = done-with (record { rows = rows; is_successor = e₁; verdict = inr i }) e
      judged_full (keeps f w) = kept_full (all_map at-point (none-broken m.reference sh f)) w

    pub advanced_full : advanced m l a d ≡ on b → Full m b
    advanced_full e = let x = advancing m l a d b e in judged_full x.rows x.sh x.is_successor x.is_shadow x.verdict
