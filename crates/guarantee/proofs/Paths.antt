-- At every setting of the region, the runs are the paths of the kept states. Assumes nothing.
use mathlib.Core.Path.{◌≡◌, refl, sym, ◌∙◌, subst}
use mathlib.Core.Logic.{◌⊎◌, inl, inr}
use mathlib.Core.List.{List, [], ◌∷◌, ◌++◌}
use Prim.Native.Nat.{ℕ, ◌+◌, ◌<◌, ◌≤◌}
use native.Mathlib.Omega.{arith}
use native.Mathlib.Decide.{dec_le}
use lib.IntN.{ℤ, pos, neg_ℤ, ◌*ℤ◌, *ℤ-zero}
use lib.Signed.{◌≤ℤ◌, ◌<ℤ◌}
use Rattle.integers.specs.Lists.{All, In}
use Rattle.integers.proofs.Lists.{all_in}
use Rattle.integers.proofs.Whole.{zed, of-pos, pos_of, pos-*}
use Rattle.rows.specs.declared.Row.{Row}
use Rattle.rows.specs.Rows.{at}
use Rattle.sets.specs.Outcomes.{Ok}
use Rattle.removal.specs.Exact.{Point, Meets, Values}
use Rattle.models.specs.Automaton.{Automaton, Edge, clock_entries}
use Rattle.models.specs.Runs.{Event, event}
use Rattle.models.proofs.Setting.{in_from}
use Rattle.models.proofs.Shape.{Names, Shaped}
use Rattle.method.specs.Method.{State, start, successor}
use Rattle.method.proofs.Stages.{starting, stages}
use Rattle.guarantee.proofs.Common.{Setting, at_zero, waited, reset, Run, begins, moves, Trace}
use Rattle.guarantee.proofs.Points.{not-below-*, Agree, agree_refl, agree_sym, agree_trans, agree_buts, agree_meets, zero-point, waited-point, waited-low, still, catch_up, reset-point, reset_buts, reset_agree}
use Rattle.guarantee.proofs.Scope.{clocks-within}
use Rattle.guarantee.proofs.Steps.{Entered}
use Rattle.guarantee.proofs.Moves.{clocks-high, zero_clocks, shadow_exact, start_forward, Began, start_back, successor_forward, Came, successor_back}
use Rattle.guarantee.proofs.Graph.{Handled, Graph, Path, begin, onward, path_in, SomePath}

module _ (m : Automaton) (ok : Shaped m) (K : List Row) (states : List State) (region : List Row) (g : Graph m K states region) (s : List ℤ) (hs : Setting m s) (inside : Meets (at_zero s) region) where
  hz : Point 16 (at_zero s)
  hz = zero-point ok hs

  -- a point of each kept state at the setting
  at-setting : (S : State) → In S states → Values S.rows 16 (clock_entries m) (at_zero s)
  at-setting S i = let x = g.standing S i in (shadow_exact m ok S.rows x.sh x.is_shadow (at_zero s) hz).0 (x.within (at_zero s) hz inside)

  values_agree : {rows : List Row} (v : Values rows 16 (clock_entries m) (at_zero s)) → Agree 8 (at_zero s) v.point
  values_agree v = agree_buts (clocks-high (clocks-within m)) v.same_but

  -- the setting meets K, since the start state's shadow has it
  meets-K : Meets (at_zero s) K
  meets-K =
      let b = g.begun in
      let v = at-setting b.state b.is_in in
      let c = start_back m ok K b.state.rows b.is_start g.K_names v.point v.is_point v.holds in
      let n = c.entered in
      let hp = waited-point n.k (neg_ℤ n.x) v.point v.is_point n.k_pos in
      agree_meets hz hp (agree_trans v.is_point (values_agree v) (waited-low n.k (neg_ℤ n.x) v.point)) g.K_names c.before

  -- ---- forwards: a run follows a path; whatever it waits, in the invariant, it is in the path's last state
  record Reached (tr : List Event) (l : ℕ) (p : List ℤ) : Type 0 where
    state : State
    path : Path m K states tr state
    location : state.location ≡ l
    is_point : Point 16 p
    params : Agree 8 (at_zero s) p
    enters : (k d : ℤ) → pos 0 <ℤ k → pos 0 ≤ℤ d → Meets (waited k d p) (m.invariant l) → Meets (waited k d p) state.rows

  forward_start : Meets (at_zero s) (m.invariant 0) → Reached [] 0 (at_zero s)
  forward_start i =
      let b = g.begun in
      record {
        state = b.state;
        path = begin b.state b.location b.is_start b.is_in;
        location = b.location;
        is_point = hz;
        params = agree_refl 8 (at_zero s);
        enters = start_forward m ok K b.state.rows b.is_start g.K_names (at_zero s) hz (zero_clocks ok hs) meets-K i;
      }

  forward_step : {tr : List Event} {l : ℕ} {p : List ℤ} → Reached tr l p → (t : Edge) → In t m.edges → t.source ≡ l →
      (k d : ℤ) → pos 0 <ℤ k → pos 0 ≤ℤ d → Meets (waited k d p) (m.invariant l) → Meets (waited k d p) t.guard →
      Meets (reset t.resets (waited k d p)) (m.invariant t.target) → Reached (tr ++ (event t ∷ [])) t.target (reset t.resets (waited k d p))
  forward_step {tr} {l} {p} x t it src k d hk hd inv gd arr = by h.verdict
    where
      S : State
      S = x.state

      src' : t.source ≡ S.location
      src' = src ∙ sym x.location

      h : Handled m K states S t
      h = g.closed S (path_in x.path) t it src'

      hw : Point 16 (waited k d p)
      hw = waited-point k d p x.is_point hk

      hi : All (λ c. 8 < c) t.resets
      hi = clocks-high (all_in ok.resets it)

      q : List ℤ
      q = reset t.resets (waited k d p)

      hq : Point 16 (reset t.resets (waited k d p))
      hq = reset-point t.resets (waited k d p) hi hw

      params : Agree 8 (at_zero s) (reset t.resets (waited k d p))
      params = agree_trans hw (agree_trans x.is_point x.params (waited-low k d p)) (agree_sym (agree_buts hi (reset_buts t.resets (waited k d p) hi)))

      enters : (k' d' : ℤ) → pos 0 <ℤ k' → pos 0 ≤ℤ d' → Meets (waited k' d' (reset t.resets (waited k d p))) (m.invariant t.target) →
          Meets (waited k' d' (reset t.resets (waited k d p))) h.rows
      enters = successor_forward m ok S.rows t it h.rows h.is_successor (g.standing S (path_in x.path)).named (waited k d p) hw (x.enters k d hk hd inv) gd arr

      by : ((q : List ℤ) → Point 16 q → Meets q K → ¬ Meets q h.rows) ⊎ In (record { location = t.target; rows = h.rows }) states →
          Reached (tr ++ (event t ∷ [])) t.target (reset t.resets (waited k d p))
      by (inl f) =
          let v = waited (pos 1) (pos 0) q in
          let hv = waited-point (pos 1) (pos 0) q hq (omega zed) in
          absurd (f v hv (agree_meets hv hz (agree_sym (agree_trans hq params (waited-low (pos 1) (pos 0) q))) g.K_names meets-K) (enters (pos 1) (pos 0) (omega zed) (omega zed) (still q arr)))
      by (inr i) = record {
        state = record { location = t.target; rows = h.rows };
        path = onward x.path t it src' (record { location = t.target; rows = h.rows }) refl h.is_successor i;
        location = refl;
        is_point = hq;
        params = params;
        enters = enters;
      }

  forward : {tr : List Event} {l : ℕ} {p : List ℤ} → Run m s tr l p → Reached tr l p
  forward (begins i) = forward_start i
  forward (moves r t it src k d hk hd inv gd arr) = forward_step (forward r) t it src k d hk hd inv gd arr

  -- ---- backwards: a path is run; every point of its last state is where some run is after some delay
  record Ran (tr : List Event) (l : ℕ) (w : List ℤ) : Type 0 where
    stays : Meets w (m.invariant l)
    point : List ℤ
    is_point : Point 16 point
    run : Run m s tr l point
    k : ℤ
    d : ℤ
    k_pos : pos 0 <ℤ k
    d_ok : pos 0 ≤ℤ d
    close : Agree (8 + m.clocks) (waited k d point) w

  ran : {tr : List Event} {l : ℕ} {mid : List Row} (w p : List ℤ) → (n : Entered (m.invariant l) mid w) → Point 16 w → Point 16 p → Run m s tr l p →
      Agree (8 + m.clocks) p (waited n.k (neg_ℤ n.x) w) → Ran tr l w
  ran w p n hw hp r a = record {
    stays = n.stays;
    point = p;
    is_point = hp;
    run = r;
    k = n.k *ℤ at w 0;
    d = n.x *ℤ at p 0;
    k_pos = of-pos (pos-* (pos_of n.k_pos) (pos_of hw.positive));
    d_ok = not-below-* n.x_ok hp.positive;
    close = catch_up n.k n.x p w a;
  }

  back_start : (S : State) → start m K ≡ Ok S.rows → (w : List ℤ) → Point 16 w → Agree 8 (at_zero s) w → Meets w S.rows → Ran [] 0 w
  back_start S e w hw a h = ran w (at_zero s) n hw hz (begins (agree_meets hz hp close (ok.invariants 0) n.arrived)) close
    where
      c : Began m ok K S.rows e g.K_names w
      c = start_back m ok K S.rows e g.K_names w hw h

      n : Entered (m.invariant 0) (starting m K S.rows e).zeroed w
      n = c.entered

      p : List ℤ
      p = waited n.k (neg_ℤ n.x) w

      hp : Point 16 (waited n.k (neg_ℤ n.x) w)
      hp = waited-point n.k (neg_ℤ n.x) w hw n.k_pos

      low : Agree 8 (at_zero s) p
      low = agree_trans hw a (waited-low n.k (neg_ℤ n.x) w)

      by : (i : ℕ) → i ≤ 8 + m.clocks → Dec (i ≤ 8) → at (at_zero s) 0 *ℤ at p i ≡ at p 0 *ℤ at (at_zero s) i
      by i b (yes l) = low.same i l
      by i b (no l) =
          let j = in_from 9 m.clocks i (omega arith) (omega arith) in
          rw (all_in c.zeros j, all_in (zero_clocks ok hs) j) (*ℤ-zero (at (at_zero s) 0) ∙ sym (*ℤ-zero (at p 0)))

      close : Agree (8 + m.clocks) (at_zero s) p
      close = record { same = λ i b. by i b (dec_le i 8) }

  back_step : {tr : List Event} {S : State} (t : Edge) → t.source ≡ S.location → (out : List Row) → (e : successor m S.rows t ≡ Ok out) → (ns : All (Names (8 + m.clocks)) S.rows) →
      (it : In t m.edges) (w : List ℤ) → Point 16 w → (c : Came m ok S.rows t it out e ns w) → Ran tr S.location c.from_point → Ran (tr ++ (event t ∷ [])) t.target w
  back_step {tr} {S} t src out e ns it w hw c x = ran w q n hw hq run close
    where
      n : Entered (m.invariant t.target) (stages m S.rows t out e).zeroed w
      n = c.entered

      p : List ℤ
      p = waited n.k (neg_ℤ n.x) w

      hp : Point 16 (waited n.k (neg_ℤ n.x) w)
      hp = waited-point n.k (neg_ℤ n.x) w hw n.k_pos

      u : List ℤ
      u = waited x.k x.d x.point

      hu : Point 16 (waited x.k x.d x.point)
      hu = waited-point x.k x.d x.point x.is_point x.k_pos

      hi : All (λ c. 8 < c) t.resets
      hi = clocks-high (all_in ok.resets it)

      q : List ℤ
      q = reset t.resets (waited x.k x.d x.point)

      hq : Point 16 (reset t.resets (waited x.k x.d x.point))
      hq = reset-point t.resets u hi hu

      close : Agree (8 + m.clocks) (reset t.resets (waited x.k x.d x.point)) (waited n.k (neg_ℤ n.x) w)
      close = reset_agree t.resets u c.from_point p hi c.is_point x.close c.same c.zeros

      run : Run m s (tr ++ (event t ∷ [])) t.target (reset t.resets (waited x.k x.d x.point))
      run = moves x.run t it src x.k x.d x.k_pos x.d_ok
          (agree_meets hu c.is_point x.close (ok.invariants S.location) x.stays)
          (agree_meets hu c.is_point x.close (all_in ok.guards it) c.guard)
          (agree_meets hq hp close (ok.invariants t.target) n.arrived)

  back : {tr : List Event} {S : State} → Path m K states tr S → (w : List ℤ) → Point 16 w → Agree 8 (at_zero s) w → Meets w S.rows → Ran tr S.location w
  back (begin S l e i) w hw a h = subst (λ (x : ℕ). Ran [] x w) (sym l) (back_start S e w hw a h)
  back (onward {tr = tr} {S = S} p t it src S' l e i) w hw a h =
      let ns = (g.standing S (path_in p)).named in
      let c = successor_back m ok S.rows t it S'.rows e ns w hw h in
      let n = c.entered in
      let hp = waited-point n.k (neg_ℤ n.x) w hw n.k_pos in
      let low : Agree 8 (at_zero s) c.from_point = agree_trans hp (agree_trans hw a (waited-low n.k (neg_ℤ n.x) w)) (agree_buts (clocks-high (all_in ok.resets it)) c.same) in
      subst (λ (x : ℕ). Ran (tr ++ (event t ∷ [])) x w) (sym l)
      (back_step t src S'.rows e ns it w hw c (back p c.from_point c.is_point low c.before))

  -- ---- traces are the traces of paths
  pub trace_path : (tr : List Event) → Trace m s tr → SomePath m K states tr
  trace_path tr x = let r = forward x.run in record { state = r.state; path = r.path }

  pub path_trace : (tr : List Event) → SomePath m K states tr → Trace m s tr
  path_trace tr x =
      let v = at-setting x.state (path_in x.path) in
      let r = back x.path v.point v.is_point (values_agree v) v.holds in
      record { location = x.state.location; point = r.point; run = r.run }
