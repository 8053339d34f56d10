-- The promise at M9, and that it says something: inside the region setting (4, 4, 6) has the traces of the reference (4, 2, 6); outside,
-- setting (6, 2, 6) shows a trace that the reference never shows. Assumes nothing.
use mathlib.Core.Path.{◌≡◌, refl, sym, ◌∙◌, ap, subst}
use mathlib.Core.Logic.{◌↔◌}
use mathlib.Core.List.{List, [], ◌∷◌, ◌++◌}
use Prim.Native.Nat.{ℕ}
use native.Mathlib.Omega.{arith}
use lib.IntN.{ℤ, pos, negsuc, ◌+ℤ◌, ◌*ℤ◌}
use lib.Signed.{◌≤ℤ◌, ◌<ℤ◌}
use Rattle.integers.specs.Lists.{nil, cons, In, here, there, filter}
use Rattle.integers.proofs.Lists.{all_head}
use Rattle.integers.proofs.Order.{read, le_as, lt_as}
use Rattle.rows.specs.declared.Row.{Row}
use Rattle.rows.specs.Rows.{with_entry, dot}
use Rattle.sets.specs.Outcomes.{Ok}
use Rattle.removal.specs.Exact.{Meets as MeetsC}
use Rattle.models.specs.declared.Model.{Model}
use Rattle.models.specs.Automaton.{Automaton, Edge, automaton, rows_of, reset_entries, edges_from}
use Rattle.models.specs.Runs.{Fraction, whole, total, Holds, filled, at_zero, later, reset, Event, event, begins, moves, Trace, reference_setting}
use Rattle.models.proofs.Shape.{Shaped}
use Rattle.method.specs.Method.{sum, Ending}
use Rattle.method.specs.Entry.{run}
use Rattle.guarantee.specs.Marked.{none, add, sub, loose, strictly, toy, toy_region, lent}
use Rattle.guarantee.specs.Promise.{Inside}
use Rattle.guarantee.proofs.Common.{reference-is, padded, at_zero as zeroC, waited, Run as RunC, begins as beginsC, moves as movesC}
use Rattle.guarantee.proofs.Points.{dot-waited}
use Rattle.guarantee.proofs.Bridge.{trace_same}
use Rattle.guarantee.proofs.Denominators.{reference-same}
use Rattle.guarantee.proofs.Promise.{run_shaped, demand_3}
use Rattle.guarantee.proofs.Marked.{marked}

-- ---- M9
abbrev m9 : Model
m9 = toy 1 (pos 4 ∷ pos 2 ∷ pos 6 ∷ []) 2

abbrev pub a9 : Automaton
a9 = automaton m9

is_found : (run 100000 m9 lent).ending.outcome ≡ Ok tt
is_found = ap (λ (e : Ending). e.outcome) marked.m9

shaped9 : Shaped a9
shaped9 = run_shaped 100000 m9 lent is_found

-- three whole numbers as a setting
abbrev three : ℕ → ℕ → ℕ → List Fraction
three p q r = whole (pos p) ∷ whole (pos q) ∷ whole (pos r) ∷ []

-- ---- inside
inside_446 : Inside a9 toy_region (three 4 4 6)
unfolding total at_zero filled with_entry automaton
inside_446 =
    let p1 : Holds (at_zero a9 (three 4 4 6)) (loose (sub 1 1 none)) = record { le = tt } in
    let p2_p1 : Holds (at_zero a9 (three 4 4 6)) (loose (sub 1 1 (add 1 2 none))) = record { le = tt } in
    let p2 : Holds (at_zero a9 (three 4 4 6)) (loose (sub 1 2 none)) = record { le = tt } in
    let p3 : Holds (at_zero a9 (three 4 4 6)) (loose (sub 1 3 none)) = record { le = tt } in
    let p1_p3 : Holds (at_zero a9 (three 4 4 6)) (strictly (add 1 1 (sub 1 3 none))) = record { lt = tt } in
    cons p1 (cons p2_p1 (cons p2 (cons p3 (cons p1_p3 nil))))

pub same_446 : (tr : List Event) → Trace a9 (three 4 4 6) tr ↔ Trace a9 (reference_setting a9) tr
unfolding automaton
same_446 = (demand_3 100000 m9 lent is_found).same_traces (three 4 4 6)
    (record { size = refl; not_negative = cons (record { le = tt }) (cons (record { le = tt }) (cons (record { le = tt }) nil)) })
    (subst (λ (r : List Row). Inside a9 r (three 4 4 6)) (sym (ap (λ (e : Ending). e.region) marked.m9)) inside_446)

-- ---- outside: wait 6, then action 11 to location 2
abbrev that : Event
that = record { action = 11; location = 2 }

abbrev stay_row : Row
stay_row = loose (sub 1 1 (add 1 9 none))

abbrev guard_row : Row
guard_row = loose (add 1 3 (sub 1 9 none))

abbrev to_1 : Edge
to_1 = record { source = 0; action = 10; target = 1; resets = 9 ∷ []; guard = loose (add 1 2 (sub 1 10 none)) ∷ [] }

abbrev to_2 : Edge
to_2 = record { source = 0; action = 11; target = 2; resets = []; guard = guard_row ∷ [] }

pub shows_626 : Trace a9 (three 6 2 6) (that ∷ [])
unfolding total at_zero filled with_entry later reset automaton rows_of reset_entries edges_from filter
shows_626 =
    let v : Holds (at_zero a9 (three 6 2 6)) stay_row = record { le = tt } in
    let w : Holds (later (whole (pos 6)) (at_zero a9 (three 6 2 6))) stay_row = record { le = tt } in
    let g : Holds (later (whole (pos 6)) (at_zero a9 (three 6 2 6))) guard_row = record { le = tt } in
    record { location = 2; valuation = _; run = moves (begins (cons v nil)) (whole (pos 6)) (record { le = tt }) (cons w nil) to_2 (there (here refl)) refl (cons g nil) nil }

-- ---- the reference does not: a run of one step, over a common denominator
record Single (m : Automaton) (s : List ℤ) (e : Event) : Type 0 where
  by : Edge
  in_table : In by m.edges
  is_event : event by ≡ e
  k : ℤ
  d : ℤ
  k_pos : pos 0 <ℤ k
  stays : MeetsC (waited k d (zeroC s)) (m.invariant 0)
  guard : MeetsC (waited k d (zeroC s)) by.guard

abbrev Some : List Event → Type 0
Some [] = ⊥
Some (x ∷ l) = Unit {0}

abbrev head_or : Event → List Event → Event
head_or d [] = d
head_or d (x ∷ l) = x

abbrev tail_of : List Event → List Event
tail_of [] = []
tail_of (x ∷ l) = l

last_some : {G : Type 0} (tr : List Event) (x : Event) → tr ++ (x ∷ []) ≡ [] → G
last_some [] x e = absurd (subst Some e tt)
last_some (y ∷ tr) x e = absurd (subst Some e tt)

last_one : (tr : List Event) (x e : Event) → tr ++ (x ∷ []) ≡ e ∷ [] → (tr ≡ []) × (x ≡ e)
last_one [] x e h = (refl, ap (head_or e) h)
last_one (y ∷ tr) x e h = last_some tr x (ap tail_of h)

-- where an empty trace has come
data Fresh (m : Automaton) (s : List ℤ) : ℕ → List ℤ → Type 0 where
  is_fresh : Fresh m s 0 (zeroC s)

fresh-run : {m : Automaton} {s : List ℤ} {tr : List Event} {l : ℕ} {p : List ℤ} → RunC m s tr l p → tr ≡ [] → Fresh m s l p
fresh-run (beginsC a) h = is_fresh
fresh-run (movesC {tr = tr} r t it src k d hk hd inv gd arr) h = last_some tr (event t) h

single_step : {m : Automaton} {s : List ℤ} {l : ℕ} {p : List ℤ} {e : Event} → Fresh m s l p → (t : Edge) → In t m.edges → event t ≡ e →
    (k d : ℤ) → pos 0 <ℤ k → MeetsC (waited k d p) (m.invariant l) → MeetsC (waited k d p) t.guard → Single m s e
single_step is_fresh t it q k d hk inv gd = record { by = t; in_table = it; is_event = q; k = k; d = d; k_pos = hk; stays = inv; guard = gd }

single-run : {m : Automaton} {s : List ℤ} {tr : List Event} {l : ℕ} {p : List ℤ} → RunC m s tr l p → (e : Event) → tr ≡ e ∷ [] → Single m s e
single-run (beginsC a) e h = absurd (subst Some (sym h) tt)
single-run (movesC {tr = tr} r t it src k d hk hd inv gd arr) e h =
    let x = last_one tr (event t) e h in
    single_step (fresh-run r x.0) t it x.1 k d hk inv gd

too_late : (k d : ℤ) → pos 0 <ℤ k → (k *ℤ negsuc 3 +ℤ d *ℤ pos 1) ≤ℤ pos 0 → (k *ℤ pos 6 +ℤ d *ℤ negsuc 0) ≤ℤ pos 0 → ⊥
too_late k d h a b = let ρ : List ℤ = k ∷ d ∷ [] in omega (arith, lt_as ρ (search read) h, le_as ρ (search read) a, le_as ρ (search read) b)

stays_at : (k d : ℤ) → MeetsC (waited k d (zeroC a9.reference)) (a9.invariant 0) → (k *ℤ negsuc 3 +ℤ d *ℤ pos 1) ≤ℤ pos 0
unfolding with_entry zeroC padded dot sum automaton rows_of filter
stays_at k d a = rw (dot-waited k d stay_row.entries (zeroC a9.reference)) at (all_head a)

guard-at : (k d : ℤ) → MeetsC (waited k d (zeroC a9.reference)) to_2.guard → (k *ℤ pos 6 +ℤ d *ℤ negsuc 0) ≤ℤ pos 0
unfolding with_entry zeroC padded dot sum automaton
guard-at k d a = rw (dot-waited k d guard_row.entries (zeroC a9.reference)) at (all_head a)

not-single : Single a9 a9.reference that → ⊥
unfolding automaton rows_of reset_entries edges_from filter
not-single x = by x.in_table
  where
    other : (t : Edge) → event t ≡ that → t ≡ to_1 → ⊥
    other t e f = let a : ◌≡◌ {A = ℕ} 10 11 = sym (ap (λ (u : Edge). u.action) f) ∙ ap (λ (v : Event). v.action) e in omega arith

    by : In x.by (to_1 ∷ to_2 ∷ []) → ⊥
    by (here f) = other x.by x.is_event f
    by (there (here f)) = too_late x.k x.d x.k_pos (stays_at x.k x.d x.stays)
        (guard-at x.k x.d (subst (λ (t : Edge). MeetsC (waited x.k x.d (zeroC a9.reference)) t.guard) f x.guard))
    by (there (there i)) = elim i [ ]

pub never-shows : ¬ Trace a9 (reference_setting a9) (that ∷ [])
never-shows x =
    let c = (trace_same a9 shaped9 a9.reference (reference_setting a9) (reference-is shaped9) (reference-same a9 shaped9) (that ∷ [])).0 x in
    not-single (single-run c.run that refl)
