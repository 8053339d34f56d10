-- The start state is kept outright; the tests (a) to (c) on a successor would pass it anyway. Assumes nothing.
use mathlib.Core.Path.{◌≡◌, ◌∙◌, ap}
use mathlib.Core.Bool.{Bool, false, cond, ◌||◌}
use mathlib.Core.Logic.{⊎_elim}
use mathlib.Core.List.{List, []}
use Prim.Native.Nat.{ℕ}
use lib.IntN.{ℤ, pos}
use Rattle.integers.specs.Lists.{All}
use Rattle.integers.proofs.Tests.{false_of, or_true}
use Rattle.integers.proofs.Lists.{all_map}
use Rattle.integers.proofs.Whole.{zed}
use Rattle.rows.specs.declared.Row.{Row}
use Rattle.sets.specs.Outcomes.{Ok}
use Rattle.sets.specs.Sets.{any_false}
use Rattle.sets.proofs.Tests.{any_false-never}
use Rattle.removal.specs.Exact.{Point, Meets}
use Rattle.models.specs.Automaton.{Automaton}
use Rattle.models.proofs.Shape.{Names, Shaped}
use Rattle.method.specs.Method.{Limits, on, start, shadow, broken, known, keep_state, fresh, judged_whole, judged_broken, judged}
use Rattle.method.proofs.Tests.{broken-none}
use Rattle.guarantee.proofs.Common.{reference-is, at_zero, waited}
use Rattle.guarantee.proofs.Points.{zero-point, dot-at_zero, waited-point}
use Rattle.guarantee.proofs.Moves.{shadow-of}
use Rattle.guarantee.proofs.Explore.{reference-start, reference-shadow}

-- of every K that an attempt can have: it names parameters only and holds at the reference
pub start_likewise : (m : Automaton) (ok : Shaped m) (l : Limits) (K rows sh : List Row) (n f : ℕ) → All (Names 8) K → Meets (at_zero m.reference) K → start m K ≡ Ok rows → shadow m rows ≡ Ok sh →
    judged m l (fresh K n f) (record { location = 0; rows = rows }) sh ≡ keep_state m l (fresh K n f) (record { location = 0; rows = rows }) sh
unfolding judged judged_broken judged_whole known
start_likewise m ok l K rows sh n f nk rk e₁ e₂ =
    ap (λ (b : Bool). cond b (on (fresh K n f)) (judged_broken m l (fresh K n f) (record { location = 0; rows = rows }) sh (broken m.reference sh))) no_false
    ∙ ap (λ (bs : List Row). judged_broken m l (fresh K n f) (record { location = 0; rows = rows }) sh bs) none-broken
  where
    q : List ℤ
    q = waited (pos 1) (pos 0) (at_zero m.reference)

    hq : Point 16 (waited (pos 1) (pos 0) (at_zero m.reference))
    hq = waited-point (pos 1) (pos 0) (at_zero m.reference) (zero-point ok (reference-is ok)) (omega zed)

    here : Meets (waited (pos 1) (pos 0) (at_zero m.reference)) rows
    here = reference-start m ok K rows e₁ nk rk

    no_false : (any_false rows || any_false sh) ≡ false
    no_false = false_of (any_false rows || any_false sh) (λ t. ⊎_elim
        (λ x. any_false-never q hq.positive rows x here)
        (λ x. any_false-never q hq.positive sh x (shadow-of m ok rows sh e₂ q hq here))
        (or_true (any_false rows) (any_false sh) t))

    none-broken : broken m.reference sh ≡ []
    none-broken = broken-none m.reference sh (all_map (λ r h. rw (dot-at_zero ok (reference-is ok) r.entries) at h) (reference-shadow m ok K rows e₁ nk rk sh e₂))
