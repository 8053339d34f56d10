-- Which outcomes acceptance has: found, or refused by one of 2 to 8, earlier tests before later ones. Assumes nothing.
use mathlib.Core.Path.{◌≡◌, refl}
use mathlib.Core.Bool.{Bool, true, false, ◌||◌}
use mathlib.Core.List.{List, [], ◌∷◌}
use Prim.Native.Nat.{ℕ}
use mathlib.Core.Logic.{⊎_elim}
use native.Mathlib.Omega.{arith}
use borrow.Author.Tests.{leb-true, eqb-true, le-leb, ne_eqb}
use lib.Dec.{leb, eqb}
use Rattle.integers.specs.Lists.{every}
use Rattle.integers.proofs.Tests.{and_left, and_right, or_true}
use Rattle.rows.specs.Rows.{set_rows}
use Rattle.sets.specs.Outcomes.{outcome_number, Outcome, Ok, Err}
use Rattle.sets.specs.declared.Refusal.{Refusal}
use Rattle.sets.specs.declared.Refusal.TheVariants.{Misplaced, HeaderRange, ReferenceRange, Undeclared, WrongTerms, InitialBroken, InvariantBroken}
use Rattle.models.specs.declared.Header.{Header}
use Rattle.models.specs.declared.Model.{Model}
use Rattle.models.specs.declared.ModelRow.{ModelRow}
use Rattle.models.specs.Automaton.{given_rows, given_transitions, given_reference, rows_of}
use Rattle.models.specs.Acceptance.{unless, between, header_fits, reference_fits, transition_declared, row_declared, terms_fit, rows_accepted, reference_meets, reference_accepted, accepted}

-- 0, or 2 to 8
abbrev pub of_acceptance : Outcome → Bool
of_acceptance o = eqb (outcome_number o) 0 || between 2 (outcome_number o) 8

unless_among : (ok : Bool) (r : Refusal) (after : Outcome) → of_acceptance (Err r) ≡ true → of_acceptance after ≡ true → of_acceptance (unless ok r after) ≡ true
unless_among true r after e f = f
unless_among false r after e f = e

rows_among : (h : Header) (rs : List ModelRow) (after : Outcome) → of_acceptance after ≡ true → of_acceptance (rows_accepted h rs after) ≡ true
unfolding rows_accepted
rows_among h [] after e = e
rows_among h (r ∷ rs) after e =
    let rest = rows_accepted h rs after in
    unless_among (row_declared h r) Undeclared (unless (terms_fit r.entries) WrongTerms rest) refl
    (unless_among (terms_fit r.entries) WrongTerms rest refl (rows_among h rs after e))

reference_among : (m : Model) → of_acceptance (reference_accepted m) ≡ true
unfolding reference_accepted
reference_among m =
    unless_among (reference_meets m (rows_of m 0 0)) InitialBroken _ refl
    (unless_among (reference_meets m (rows_of m 1 0)) InvariantBroken (Ok tt) refl refl)

pub accepted_among : (m : Model) → of_acceptance (accepted m) ≡ true
unfolding accepted
accepted_among m =
    unless_among (header_fits m.header) HeaderRange _ refl
    (unless_among (reference_fits (given_reference m)) ReferenceRange _ refl
    (unless_among (every (transition_declared m.header) (given_transitions m)) Undeclared _ refl
    (rows_among m.header (given_rows m) _
    (unless_among (leb m.count set_rows) Misplaced _ refl (reference_among m)))))

-- so it is at most 8, and never 1
small-number : (n : ℕ) → (eqb n 0 || between 2 n 8) ≡ true → leb n 8 ≡ true
small-number n e = ⊎_elim none (and_right (leb 2 n) (leb n 8)) (or_true (eqb n 0) (between 2 n 8) e)
  where
    none : eqb n 0 ≡ true → leb n 8 ≡ true
    none a = le-leb n 8 (omega (arith, eqb-true n 0 a))

not-one : (n : ℕ) → (eqb n 0 || between 2 n 8) ≡ true → eqb n 1 ≡ false
not-one n e = ⊎_elim none some (or_true (eqb n 0) (between 2 n 8) e)
  where
    none : eqb n 0 ≡ true → eqb n 1 ≡ false
    none a = ne_eqb n 1 (λ (k : n ≡ 1). omega (arith, eqb-true n 0 a))

    some : between 2 n 8 ≡ true → eqb n 1 ≡ false
    some a = ne_eqb n 1 (λ (k : n ≡ 1). omega (arith, leb-true 2 n (and_left (leb 2 n) (leb n 8) a)))

pub at-most_8 : (m : Model) → leb (outcome_number (accepted m)) 8 ≡ true
at-most_8 m = small-number (outcome_number (accepted m)) (accepted_among m)

pub never_1 : (m : Model) → eqb (outcome_number (accepted m)) 1 ≡ false
never_1 m = not-one (outcome_number (accepted m)) (accepted_among m)

-- ---- the header is judged first, then the reference, then the transitions, whatever else is wrong
pub header-first : (m : Model) → header_fits m.header ≡ false → accepted m ≡ Err HeaderRange
unfolding accepted
header-first m e = rw e refl

pub reference-next : (m : Model) → header_fits m.header ≡ true → reference_fits (given_reference m) ≡ false → accepted m ≡ Err ReferenceRange
unfolding accepted
reference-next m h e = rw (h, e) refl

pub transitions-next : (m : Model) → header_fits m.header ≡ true → reference_fits (given_reference m) ≡ true →
    every (transition_declared m.header) (given_transitions m) ≡ false → accepted m ≡ Err Undeclared
unfolding accepted
transitions-next m h k e = rw (h, k, e) refl
