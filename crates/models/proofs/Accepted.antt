-- An accepted model passed every test of acceptance, and its automaton is as the theorem on runs needs it. Assumes nothing.
use mathlib.Core.Path.{◌≡◌, refl, ap, ◌∙◌}
use mathlib.Core.Bool.{Bool, true, false, not, ◌&&◌, ◌||◌}
use mathlib.Core.List.{List, [], ◌∷◌, map}
use mathlib.Core.Logic.{⊎_elim}
use Prim.Native.Nat.{ℕ, zero, suc, ◌+◌, ◌<◌, ◌≤◌, zero-le}
use native.Mathlib.Omega.{arith}
use borrow.Author.Tests.{leb-true, eqb-true}
use lib.Dec.{leb, eqb}
use lib.ListN.{length-map}
use lib.IntN.{ℤ, pos, negsuc, nat_abs}
use lib.Signed.{◌≤ℤ◌, ◌<ℤ◌, le_z, le_z_yes}
use Rattle.integers.specs.Limits.{given_limit}
use Rattle.integers.specs.Lists.{All, nil, cons, every, filter, from}
use Rattle.integers.specs.Signs.{is_zero}
use Rattle.integers.proofs.Lists.{all_map, all_filter, all_mapped, every-all}
use Rattle.integers.proofs.Tests.{T_of, true_of, not-both, and_left, and_right, or_true, zero_of}
use Rattle.integers.proofs.Whole.{zed}
use Rattle.rows.specs.Rows.{at, holds_at, set_rows, Within, Small}
use Rattle.sets.specs.declared.Refusal.{Refusal}
use Rattle.sets.specs.declared.Refusal.TheVariants.{Misplaced, HeaderRange, ReferenceRange, Undeclared, WrongTerms, InitialBroken, InvariantBroken}
use Rattle.sets.specs.Outcomes.{Outcome, Ok}
use Rattle.models.specs.declared.Header.{Header}
use Rattle.models.specs.declared.Model.{Model}
use Rattle.models.specs.declared.ModelRow.{ModelRow}
use Rattle.models.specs.declared.Transition.{Transition}
use Rattle.models.specs.Automaton.{Edge, given_rows, given_transitions, given_reference, row_of, rows_of, reset_entries, edges_from, automaton}
use Rattle.models.specs.Acceptance.{unless, between, between_whole, header_fits, reference_fits, transition_declared, entry_declared, entries_declared, owner_declared, row_declared, terms_fit, rows_accepted, reference_meets, reference_accepted, accepted}
use Rattle.models.proofs.Setting.{length_from, resets-within}
use Rattle.models.proofs.Shape.{Names, Shaped}

-- ---- the tests that an accepted model passed
past : (ok : Bool) (r : Refusal) (after : Outcome) → unless ok r after ≡ Ok tt → (ok ≡ true) × (after ≡ Ok tt)
past true r after e = (refl, e)
past false r after e = cc

-- a row that is not refused by 5 or 6
abbrev pub RowPassed : Header → ModelRow → Type 0
RowPassed h r = (row_declared h r ≡ true) × (terms_fit r.entries ≡ true)

pub past-rows : (h : Header) (rs : List ModelRow) (after : Outcome) → rows_accepted h rs after ≡ Ok tt → All (RowPassed h) rs × (after ≡ Ok tt)
unfolding rows_accepted
past-rows h [] after e = (nil, e)
past-rows h (r ∷ rs) after e =
    let rest = rows_accepted h rs after in
    let a = past (row_declared h r) Undeclared (unless (terms_fit r.entries) WrongTerms rest) e in
    let b = past (terms_fit r.entries) WrongTerms rest a.1 in
    let c = past-rows h rs after b.1 in
    (cons (a.0, b.0) c.0, c.1)

-- none of the refusals 2 to 8 applies
pub record Passed (m : Model) : Type 0 where
  pub header : header_fits m.header ≡ true
  pub reference : reference_fits (given_reference m) ≡ true
  pub transitions : All (λ t. transition_declared m.header t ≡ true) (given_transitions m)
  pub rows : All (RowPassed m.header) (given_rows m)
  pub count : m.count ≤ set_rows
  pub initial : All (λ r. holds_at (given_reference m) r ≡ true) (rows_of m 0 0)
  pub invariant : All (λ r. holds_at (given_reference m) r ≡ true) (rows_of m 1 0)

pub passed : (m : Model) → accepted m ≡ Ok tt → Passed m
unfolding accepted reference_accepted reference_meets
passed m e =
    let last = unless (reference_meets m (rows_of m 1 0)) InvariantBroken (Ok tt) in
    let few = unless (leb m.count set_rows) Misplaced (reference_accepted m) in
    let rows = rows_accepted m.header (given_rows m) few in
    let moves = unless (every (transition_declared m.header) (given_transitions m)) Undeclared rows in
    let a = past (header_fits m.header) HeaderRange (unless (reference_fits (given_reference m)) ReferenceRange moves) e in
    let b = past (reference_fits (given_reference m)) ReferenceRange moves a.1 in
    let c = past (every (transition_declared m.header) (given_transitions m)) Undeclared rows b.1 in
    let d = past-rows m.header (given_rows m) few c.1 in
    let f = past (leb m.count set_rows) Misplaced (reference_accepted m) d.1 in
    let g = past (reference_meets m (rows_of m 0 0)) InitialBroken last f.1 in
    let h = past (reference_meets m (rows_of m 1 0)) InvariantBroken (Ok tt) g.1 in
    record {
      header = a.0;
      reference = b.0;
      transitions = every-all (transition_declared m.header) (given_transitions m) c.0;
      rows = d.0;
      count = leb-true m.count set_rows f.0;
      initial = every-all (holds_at (given_reference m)) (rows_of m 0 0) g.0;
      invariant = every-all (holds_at (given_reference m)) (rows_of m 1 0) h.0;
    }

-- ---- the header
pub clocks-within : (h : Header) → header_fits h ≡ true → h.clocks ≤ 6
unfolding header_fits
clocks-within h e =
    let a = and_left (between 1 h.clocks 6) _ e in
    leb-true h.clocks 6 (and_right (leb 1 h.clocks) (leb h.clocks 6) a)

pub parameters-within : (h : Header) → header_fits h ≡ true → h.parameters ≤ 8
unfolding header_fits
parameters-within h e =
    let a = and_left (between 1 h.parameters 8) _ (and_right (between 1 h.clocks 6) _ e) in
    leb-true h.parameters 8 (and_right (leb 1 h.parameters) (leb h.parameters 8) a)

pub locations_within : (h : Header) → header_fits h ≡ true → (1 ≤ h.locations) × (h.locations ≤ 32)
unfolding header_fits
locations_within h e =
    let a = and_left (between 1 h.locations 32) _ (and_right (between 1 h.parameters 8) _ (and_right (between 1 h.clocks 6) _ e)) in
    (leb-true 1 h.locations (and_left (leb 1 h.locations) (leb h.locations 32) a), leb-true h.locations 32 (and_right (leb 1 h.locations) (leb h.locations 32) a))

pub transitions-within : (h : Header) → header_fits h ≡ true → h.transitions ≤ 64
unfolding header_fits
transitions-within h e =
    let a = and_right (between 1 h.locations 32) _ (and_right (between 1 h.parameters 8) _ (and_right (between 1 h.clocks 6) _ e)) in
    leb-true h.transitions 64 (and_right (leb 0 h.transitions) (leb h.transitions 64) a)

-- ---- the numbers of an accepted model are given ones
within_of : (B : ℕ) (l : List ℤ) → every (λ z. leb (nat_abs z) B) l ≡ true → Within B l
within_of B [] e i = zero-le
within_of B (z ∷ l) e zero = leb-true (nat_abs z) B (and_left (leb (nat_abs z) B) _ e)
within_of B (z ∷ l) e (suc i) = within_of B l (and_right (leb (nat_abs z) B) _ e) i

pub terms-small : (l : List ℤ) → terms_fit l ≡ true → Small l
unfolding terms_fit
terms-small l e i = omega (arith, within_of given_limit l (and_right (not (every is_zero l)) _ e) i)

whole-within : (low high : ℕ) (z : ℤ) → between_whole low z high ≡ true → leb (nat_abs z) high ≡ true
whole-within low high (pos n) e = and_right (leb low n) (leb n high) e
whole-within low high (negsuc n) e = not-both e

all-within : (low high : ℕ) (l : List ℤ) → every (λ z. between_whole low z high) l ≡ true → Within high l
all-within low high [] e i = zero-le
all-within low high (z ∷ l) e zero = leb-true (nat_abs z) high (whole-within low high z (and_left (between_whole low z high) _ e))
all-within low high (z ∷ l) e (suc i) = all-within low high l (and_right (between_whole low z high) _ e) i

pub reference-within : (d : ℤ) (ns : List ℤ) → reference_fits (d ∷ ns) ≡ true → Within given_limit (d ∷ ns)
unfolding reference_fits
reference-within d ns e zero = leb-true (nat_abs d) given_limit (whole-within 1 given_limit d (and_left (between_whole 1 d given_limit) _ e))
reference-within d ns e (suc i) = all-within 0 given_limit ns (and_right (between_whole 1 d given_limit) _ e) i

-- ---- rows that passed 5 and 6 are small
pub rows_passed : (h : Header) (rs : List ModelRow) → rows_accepted h rs (Ok tt) ≡ Ok tt → All (λ r. Small r.entries) rs
rows_passed h rs e = all_map (λ r p. terms-small r.entries p.1) (past-rows h rs (Ok tt) e).0

-- ---- the reference
from_low : (low : ℕ) (z : ℤ) (high : ℕ) → between_whole low z high ≡ true → pos low ≤ℤ z
from_low low z high e = le_z_yes (T_of (and_left (le_z (pos low) z) (le_z z (pos high)) e))

denominator_above : (d : ℤ) (ns : List ℤ) → reference_fits (d ∷ ns) ≡ true → pos 0 <ℤ d
unfolding reference_fits
denominator_above d ns e =
    let h : pos 1 ≤ℤ d = from_low 1 d given_limit (and_left (between_whole 1 d given_limit) _ e) in
    omega zed

numerators-not-below : (d : ℤ) (ns : List ℤ) → reference_fits (d ∷ ns) ≡ true → All (λ z. pos 0 ≤ℤ z) ns
unfolding reference_fits
numerators-not-below d ns e =
    all_map (λ z h. from_low 0 z given_limit h) (every-all (λ n. between_whole 0 n given_limit) ns (and_right (between_whole 1 d given_limit) _ e))

-- ---- the rows: an initial row names parameters only, any other no clock beyond the last
initial-entry : (h : Header) → h.parameters ≤ 8 → (i : ℕ) → entry_declared h 0 i ≡ true → i ≤ 8
unfolding entry_declared
initial-entry h p i e = ⊎_elim named not-both (or_true (leb i h.parameters) false e)
  where
    named : leb i h.parameters ≡ true → i ≤ 8
    named a = omega (arith, leb-true i h.parameters a)

pub any_entry : (h : Header) → h.parameters ≤ 8 → (kind i : ℕ) → entry_declared h kind i ≡ true → i ≤ 8 + h.clocks
unfolding entry_declared
any_entry h p kind i e = ⊎_elim parameter clock (or_true (leb i h.parameters) (not (eqb kind 0) && between 9 i (8 + h.clocks)) e)
  where
    parameter : leb i h.parameters ≡ true → i ≤ 8 + h.clocks
    parameter a = omega (arith, leb-true i h.parameters a)

    clock : (not (eqb kind 0) && between 9 i (8 + h.clocks)) ≡ true → i ≤ 8 + h.clocks
    clock a = leb-true i (8 + h.clocks) (and_right (leb 9 i) (leb i (8 + h.clocks)) (and_right (not (eqb kind 0)) (between 9 i (8 + h.clocks)) a))

module _ (h : Header) (kind n : ℕ) (last : (i : ℕ) → entry_declared h kind i ≡ true → i ≤ n) where
  -- an entry past n is 0
  zero-past : (z : ℤ) (i : ℕ) → (is_zero z || entry_declared h kind i) ≡ true → n < i → z ≡ pos 0
  zero-past z i e k = ⊎_elim (zero_of z) (λ a. absurd (clash (last i a))) (or_true (is_zero z) (entry_declared h kind i) e)
    where
      clash : i ≤ n → ⊥
      clash a = omega arith

  -- the same of a list whose first entry is number i
  zeros-past : (l : List ℤ) (i : ℕ) → entries_declared h kind i l ≡ true → (j : ℕ) → n < i + j → at l j ≡ pos 0
  unfolding entries_declared
  zeros-past [] i e j k = refl
  zeros-past (z ∷ l) i e zero k = zero-past z i (and_left (is_zero z || entry_declared h kind i) (entries_declared h kind (suc i) l) e) (omega arith)
  zeros-past (z ∷ l) i e (suc j) k = zeros-past l (suc i) (and_right (is_zero z || entry_declared h kind i) (entries_declared h kind (suc i) l) e) j (omega arith)

  row-names : (r : ModelRow) → row_declared h r ≡ true → r.kind ≡ kind → Names n (row_of r)
  unfolding row_declared
  row-names r e k i past-n =
      let a = and_right (leb r.strict 1) _ (and_right (owner_declared h r.kind r.owner) _ e) in
      zeros-past r.entries 0 (rw⁻¹ k a) i (omega arith)

-- the rows of an owner
pub rows_name : (m : Model) (kind owner n : ℕ) → ((i : ℕ) → entry_declared m.header kind i ≡ true → i ≤ n) →
    All (RowPassed m.header) (given_rows m) → All (Names n) (rows_of m kind owner)
unfolding rows_of
rows_name m kind owner n last a =
    let mine : ModelRow → Bool = λ r. eqb r.kind kind && eqb r.owner owner in
    (all_mapped row_of (filter mine (given_rows m))).1
    ((all_filter mine (given_rows m)).1
    (all_map (λ r p t. row-names m.header kind n last r p.0 (eqb-true r.kind kind (and_left (eqb r.kind kind) (eqb r.owner owner) (true_of t)))) a))

-- ---- the transitions: number j as its edge
abbrev pub edge : Model → ℕ → Transition → Edge
edge m j t = record {
  source = t.source;
  action = t.action;
  target = t.target;
  resets = reset_entries m.header.clocks t.resets;
  guard = rows_of m 2 j;
}

all_edges : {P : Edge → Type 0} (m : Model) → ((j : ℕ) (t : Transition) → P (edge m j t)) → (j : ℕ) (ts : List Transition) → All P (edges_from m j ts)
unfolding edges_from
all_edges m f j [] = nil
all_edges m f j (t ∷ ts) = cons (f j t) (all_edges m f (suc j) ts)

-- ---- all of it
pub shaped : (m : Model) → accepted m ≡ Ok tt → Shaped (automaton m)
unfolding automaton
shaped m e =
    let p = passed m e in
    let few = parameters-within m.header p.header in
    let ns = map (λ i. at m.reference.numerators i) (from 0 m.header.parameters) in
    let d = denominator_above m.reference.denominator ns p.reference in
    let d' : pos 0 ≤ℤ m.reference.denominator = omega zed in
    record {
      few_clocks = clocks-within m.header p.header;
      few_parameters = few;
      size = ap suc (length-map (from 0 m.header.parameters) (λ i. at m.reference.numerators i) ∙ length_from 0 m.header.parameters);
      positive = d;
      not_negative = cons d' (numerators-not-below m.reference.denominator ns p.reference);
      initial = rows_name m 0 0 8 (initial-entry m.header few) p.rows;
      invariants = λ l. rows_name m 1 l (8 + m.header.clocks) (any_entry m.header few 1) p.rows;
      guards = all_edges m (λ j t. rows_name m 2 j (8 + m.header.clocks) (any_entry m.header few 2) p.rows) 0 (given_transitions m);
      resets = all_edges m (λ j t. resets-within m.header.clocks t.resets) 0 (given_transitions m);
      meets_initial = p.initial;
      meets_invariant = p.invariant;
    }
