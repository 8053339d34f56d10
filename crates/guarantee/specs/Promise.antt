-- What is promised of a region (demand 3), over the automaton's own runs: nothing here speaks of symbolic states, K or the exploration,
-- but that the region is the one that a run of the method returned.
use Rattle.std.specs.Prelude.{◌≡◌, ◌↔◌, List, [], ℕ, ◌<◌, ◌≤◌, length, pos}
use Rattle.integers.specs.Lists.{All}
use Rattle.rows.specs.declared.Row.{Row}
use Rattle.rows.specs.Rows.{set_rows, at, Small}
use Rattle.sets.specs.Outcomes.{Ok}
use Rattle.sets.specs.Sets.{InOrder}
use Rattle.models.specs.declared.Model.{Model}
use Rattle.models.specs.Automaton.{Automaton, automaton}
use Rattle.models.specs.Runs.{Fraction, NotNegative, Meets, at_zero, Event, Trace, reference_setting}
use Rattle.frames.specs.Reading.{read}
use Rattle.method.specs.Entry.{Stores, run, run_hex}

-- a setting of an automaton: a rational that is not negative for each parameter
pub record Setting (a : Automaton) (ps : List Fraction) : Type 0 where
  pub size : length ps ≡ a.parameters
  pub not_negative : All NotNegative ps

-- the setting lies in the region
abbrev pub Inside : Automaton → List Row → List Fraction → Type 0
Inside a region ps = Meets (at_zero a ps) region

-- the reference lies in the region, and every setting in it has the same set of traces as the reference
pub record Guarantee (a : Automaton) (region : List Row) : Type 0 where
  pub reference_inside : Inside a region (reference_setting a)
  pub same_traces : (ps : List Fraction) → Setting a ps → Inside a region ps → (tr : List Event) → Trace a ps tr ↔ Trace a (reference_setting a) tr

-- DEMAND 3: whatever model is handed in, with whatever stores and budget, whenever the answer is outcome 0
abbrev pub Demand3 : Type 0
Demand3 = (budget : ℕ) (m : Model) (s : Stores) → (run budget m s).ending.outcome ≡ Ok tt →
    Guarantee (automaton m) (run budget m s).ending.region

-- the same of a model in hex bytes: it was read to tables, and these are what is promised of
pub record ReadGuarantee (input : List ℕ) (region : List Row) : Type 0 where
  pub model : Model
  pub is_read : read input ≡ Ok model
  pub guarantee : Guarantee (automaton model) region

abbrev pub Demand3Hex : Type 0
Demand3Hex = (budget : ℕ) (input : List ℕ) (s : Stores) → (run_hex budget input s).ending.outcome ≡ Ok tt →
    ReadGuarantee input (run_hex budget input s).ending.region

-- ---- two things that a careful reader asks
-- the form of the region: in set order with no row twice, at most 128 rows, entries within ±1,000,000,000, parameters only
pub record RegionForm (region : List Row) : Type 0 where
  pub in_order : InOrder region
  pub few : length region ≤ set_rows
  pub small : All (λ r. Small r.entries) region
  pub parameters_only : All (λ r. (i : ℕ) → 8 < i → at r.entries i ≡ pos 0) region

abbrev pub RegionFormed : Type 0
RegionFormed = (budget : ℕ) (m : Model) (s : Stores) → (run budget m s).ending.outcome ≡ Ok tt → RegionForm (run budget m s).ending.region

-- no trace set is empty: at every setting of the region a run begins, and shows the empty trace
abbrev pub SomeTrace : Type 0
SomeTrace = (budget : ℕ) (m : Model) (s : Stores) → (run budget m s).ending.outcome ≡ Ok tt →
    (ps : List Fraction) → Setting (automaton m) ps → Inside (automaton m) (run budget m s).ending.region ps → Trace (automaton m) ps []
