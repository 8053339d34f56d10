-- DEMAND 3, proved: the reference lies in the region that is found, and every setting in it has the reference's traces; and what the region
-- is, and that no trace set is empty. Assumes nothing.
use mathlib.Core.Path.{◌≡◌, sym, subst}
use mathlib.Core.Logic.Iff
use mathlib.Core.List.{List, []}
use Prim.Native.Nat.{ℕ}
use Rattle.rows.specs.declared.Row.{Row}
use Rattle.sets.specs.Outcomes.{Ok}
use Rattle.models.specs.declared.Model.{Model}
use Rattle.models.specs.Automaton.{Automaton, automaton}
use Rattle.models.specs.Runs.{Trace, reference_setting}
use Rattle.models.proofs.Shape.{Shaped}
use Rattle.models.proofs.Accepted.{shaped}
use Rattle.method.specs.Method.{Ending}
use Rattle.method.specs.Entry.{Stores, Run, limits, run}
use Rattle.method.proofs.Entry.{ran, ran_hex}
use Rattle.guarantee.specs.Promise.{Guarantee, Demand3, Demand3Hex, RegionFormed, SomeTrace}
use Rattle.guarantee.proofs.Common.{reference-is, begins}
use Rattle.guarantee.proofs.Points.{reference-invariant}
use Rattle.guarantee.proofs.Ending.{Ended, method-ended, same_traces}
use Rattle.guarantee.proofs.Bridge.{trace_same, inside_same}
use Rattle.guarantee.proofs.Denominators.{common, common_setting, common_same, reference-same}

-- ---- of an automaton whose exploration has ended
module _ (a : Automaton) (ok : Shaped a) where
  guaranteed : (region : List Row) → Ended a region → Guarantee a region
  guaranteed region e = record {
    reference_inside = (inside_same a ok a.reference (reference_setting a) (reference-is ok) (reference-same a ok) region e.names).1 e.reference_inside;
    same_traces = λ ps h inside tr.
        let hs = common_setting a ps h in
        let here = common_same a ok ps in
        Iff.trans (trace_same a ok (common ps) ps hs here tr)
        (Iff.trans (same_traces a ok region e (common ps) hs ((inside_same a ok (common ps) ps hs here region e.names).0 inside) tr)
        (Iff.symm (trace_same a ok a.reference (reference_setting a) (reference-is ok) (reference-same a ok) tr)));
  }

  -- the reference's run begins
  reference-begins : Trace a (reference_setting a) []
  reference-begins = (trace_same a ok a.reference (reference_setting a) (reference-is ok) (reference-same a ok) []).1
      (record { location = 0; point = _; run = begins (reference-invariant ok) })

-- ---- of a run that found a region
module _ (budget : ℕ) (m : Model) (s : Stores) (o : (run budget m s).ending.outcome ≡ Ok tt) where
  pub run_shaped : Shaped (automaton m)
  run_shaped = shaped m (ran budget m s o).is_accepted

  run-ended : Ended (automaton m) (run budget m s).ending.region
  run-ended = subst (λ (e : Ending). e.outcome ≡ Ok tt → Ended (automaton m) e.region) (sym (ran budget m s o).is_ending) (method-ended (automaton m) run_shaped budget (limits s)) o

pub demand_3 : Demand3
demand_3 budget m s o = guaranteed (automaton m) (run_shaped budget m s o) (run budget m s).ending.region (run-ended budget m s o)

pub demand_3_hex : Demand3Hex
demand_3_hex budget input s o =
    let x = ran_hex budget input s o in
    record {
      model = x.model;
      is_read = x.is_read;
      guarantee = subst (λ (r : Run). r.ending.outcome ≡ Ok tt → Guarantee (automaton x.model) r.ending.region) (sym x.same) (demand_3 budget x.model s) o;
    }

pub region_formed : RegionFormed
region_formed budget m s o =
    let e = run-ended budget m s o in
    record { in_order = e.formed.in_order; few = e.formed.few; small = e.formed.small; parameters_only = e.names }

pub some_trace : SomeTrace
some_trace budget m s o ps h inside = ((demand_3 budget m s o).same_traces ps h inside []).1 (reference-begins (automaton m) (run_shaped budget m s o))
