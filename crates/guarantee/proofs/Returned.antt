-- DEMAND 3 of what the entries return, from their contracts alone. Assumes nothing.
use mathlib.Core.Path.{◌≡◌, refl, sym, ap, subst, ◌∙◌}
use mathlib.Core.Bool.{Bool, true, false, cond}
use Prim.Native.Nat.{ℕ}
use Rattle.sets.specs.Outcomes.{Outcome, Ok, Err}
use Rattle.sets.specs.declared.Refusal.TheVariants.{ShortStore}
use Rattle.sets.specs.Stores.{with_rows}
use Rattle.models.specs.declared.Model.{Model}
use Rattle.models.specs.Acceptance.{accepted}
use Rattle.method.specs.Entry.{Stores, Run, short, refused_at_entry, run_accepted, run}
use Rattle.method.proofs.Entry.{not_found, ran_hex}
use Rattle.attempts.specs.declared.Answer.{Answer}
use Rattle.zimbralosa.specs.Entries.{lent, Ran}
use Rattle.guarantee.specs.Returned.{TablesReturned, HexesReturned}
use Rattle.guarantee.proofs.Promise.{demand_3}

-- a run that found a region leaves it at the front of the result store
result-is : (budget : ℕ) (m : Model) (s : Stores) → (run budget m s).ending.outcome ≡ Ok tt → (run budget m s).stores.result ≡ with_rows (run budget m s).ending.region s.result
unfolding run
result-is budget m s e = go (short s) (accepted m) e
  where
    go : (b : Bool) (o : Outcome) → (cond b (refused_at_entry ShortStore s) (run_accepted budget m s o)).ending.outcome ≡ Ok tt →
        (cond b (refused_at_entry ShortStore s) (run_accepted budget m s o)).stores.result ≡ with_rows (cond b (refused_at_entry ShortStore s) (run_accepted budget m s o)).ending.region s.result
    go true o e = not_found e
    go false (Ok _) e = refl
    go false (Err r) e = not_found e

pub tables-returned : TablesReturned
tables-returned budget m first second rows result roll a b s q l r h o =
    let st = lent first second rows result roll in
    let f : (run budget m st).ending.outcome ≡ Ok tt = sym (ap (λ (z : Answer). z.outcome) h.answer) ∙ o in
    record {
      region = (run budget m st).ending.region;
      stands = h.result ∙ result-is budget m st f;
      count = ap (λ (z : Answer). z.rows) h.answer;
      guarantee = demand_3 budget m st f;
    }

pub hexes_returned : HexesReturned
hexes_returned budget input first second rows result roll a b s q l r h o =
    let st = lent first second rows result roll in
    let x = ran_hex budget input st (sym (ap (λ (z : Answer). z.outcome) h.answer) ∙ o) in
    record {
      model = x.model;
      is_read = x.is_read;
      returned = tables-returned budget x.model first second rows result roll a b s q l r (subst (λ (z : Run). Ran z a b s q l r) x.same h) o;
    }
