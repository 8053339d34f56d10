-- Demand 3 of what the code returns: read over the entries' own contracts (zimbralosa/specs/Entries).
use Rattle.std.specs.Prelude.{◌≡◌, List, ℕ, length, ℤ}
use Rattle.rows.specs.declared.Row.{Row}
use Rattle.sets.specs.Outcomes.{Ok}
use Rattle.sets.specs.Stores.{with_rows}
use Rattle.models.specs.declared.Model.{Model}
use Rattle.models.specs.Automaton.{Automaton, automaton}
use Rattle.frames.specs.Reading.{read}
use Rattle.method.specs.declared.Record.{Record}
use Rattle.method.specs.Entry.{run, run_hex}
use Rattle.attempts.specs.declared.Answer.{Answer}
use Rattle.zimbralosa.specs.Entries.{lent, Ran}
use Rattle.guarantee.specs.Promise.{Guarantee}

-- the region stands at the front of the result store, with as many rows as the answer says, and is what demand 3 asks for
pub record Returned (a : Automaton) (result q : List ℤ) (r : Answer) : Type 0 where
  pub region : List Row
  pub stands : q ≡ with_rows region result
  pub count : r.rows ≡ length region
  pub guarantee : Guarantee a region

-- whatever the entry for tables returns under its contract, with outcome 0
abbrev pub TablesReturned : Type 0
TablesReturned = (budget : ℕ) (m : Model) (first second rows result : List ℤ) (roll : List Record) (a b s q : List ℤ) (l : List Record) (r : Answer) →
    Ran (run budget m (lent first second rows result roll)) a b s q l r → r.outcome ≡ Ok tt → Returned (automaton m) result q r

-- the entry for hex bytes: of the model that was read
pub record HexReturned (input : List ℕ) (result q : List ℤ) (r : Answer) : Type 0 where
  pub model : Model
  pub is_read : read input ≡ Ok model
  pub returned : Returned (automaton model) result q r

abbrev pub HexesReturned : Type 0
HexesReturned = (budget : ℕ) (input : List ℕ) (first second rows result : List ℤ) (roll : List Record) (a b s q : List ℤ) (l : List Record) (r : Answer) →
    Ran (run_hex budget input (lent first second rows result roll)) a b s q l r → r.outcome ≡ Ok tt → HexReturned input result q r
