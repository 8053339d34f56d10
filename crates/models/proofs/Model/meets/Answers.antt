-- Each row may be tested, and a row of another owner passes.
use Rattle.std.proofs.Common.{rules, tests, not, ◌||◌, sym, subst, ◌∙◌}
use Rattle.std.proofs.lemmas.Iterator.{YieldsList-from_slice}
use Rattle.std.proofs.lemmas.Iterator.Search.{all_from_yields_List}
use Rattle.std.proofs.lemmas.Iterator.Adapters.{serves_from_places}
use Rattle.rows.specs.Rows.{Small, holds_at}
use Rattle.sets.proofs.Parts.{all-at}
use Rattle.models.specs.declared.ModelRow.{ModelRow}
use Rattle.models.specs.Automaton.{given_rows, kind_number, is_of, row_of, rows_of}
use Rattle.models.proofs.Tables.{every_owned}
use Rattle.models.proofs.Model.meets.Goals as goal

pub all-requires-clause-callable : goal.all-requires-clause-callable
all-requires-clause-callable c =
    serves_from_places (YieldsList-from_slice (given_rows c.args.self.now) cc) (λ x q e. search (rules, tests))
    (λ x k h e.
    let small : Small x.now.entries = subst (λ (r : ModelRow). Small r.entries) (sym e) (all-at (given_rows c.args.self.now) x.now c.requires.0 k h) in
    search rules)

pub returns : goal.returns
unfolding rows_of
returns c =
    let m = c.args.self.now in
    let test : ModelRow → _ = λ r. not (is_of (kind_number c.args.kind) 0 r) || holds_at c.args.setting (row_of r) in
    all_from_yields_List test _ _ _ c.all.ensures.ran (YieldsList-from_slice (given_rows m) cc) (λ x b q k. search (rules, tests))
    ∙ every_owned (holds_at c.args.setting) (kind_number c.args.kind) 0 (given_rows m)
