-- `sets::join_row` meets its contract: a row with an entry 1 or −1 is divided down already.
use mathlib.Core.Path.{◌≡◌, sym, ap, ◌∙◌}
use mathlib.Core.Bool.{true, false}
use mathlib.Core.List.{[]}
use Rattle.rows.specs.declared.Settled.{Settled}
use Rattle.rows.specs.Rows.{all_small, divided_down, has_one, row_at}
use Rattle.rows.proofs.Adding.{has_one-limited, limited-kept, limited_large}
use Rattle.rows.proofs.Dividing.{settled_wide}
use Rattle.rows.proofs.Stores.{row_back}
use Rattle.sets.proofs.Stores.{wide-row_at}
use Rattle.sets.proofs.Steps.{put_large}
use Rattle.sets.proofs.join_row.Goals as goal

pub returns-then-within_limit : goal.returns-then-within_limit
returns-then-within_limit c =
    let r = row_at c.args.from.now c.args.at in
    let one : has_one r ≡ true = rw c.read-r.ensures at (sym c.has_one.ensures ∙ c.if-has_one.true) in
    let s : all_small r.entries ≡ true = rw c.read-r.ensures at (sym c.within_limit.ensures ∙ c.if-within_limit.true) in
    rw (has_one-limited r one ∙ limited-kept r s) c.put_row.ensures

pub returns-then-has_one : goal.returns-then-has_one
returns-then-has_one c =
    let r = row_at c.args.from.now c.args.at in
    let one : has_one r ≡ true = rw c.read-r.ensures at (sym c.has_one.ensures ∙ c.if-has_one.true) in
    let s : all_small r.entries ≡ false = rw c.read-r.ensures at (sym c.within_limit.ensures ∙ c.if-within_limit.false) in
    put_large c.args.to.now c.args.c (divided_down r).row (divided_down r).fate (ap (λ (x : Settled). x.fate) (has_one-limited r one ∙ limited_large r s))

pub returns : goal.returns
returns c =
    let r = row_at c.args.from.now c.args.at in
    let back : row_at c.divided_into-fate.new.to 0 ≡ (divided_down r).row =
    rw (c.divided_into-fate.ensures.to_after, c.read-r.ensures) (row_back (divided_down r).row [] (settled_wide r (wide-row_at c.args.from.now c.args.at c.requires.0))) in
    rw (back, c.divided_into-fate.ensures.value, c.read-r.ensures) at c.put_settled.ensures
