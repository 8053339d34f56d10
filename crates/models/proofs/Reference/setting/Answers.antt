-- The array has the reference's numbers, one for each of its places.
use Rattle.std.proofs.Common.{arith, rules, tests, pos, sym, ◌∙◌}
use Rattle.std.proofs.Math.Seq.{ext_get_or}
use Rattle.rows.specs.Rows.{at}
use Rattle.models.specs.Automaton.{reference_list, setting_of}
use Rattle.models.proofs.Setting.{length-padded, at-padded}
use Rattle.models.proofs.Tests.{from_fn-at}
use Rattle.models.proofs.Reference.setting.Goals as goal

pub returns : goal.returns
returns c =
    let l = reference_list c.args.self c.args.parameters in
    let m = c.from_fn.ensures.items in
    ext_get_or (pos 0) c.from_fn.result (setting_of c.args.self c.args.parameters) (m.long ∙ sym (length-padded 9 l))
    (λ i k. from_fn-at _ _ (at l) (λ j y q e. search (rules, tests)) c.from_fn.result 9 m i (pos 0) (omega (arith, m.long)) ∙ sym (at-padded 9 l i (omega (arith, m.long))))
