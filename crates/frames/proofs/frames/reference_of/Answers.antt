use Rattle.std.proofs.Common.{rules, tests, ◌≡◌, ◌<◌, List, ℤ, pos, sym, ◌∙◌, arith, w32, drop}
use lib.Seq.{ext_get_or}
use Rattle.frames.proofs.Made.{made-at}
use Rattle.integers.proofs.Bounds.{back}
use Rattle.rows.specs.Rows.{at}
use Rattle.models.specs.declared.Reference.{Reference}
use Rattle.models.specs.Automaton.{padded}
use Rattle.models.proofs.Setting.{length-padded, at-padded}
use Rattle.frames.specs.Reading.{reference_of}
use Rattle.frames.proofs.frames.reference_of.Goals as goal

table : (d e : ℤ) (ns ms : List ℤ) → d ≡ e → ns ≡ ms → ◌≡◌ {A = Reference} (record { denominator = d; numerators = ns }) (record { denominator = e; numerators = ms })
table d e ns ms p q = rw (p, q)

pub returns : goal.returns
returns c =
    let b = c.args.b.now in
    let l = drop 1 (reference_of c.args.h b) in
    table _ _ _ _ (back w32 c.word.result c.word.type_inv ∙ c.word.ensures)
    (ext_get_or (pos 0) c.from_fn.result (padded 8 (pos 0) l) (c.from_fn.ensures.items.long ∙ sym (length-padded 8 l)) (λ i h.
    let n : i < 8 = omega (arith, c.from_fn.ensures.items.long) in
    made-at _ _ (λ i. at l i) (λ i y q k. search (rules, tests)) c.from_fn.result 8 c.from_fn.ensures.items.each i (pos 0) n ∙ sym (at-padded 8 l i n)))
