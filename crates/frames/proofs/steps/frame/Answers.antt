use Rattle.std.proofs.Common.{◌≡◌, ◌-◌, length, refl, arith}
use Rattle.std.proofs.Math.Seq.{length-take-le}
use Rattle.std.proofs.lemmas.Result.{err_from_is_err_and}
use Rattle.frames.specs.Reading.{term_count}
use Rattle.frames.proofs.Placing.{frame-none, kind-number-of, header-met, fits-shown, length-shown, told-unknown, told-refused, told-content}
use Rattle.frames.proofs.steps.frame.Goals as goal

pub returns-in_default : goal.returns-in_default
returns-in_default c s bs e size same =
    let none : length bs ≡ 0 = omega (arith, c.in_default.ensures.cases, length-take-le c.min.result c.args.buffer.now (omega arith)) in
    rw (frame-none s bs none) refl

pub returns-in_err-kind : goal.returns-in_err-kind
returns-in_err-kind c s bs e size same =
    let p = err_from_is_err_and c.from_residual.result c.from_residual.ensures.1 in
    let is = rw c.min.ensures at c.in-Some.ensures.cases.0 in
    rw (p.1, p.2, told-unknown c.args.count c.args.buffer.now c.requires.1 _ _ is c.args.p s bs e size same _ c.in_err-kind.ensures) refl

pub returns-in_err-placed : goal.returns-in_err-placed
returns-in_err-placed c s bs e size same =
    let p = err_from_is_err_and c.from_residual-in_err-placed.result c.from_residual-in_err-placed.ensures.1 in
    let is = rw c.min.ensures at c.in-Some.ensures.cases.0 in
    let f = rw (kind-number-of c.in-Some.kind.now c.in_ok-kind.kind c.in_ok-kind.ensures, c.term_count.ensures) at c.in_err-placed.ensures in
    rw (p.1, p.2, told-refused c.args.count c.args.buffer.now c.requires.1 _ _ is c.args.p s bs e size same _ f) refl

pub content-requires : goal.content-requires
content-requires c =
    let is = rw c.min.ensures at c.in-Some.ensures.cases.0 in
    let k = kind-number-of c.in-Some.kind.now c.in_ok-kind.kind c.in_ok-kind.ensures in
    let f = rw (k, c.term_count.ensures) at c.in_ok-placed.ensures in
    rw (c.declared.ensures, k) (c.requires.0, length-shown c.args.count c.args.buffer.now c.requires.1 _ _ is c.args.p c.requires.0 (omega (arith, c.term_count.ensures)) f)

pub returns : goal.returns
returns c s bs e size same =
    let is = rw c.min.ensures at c.in-Some.ensures.cases.0 in
    let k = kind-number-of c.in-Some.kind.now c.in_ok-kind.kind c.in_ok-kind.ensures in
    let f = rw (k, c.term_count.ensures) at c.in_ok-placed.ensures in
    let few = fits-shown c.args.count c.args.buffer.now c.requires.1 _ _ is c.args.p c.requires.0 (omega (arith, c.term_count.ensures)) f in
    rw (told-content c.args.count c.args.buffer.now c.requires.1 _ _ is c.args.p s bs e size same f few)
    (rw k at (c.content.ensures s (λ o. rw c.declared.ensures (header-met c.args.p c.in-Some.kind.now (c.args.count - 1) (term_count c.in-Some.b.now) f s e (rw k at o)))))
