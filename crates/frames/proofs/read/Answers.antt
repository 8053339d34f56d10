use Rattle.std.proofs.Common.{◌≡◌, false, List, ℕ, ◌+◌, ◌-◌, ◌*◌, ◌<◌, ◌≤◌, length, take, drop, eqb, refl, sym, ap, ◌∙◌, arith, Err}
use Rattle.std.proofs.Math.Seq.{take_all}
use Rattle.std.proofs.Math.ListN.{length-drop}
use borrow.Author.Tests.{eqb-true, eqb-false}
use Rattle.std.proofs.lemmas.Result.{err_from_is_err_and}
use Rattle.models.specs.Automaton.{padded}
use Rattle.frames.proofs.Reaching.{begins, no_transition, no_row, ends-here, read_short, broken, next-within, refused-here, transition-fits, row-fits, reached-next}
use Rattle.frames.proofs.read.Goals as goal
use Rattle.frames.proofs.read.Goals.{in-Transition, in-Row, in_default}

-- something is left
some : (l : List ℕ) → false ≡ eqb (length l) 0 → 0 < length l
some l e = let n = eqb-false (length l) 0 (sym e) in omega arith

-- what is left behind so many characters
whole : (l : List ℕ) (n : ℕ) → n ≤ length l → take (length l - n) (drop n l) ≡ drop n l
whole l n h = take_all (length l - n) (drop n l) (omega (arith, length-drop n l))

pub loop-rest-init : goal.loop-rest-init
unfolding padded
loop-rest-init c =
    (refl, omega arith, begins c.args.input.now c.default-p.result c.default-transitions.result c.default-rows.result c.default-p.ensures c.default-transitions.ensures c.default-rows.ensures)

pub returns-in_err-count : goal.returns-in_err-count
returns-in_err-count c =
    let i = c.loop-rest.invariant in
    let p = err_from_is_err_and c.from_residual.result c.from_residual.ensures.1 in
    let e = c.in_err-count.ensures.value in
    p.1 ∙ ap Err p.2 ∙ broken _ _ _ _ _ i.2 (some _ c.loop-rest-test.ensures) i.1 _ _ _ e c.decode.ensures.1

pub returns-in_err-f : goal.returns-in_err-f
returns-in_err-f c =
    let i = c.loop-rest.invariant in
    let p = err_from_is_err_and c.from_residual-in_err-f.result c.from_residual-in_err-f.ensures.1 in
    p.1 ∙ ap Err p.2 ∙ refused-here _ _ _ _ _ i.2 (some _ c.loop-rest-test.ensures) i.1 _ _ _ c.in_ok-count.ensures.value c.decode.ensures.1 _ c.frame.ensures _ c.in_err-f.was

pub bounds-transitions-p : goal.bounds-transitions-p
bounds-transitions-p c =
    let i = c.loop-rest.invariant in
    transition-fits _ _ _ _ _ i.2 (some _ c.loop-rest-test.ensures) i.1 _ _ _ c.in_ok-count.ensures.value c.decode.ensures.1 _ c.frame.ensures _ c.in_ok-f.was c.in-Transition.t c.in-Transition.is

pub bounds-rows-p : goal.bounds-rows-p
bounds-rows-p c =
    let i = c.loop-rest.invariant in
    row-fits _ _ _ _ _ i.2 (some _ c.loop-rest-test.ensures) i.1 _ _ _ c.in_ok-count.ensures.value c.decode.ensures.1 _ c.frame.ensures _ c.in_ok-f.was c.in-Row.r c.in-Row.is

pub overflow_mul-rest : goal.overflow_mul-rest
overflow_mul-rest c =
    let i = c.loop-rest.invariant in
    let n = next-within _ _ _ _ _ i.2 (some _ c.loop-rest-test.ensures) i.1 _ _ _ c.in_ok-count.ensures.value c.decode.ensures.1 in
    omega (arith, i.2.within)

pub overflow_add-rest : goal.overflow_add-rest
overflow_add-rest c =
    let i = c.loop-rest.invariant in
    let n = next-within _ _ _ _ _ i.2 (some _ c.loop-rest-test.ensures) i.1 _ _ _ c.in_ok-count.ensures.value c.decode.ensures.1 in
    omega (arith, i.2.within)

pub slice_bounds-rest-count : goal.slice_bounds-rest-count
slice_bounds-rest-count c =
    let i = c.loop-rest.invariant in
    let n = next-within _ _ _ _ _ i.2 (some _ c.loop-rest-test.ensures) i.1 _ _ _ c.in_ok-count.ensures.value c.decode.ensures.1 in
    n

pub slice_bounds-rest-start : goal.slice_bounds-rest-start
slice_bounds-rest-start c =
    let i = c.loop-rest.invariant in
    let n = next-within _ _ _ _ _ i.2 (some _ c.loop-rest-test.ensures) i.1 _ _ _ c.in_ok-count.ensures.value c.decode.ensures.1 in
    n

pub loop-rest-preserved : goal.loop-rest-preserved
loop-rest-preserved c =
    let i = c.loop-rest.invariant in
    let n = next-within _ _ _ _ _ i.2 (some _ c.loop-rest-test.ensures) i.1 _ _ _ c.in_ok-count.ensures.value c.decode.ensures.1 in
    let r = reached-next _ _ _ _ _ i.2 (some _ c.loop-rest-test.ensures) i.1 _ _ _ c.in_ok-count.ensures.value c.decode.ensures.1 _ c.frame.ensures _ c.in_ok-f.was in (
      c.decode.ensures.0,
      i.1,
      rw (c.after-p.ensures, whole c.loop-rest.rest.now (c.in_ok-count.count * 2 + 1) n) (elim c.match-f.branch [
        | in-Transition w ↦ rw (w.f-is, w.transitions-is, w.rows-is) (rw w.in-Transition.is at r)
        | in-Row w ↦ rw (w.f-is, w.transitions-is, w.rows-is) (rw w.in-Row.is at r)
        | in_default w ↦
            rw (w.f-is, w.transitions-is, w.rows-is)
            (rw (no_transition _ c.loop-rest.transitions c.loop-rest.p.transitions w.in_default.not-Transition, no_row _ c.loop-rest.rows c.loop-rest.p.rows w.in_default.not-Row) at r)
      ]),
    )

pub returns : goal.returns
returns c =
    let i = c.loop-rest.invariant in
    c.finished.ensures ∙ sym (read_short c.args.input.now i.1 ∙ ends-here _ _ _ _ _ i.2 (eqb-true _ 0 (sym c.loop-rest-test.ensures)))
