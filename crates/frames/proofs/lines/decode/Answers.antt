use Rattle.std.proofs.Common.{◌≡◌, ◌*◌, ◌/◌, ◌<◌, length, [], get_or, drop, eqb, cond, Some, None, refl, ap, ◌∙◌, arith}
use Rattle.std.proofs.Math.ListN.{length-set}
use Rattle.sets.specs.declared.Refusal.TheVariants.{NoFrame}
use Rattle.sets.specs.Outcomes.{Ok, Err}
use Rattle.frames.specs.Hex.{first_bytes}
use Rattle.frames.proofs.Pairs.{pair-below, is-foreign, is-value}
use Rattle.frames.proofs.Decoding.{going_none, going_ends, pair-taken, pair-foreign, pairs-done, ends-so, some_if}
use Rattle.frames.proofs.lines.decode.Goals as goal
use Rattle.frames.proofs.lines.decode.Goals.{else-loop-c-test, then-loop-c-test+in_default}

pub loop-c-init : goal.loop-c-init
loop-c-init c = (refl, c.requires, going_none _ _)

pub loop-c-preserved : goal.loop-c-preserved
loop-c-preserved c =
    let line = c.args.input.now in
    let n = c.loop-c.n in
    let g = c.loop-c.invariant in
    let within : n < length line / 2 = omega (arith, c.as_chunks.ensures.front_len) in
    let found-so = is-value 256 c.in-Some.b (pair-below _ _) (rw (c.as_chunks.ensures.front, ← g.0) at c.in-Some.ensures) in
    let more = pair-taken line n within c.loop-c.to c.in-Some.b g.1 found-so g.2 in
    (omega arith, ap length c.keep.ensures ∙ length-set _ _ _ ∙ g.1, rw c.keep.ensures more)

pub returns : goal.returns
returns c =
    let line = c.args.input.now in
    let n = c.loop-c.n in
    let g = c.loop-c.invariant in
    let stops : first_bytes (drop (n * 2) line) ≡ cond (eqb (get_or line (n * 2) 0) 10) (Ok []) (Err NoFrame) =
    elim c.loop-c-test.branch [
      | else-loop-c-test w ↦ pairs-done line n (omega (arith, c.as_chunks.ensures.front_len))
      | then-loop-c-test+in_default w ↦
          pair-foreign line n (omega (arith, c.as_chunks.ensures.front_len)) (is-foreign 256 (pair-below _ _) (rw (c.as_chunks.ensures.front, ← g.0) at w.in_default.ensures))
    ] in
    let is : c.then_some.result ≡ cond (eqb (get_or line (n * 2) 0) 10) (Some n) None =
    c.then_some.ensures ∙ some_if c.eq.result n ∙ ap (λ t. cond t (Some n) None) (c.eq.ensures ∙ ends-so line (n * 2) (2 * n) (omega arith) c.get.result _ refl c.get.ensures.lookup.3) in
    (g.1, going_ends line c.loop-c.to n (drop (n * 2) line) c.then_some.result _ g.2 stops is)
