use Rattle.std.proofs.Common.{◌≡◌, ◌-◌, ◌<◌, length, reverse, get_or, drop, refl, ◌∙◌, arith, w32, length-set}
use Rattle.std.proofs.lemmas.Iterator.Adapters.{YieldsList-from_rev_slice}
use Rattle.std.proofs.lemmas.Iterator.Consumers.{YieldsList-turn, YieldsList-end}
use Rattle.std.proofs.lemmas.List.{length_push, length-reverse}
use Rattle.integers.proofs.Bounds.{back}
use Rattle.frames.specs.Reading.{term_count, entries_of}
use Rattle.frames.proofs.Terms.{chunks, chunk-count, entry-back, term-put}
use Rattle.frames.proofs.frames.entries_of.Goals as goal

pub loop-t-init : goal.loop-t-init
unfolding entries_of
loop-t-init c = (tt, tt, refl, refl)

-- the term of this turn, counted from the last
turn : (c : goal.After-from) → (length c.loop-t.yielded < term_count c.args.b.now) × (c.in-Some.t.now ≡ get_or (reverse (chunks c.args.b.now)) (length c.loop-t.yielded) c.in-Some.t.now)
turn c =
    let b = c.args.b.now in
    let t = YieldsList-turn (YieldsList-from_rev_slice (chunks b) cc) c.loop-t.yielded _ c.loop-t.yielded_by _ _ c.in-Some.t c.in-Some.is c.next.ensures.steps in
    (omega (arith, t.0, length-reverse (chunks b), chunk-count 5 (term_count b) (drop 4 b)), t.1)

small : (c : goal.After-from) → c.from.result < 16
small c =
    let b = c.args.b.now in
    let t = turn c in
    let e = entry-back b c.in-Some.t.now (length c.loop-t.yielded) t.1 t.0 in
    rw (c.from.ensures, e) (c.requires.1 _ (omega (arith, t.0)))

pub bounds-to-from : goal.bounds-to-from
bounds-to-from c = small c

pub loop-t-preserved : goal.loop-t-preserved
loop-t-preserved c =
    let b = c.args.b.now in
    let i = c.loop-t.invariant in
    let t = turn c in
    let p = term-put b c.in-Some.t.now (length c.loop-t.yielded) t.1 t.0 c.loop-t.to i.2 (rw c.from.ensures at (small c)) i.3 in
    (tt, tt, length-set _ _ _ ∙ i.2, rw (length_push c.loop-t.yielded c.in-Some.t, back w32 c.word.result c.word.type_inv, c.word.ensures, c.from.ensures) p)

pub returns : goal.returns
returns c =
    let b = c.args.b.now in
    let t = YieldsList-end (YieldsList-from_rev_slice (chunks b) cc) c.loop-t.yielded _ c.loop-t.yielded_by _ _ c.in-None.is c.next.ensures.steps in
    let n : length c.loop-t.yielded ≡ term_count b = omega (arith, t.1, length-reverse (chunks b), chunk-count 5 (term_count b) (drop 4 b)) in
    let z : term_count b - term_count b ≡ 0 = omega arith in
    rw (n, z) at c.loop-t.invariant.3
