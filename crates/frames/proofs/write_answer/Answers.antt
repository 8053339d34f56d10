use Rattle.std.proofs.Common.{rules, arith}
use Rattle.sets.specs.Stores.{rows_at}
use Rattle.frames.specs.Writing.{Room, answer_lines}
use Rattle.frames.proofs.Lining.{answer-length, answer-is, answer-long, no_room, all-written}
use Rattle.frames.proofs.Overwriting.{put-begins, put-next, last-fits, put-last}
use Rattle.frames.proofs.write_answer.Goals as goal

pub returns-then-to-region_length : goal.returns-then-to-region_length
returns-then-to-region_length c =
    let a = c.args in
    no_room _ a.to.now (omega (arith, answer-long a.outcome a.states a.attempts a.formed a.region.now a.rows, c.region_length.ensures.0))

pub put_answer-requires : goal.put_answer-requires
put_answer-requires c =
    let a = c.args in
    rw (c.new-out.ensures.place, c.new-out.ensures.store) (omega (arith, answer-length a.outcome a.states a.attempts a.formed a.rows))

pub put_region-requires : goal.put_region-requires
put_region-requires c =
    let a = c.args in
    let n = c.new-out.ensures in
    let room : Room (answer_lines a.outcome a.states a.attempts a.formed (rows_at a.region.now 0 a.rows)) c.new-out.result = rw (n.place, n.store) (omega (arith, answer-long a.outcome a.states a.attempts a.formed a.region.now a.rows, c.region_length.ensures.0)) in
    let p = put-next _ _ _ _ _ (put-begins _ _ (answer-is a.outcome a.states a.attempts a.formed a.region.now a.rows) c.new-out.result) room _ c.put_answer.ensures in
    (c.requires.0, c.requires.1, last-fits _ _ _ _ p room)

pub returns : goal.returns
returns c =
    let a = c.args in
    let n = c.new-out.ensures in
    let room : Room (answer_lines a.outcome a.states a.attempts a.formed (rows_at a.region.now 0 a.rows)) c.new-out.result = rw (n.place, n.store) (omega (arith, answer-long a.outcome a.states a.attempts a.formed a.region.now a.rows, c.region_length.ensures.0)) in
    let p = put-next _ _ _ _ _ (put-begins _ _ (answer-is a.outcome a.states a.attempts a.formed a.region.now a.rows) c.new-out.result) room _ c.put_answer.ensures in
    all-written _ a.to.now _ c.new-out.result c.put_region.new.out c.count.result n.place n.store room (put-last _ _ _ _ p room _ c.put_region.ensures) c.count.ensures (search rules)
