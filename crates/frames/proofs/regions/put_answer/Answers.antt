use Rattle.frames.proofs.Lining.{answer-parts, low-two, low-four}
use Rattle.frames.proofs.Overwriting.{put-begins, put-fits, put-next, last-fits, put-last}
use Rattle.frames.proofs.regions.put_answer.Goals as goal

pub put-requires : goal.put-requires
put-requires c =
    let p = put-begins _ _ (answer-parts c.args.outcome c.args.states c.args.attempts c.args.formed c.args.rows) c.args.out.now in
    rw c.outcome_number.ensures (put-fits _ _ _ _ _ p c.requires)

pub put-requires-2 : goal.put-requires-2
put-requires-2 c =
    let p = put-begins _ _ (answer-parts c.args.outcome c.args.states c.args.attempts c.args.formed c.args.rows) c.args.out.now in
    let q = put-next _ _ _ _ _ p c.requires _ (rw c.outcome_number.ensures at c.put.ensures) in
    rw (low-two c.to_be_bytes.result c.args.states c.to_be_bytes.ensures) (put-fits _ _ _ _ _ q c.requires)

pub put-requires-3 : goal.put-requires-3
put-requires-3 c =
    let p = put-begins _ _ (answer-parts c.args.outcome c.args.states c.args.attempts c.args.formed c.args.rows) c.args.out.now in
    let q = put-next _ _ _ _ _ p c.requires _ (rw c.outcome_number.ensures at c.put.ensures) in
    let r = put-next _ _ _ _ _ q c.requires _ (rw (low-two c.to_be_bytes.result c.args.states c.to_be_bytes.ensures) at c.put-2.ensures) in
    rw (low-two c.to_be_bytes-2.result c.args.attempts c.to_be_bytes-2.ensures) (put-fits _ _ _ _ _ r c.requires)

pub put-requires-4 : goal.put-requires-4
put-requires-4 c =
    let p = put-begins _ _ (answer-parts c.args.outcome c.args.states c.args.attempts c.args.formed c.args.rows) c.args.out.now in
    let q = put-next _ _ _ _ _ p c.requires _ (rw c.outcome_number.ensures at c.put.ensures) in
    let r = put-next _ _ _ _ _ q c.requires _ (rw (low-two c.to_be_bytes.result c.args.states c.to_be_bytes.ensures) at c.put-2.ensures) in
    let s = put-next _ _ _ _ _ r c.requires _ (rw (low-two c.to_be_bytes-2.result c.args.attempts c.to_be_bytes-2.ensures) at c.put-3.ensures) in
    rw (low-four c.to_be_bytes-3.result c.args.formed c.to_be_bytes-3.ensures) (put-fits _ _ _ _ _ s c.requires)

pub put-requires-5 : goal.put-requires-5
put-requires-5 c =
    let p = put-begins _ _ (answer-parts c.args.outcome c.args.states c.args.attempts c.args.formed c.args.rows) c.args.out.now in
    let q = put-next _ _ _ _ _ p c.requires _ (rw c.outcome_number.ensures at c.put.ensures) in
    let r = put-next _ _ _ _ _ q c.requires _ (rw (low-two c.to_be_bytes.result c.args.states c.to_be_bytes.ensures) at c.put-2.ensures) in
    let s = put-next _ _ _ _ _ r c.requires _ (rw (low-two c.to_be_bytes-2.result c.args.attempts c.to_be_bytes-2.ensures) at c.put-3.ensures) in
    let t = put-next _ _ _ _ _ s c.requires _ (rw (low-four c.to_be_bytes-3.result c.args.formed c.to_be_bytes-3.ensures) at c.put-4.ensures) in
    put-fits _ _ _ _ _ t c.requires

pub end-requires : goal.end-requires
end-requires c =
    let p = put-begins _ _ (answer-parts c.args.outcome c.args.states c.args.attempts c.args.formed c.args.rows) c.args.out.now in
    let q = put-next _ _ _ _ _ p c.requires _ (rw c.outcome_number.ensures at c.put.ensures) in
    let r = put-next _ _ _ _ _ q c.requires _ (rw (low-two c.to_be_bytes.result c.args.states c.to_be_bytes.ensures) at c.put-2.ensures) in
    let s = put-next _ _ _ _ _ r c.requires _ (rw (low-two c.to_be_bytes-2.result c.args.attempts c.to_be_bytes-2.ensures) at c.put-3.ensures) in
    let t = put-next _ _ _ _ _ s c.requires _ (rw (low-four c.to_be_bytes-3.result c.args.formed c.to_be_bytes-3.ensures) at c.put-4.ensures) in
    let u = put-next _ _ _ _ _ t c.requires _ c.put-5.ensures in
    last-fits _ _ _ _ u c.requires

pub returns : goal.returns
returns c =
    let p = put-begins _ _ (answer-parts c.args.outcome c.args.states c.args.attempts c.args.formed c.args.rows) c.args.out.now in
    let q = put-next _ _ _ _ _ p c.requires _ (rw c.outcome_number.ensures at c.put.ensures) in
    let r = put-next _ _ _ _ _ q c.requires _ (rw (low-two c.to_be_bytes.result c.args.states c.to_be_bytes.ensures) at c.put-2.ensures) in
    let s = put-next _ _ _ _ _ r c.requires _ (rw (low-two c.to_be_bytes-2.result c.args.attempts c.to_be_bytes-2.ensures) at c.put-3.ensures) in
    let t = put-next _ _ _ _ _ s c.requires _ (rw (low-four c.to_be_bytes-3.result c.args.formed c.to_be_bytes-3.ensures) at c.put-4.ensures) in
    let u = put-next _ _ _ _ _ t c.requires _ c.put-5.ensures in
    put-last _ _ _ _ u c.requires _ c.end.ensures
