use Rattle.frames.proofs.Overwriting.{put-none, put-begins, put-fits, put-next, last-fits, put-last, no_term, term-is, coefficient-is}
use Rattle.frames.proofs.answers.Out.term.Goals as goal

pub returns-else-z-ne0 : goal.returns-else-z-ne0
returns-else-z-ne0 c = put-none _ (no_term c.args.i c.args.z c.ranges.z.sfits c.if-z-ne0.false) c.args.self.now

pub put-requires : goal.put-requires
put-requires c = put-fits _ _ _ _ _ (put-begins _ _ (term-is c.args.i c.args.z c.ranges.z.sfits c.if-z-ne0.true) c.args.self.now) c.requires.1

pub put-requires-then-z-ne0 : goal.put-requires-then-z-ne0
put-requires-then-z-ne0 c =
    let p = put-next _ _ _ _ _ (put-begins _ _ (term-is c.args.i c.args.z c.ranges.z.sfits c.if-z-ne0.true) c.args.self.now) c.requires.1 _ c.put.ensures in
    rw (coefficient-is c.args.i c.args.z c.ranges.z.sfits c.to_be_bytes.result c.to_be_bytes.ensures) at (last-fits _ _ _ _ p c.requires.1)

pub returns-then-z-ne0 : goal.returns-then-z-ne0
returns-then-z-ne0 c =
    let p = put-next _ _ _ _ _ (put-begins _ _ (term-is c.args.i c.args.z c.ranges.z.sfits c.if-z-ne0.true) c.args.self.now) c.requires.1 _ c.put.ensures in
    put-last _ _ _ _ p c.requires.1 _ (rw (coefficient-is c.args.i c.args.z c.ranges.z.sfits c.to_be_bytes.result c.to_be_bytes.ensures) c.put-then-z-ne0.ensures)
