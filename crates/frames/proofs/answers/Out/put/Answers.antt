use Rattle.std.proofs.Common.{arith, length-set}
use Rattle.frames.proofs.Overwriting.{digits-done, put-done, byte_room, byte-put}
use Rattle.frames.proofs.answers.Out.put.Goals as goal

pub bounds-self-self : goal.bounds-self-self
bounds-self-self c = let r = byte_room c.args.bytes.now c.loop-b.b-index c.loop-b-test.true _ _ _ _ _ c.loop-b.invariant.going c.requires in omega arith

pub bounds-self-self-in-loop-b : goal.bounds-self-self-in-loop-b
bounds-self-self-in-loop-b c =
    let r = byte_room c.args.bytes.now c.loop-b.b-index c.loop-b-test.true _ _ _ _ _ c.loop-b.invariant.going c.requires in
    omega (arith, length-set c.loop-b.self.to.now c.loop-b.self.at c.digit_of.result)

pub loop-b-preserved : goal.loop-b-preserved
loop-b-preserved c = record {
  same = c.loop-b.invariant.same;
  going = byte-put c.args.bytes.now c.loop-b.b-index c.loop-b-test.true _ _ _ _ _ c.loop-b.invariant.going c.requires _ _ c.digit_of.ensures c.digit_of-in-loop-b.ensures;
}

pub returns : goal.returns
returns c = put-done _ _ _ (rw (digits-done c.args.bytes.now c.loop-b.b-index c.loop-b-test.false) at c.loop-b.invariant)
