use Rattle.std.proofs.Common.{drop}
use Rattle.frames.specs.Hex.{digits_of}
use Rattle.frames.proofs.Overwriting.{PutOn}
use Rattle.frames.proofs.answers.Out.put.Given as goal

abbrev pub invariant-loop-b : goal.invariant-loop-b
invariant-loop-b l = PutOn (digits_of l.bytes) (digits_of (drop l.b-index l.bytes)) l.fn.self l.self
