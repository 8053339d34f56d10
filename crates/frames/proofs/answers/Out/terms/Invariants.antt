use Rattle.std.proofs.Common.{drop}
use Rattle.frames.specs.Hex.{digits_of}
use Rattle.frames.specs.Writing.{terms_of}
use Rattle.frames.proofs.Overwriting.{PutOn}
use Rattle.frames.proofs.answers.Out.terms.Given as goal

abbrev pub invariant-loop-i : goal.invariant-loop-i
invariant-loop-i l = PutOn (digits_of (terms_of 0 l.fn.e)) (digits_of (terms_of l.i (drop l.i l.fn.e))) l.fn.self l.self
