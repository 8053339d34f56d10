use Rattle.std.proofs.Common.{◌≡◌, ◌+◌, ◌*◌, ◌∙◌, arith, w32}
use Rattle.integers.proofs.Bounds.{back}
use Rattle.frames.specs.Hex.{byte, word}
use Rattle.frames.proofs.Pairs.{signed-read}
use Rattle.frames.proofs.digits.word.Goals as goal

pub returns : goal.returns
unfolding word
returns c =
    let r = c.from_be_bytes in
    let b = c.args.b.now in
    let i = c.args.i in
    let e : byte b i * 16777216 + byte b (i + 1) * 65536 + byte b (i + 2) * 256 + byte b (i + 3) ≡ ((byte b i * 256 + byte b (i + 1)) * 256 + byte b (i + 2)) * 256 + byte b (i + 3) = omega arith in
    back w32 r.result r.type_inv ∙ r.ensures ∙ signed-read _ ∙ (rw e)
