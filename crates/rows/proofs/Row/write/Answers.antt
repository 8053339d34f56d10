use Rattle.std.proofs.Common.{◌≡◌, refl, length, length-set, rules, arith, ◌∙◌, ap, Bool, true, false, pos, ℤ, w32, to_z, of_z}
use lib.Seq.{paste-zero}
use mir.Val.{bool_byte}
use Rattle.rows.specs.Rows.{flag, numbers}
use Rattle.rows.proofs.Stores.{number_more, number_last}
use Rattle.rows.proofs.Row.write.Goals as goal

flag_is : (b : Bool) → to_z w32 (of_z w32 (pos (bool_byte b))) ≡ flag b
flag_is true = refl
flag_is false = refl

pub loop-i-init : goal.loop-i-init
loop-i-init c = (refl, paste-zero c.args.s.now c.args.at (numbers c.args.self))

pub loop-i-preserved : goal.loop-i-preserved
loop-i-preserved c =
    let z = c.args in
    let l = c.loop-i in
    let long : length z.self.entries ≡ 16 = search rules in
    (simp length-set l.invariant.0, number_more z.s.now l.s z.at z.self long c.requires l.i _ (omega arith) l.invariant.1 (search rules))

pub returns : goal.returns
returns c =
    let z = c.args in
    let l = c.loop-i in
    let long : length z.self.entries ≡ 16 = search rules in
    let e : l.i ≡ 16 = omega arith in
    let v = ap (λ (z : ℤ). to_z w32 (of_z w32 z)) c.from.ensures ∙ flag_is z.self.strict in
    number_last z.s.now l.s z.at z.self long c.requires _ (rw e at l.invariant.1) v
