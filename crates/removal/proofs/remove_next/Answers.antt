-- `removal::remove_next` meets its contract.
use Rattle.std.proofs.Common.{rules, ◌≡◌, Err}
use mathlib.Core.Bool.{not}
use Rattle.removal.proofs.Turns.{next-refused, next-first, next-second}
use Rattle.removal.proofs.remove_next.Goals as goal

pub returns-in_err-s : goal.returns-in_err-s
returns-in_err-s c =
    let e : c.from_residual.result ≡ Err c.in_err-s.field-0.0 = search rules in
    rw (c.in_err-s.was, e) (next-refused c.args.first.now c.args.second.now c.args.v _ _)

pub returns-in_err-rows : goal.returns-in_err-rows
returns-in_err-rows c =
    let z = c.args in
    let e : c.from_residual-in_err-rows.result ≡ Err c.in_err-rows.field-0.0 = search rules in
    rw (c.in_ok-s.was, e) (next-first z.first.now z.second.now c.in_ok-s.s z.v (rw c.in_ok-s.was at c.requires.0) c.if-s.true _ _ (rw c.in_err-rows.was at c.without.ensures))

pub returns-then-s : goal.returns-then-s
returns-then-s c =
    let z = c.args in
    let f : not c.in_ok-s.s.second ≡ mathlib.Core.Bool.false = rw c.if-s.true mathlib.Core.Path.refl in
    rw (c.in_ok-s.was, ← f) (next-first z.first.now z.second.now c.in_ok-s.s z.v (rw c.in_ok-s.was at c.requires.0) c.if-s.true _ _ (rw c.in_ok-rows.was at c.without.ensures))

pub returns-in_err-rows-2 : goal.returns-in_err-rows-2
returns-in_err-rows-2 c =
    let z = c.args in
    let e : c.from_residual-in_err-rows-2.result ≡ Err c.in_err-rows-2.field-0.0 = search rules in
    rw (c.in_ok-s.was, e) (next-second z.first.now z.second.now c.in_ok-s.s z.v (rw c.in_ok-s.was at c.requires.0) c.if-s.false _ _ (rw c.in_err-rows-2.was at c.without-2.ensures))

pub returns : goal.returns
returns c =
    let z = c.args in
    let f : not c.in_ok-s.s.second ≡ mathlib.Core.Bool.true = rw c.if-s.false mathlib.Core.Path.refl in
    rw (c.in_ok-s.was, ← f) (next-second z.first.now z.second.now c.in_ok-s.s z.v (rw c.in_ok-s.was at c.requires.0) c.if-s.false _ _ (rw c.in_ok-rows-2.was at c.without-2.ensures))
