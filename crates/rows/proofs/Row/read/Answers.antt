use Rattle.std.proofs.Common.{◌≡◌, rules, sym, nat_eq, ◌+◌, pos, take, drop, get_or, w32, of_z, arith}
use Rattle.integers.proofs.FromFn.{from_fn_is}
use Rattle.rows.specs.Rows.{is_one}
use Rattle.rows.proofs.Stores.{length_part, get_d_part, flag-read}
use Rattle.rows.proofs.Row.read.Goals as goal

pub returns : goal.returns
returns c =
    let s = c.args.s.now in
    let at = c.args.at in
    let e = from_fn_is _ _ c.from_fn.result (pos 0) (λ i. get_or s (at + i) (pos 0)) (λ i y q k. search rules) 16 (take 16 (drop at s)) c.from_fn.ensures.items (length_part 16 at s (omega arith)) (λ i k. sym (get_d_part 16 at s i k)) in
    let z = get_or s (at + 16) (pos 0) in
    let f : nat_eq (of_z w32 z) 1 ≡ is_one z = flag-read z (search rules) in
    rw (e, f)
