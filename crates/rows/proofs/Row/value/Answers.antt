use Rattle.std.proofs.Common.{◌≡◌, sym, ◌∙◌, rules, arith, ℕ, ◌+◌, ◌*◌, ◌≤◌, ◌<◌, List, length, length-append, get_or, drop, ℤ, pos, nat_abs, ◌+ℤ◌, ◌*ℤ◌, to_z, of_z, w64}
use lib.IntN.{+ℤ_assoc, +ℤ_idr}
use native.Mathlib.Nat.{mul-le-mul}
use Rattle.std.proofs.lemmas.Slice.Zip.{zip_turn, zip_end}
use Rattle.integers.proofs.Bounds.{back, natAbs_add, nat_abs_mul}
use Rattle.integers.proofs.Loops.{drop_turn, drop-done}
use Rattle.rows.specs.Rows.{dot}
use Rattle.rows.proofs.Meaning.{dot-nil}
use Rattle.rows.proofs.Row.value.Goals as goal

module _ (e at : List ℤ) (i : ℕ) (h : i < length e) (k : i < length at) (s t : ℤ) (is : t ≡ s +ℤ get_or e i (pos 0) *ℤ get_or at i (pos 0)) where
  turn : t +ℤ dot (drop (i + 1) e) (drop (i + 1) at) ≡ s +ℤ dot (drop i e) (drop i at)
  unfolding dot
  turn = rw (drop_turn e i (pos 0) h, drop_turn at i (pos 0) k, is) (+ℤ_assoc s _ _)

  grows : nat_abs (get_or e i (pos 0)) * nat_abs (get_or at i (pos 0)) ≤ 1000000000000000 → nat_abs s ≤ i * 1000000000000000 → nat_abs t ≤ (i + 1) * 1000000000000000
  grows b l = rw is (omega (arith, natAbs_add s (get_or e i (pos 0) *ℤ get_or at i (pos 0)), nat_abs_mul (get_or e i (pos 0)) (get_or at i (pos 0))))

pub plus_product-sum-requires : goal.plus_product-sum-requires
plus_product-sum-requires c =
    let e = c.args.self.entries in
    let v = c.args.setting in
    let n = length c.loop-x.yielded in
    let t = zip_turn e v _ _ _ c.next.new.self _ (cc) (cc) c.loop-x.yielded_by (c.in-Some.x, c.in-Some.y) c.in-Some.is c.next.ensures.steps in
    let long : length v ≡ 9 = search rules in
    let x : to_z w64 (of_z w64 c.from.result) ≡ get_or e n (pos 0) = search (rules, t) in
    let y : to_z w64 (of_z w64 c.in-Some.y.now) ≡ get_or v n (pos 0) = search (rules, t) in
    rw (x, y) (omega arith, omega (arith, mul-le-mul (c.requires.0 n) (c.requires.1 n)))

pub loop-x-preserved : goal.loop-x-preserved
loop-x-preserved c =
    let e = c.args.self.entries in
    let v = c.args.setting in
    let n = length c.loop-x.yielded in
    let t = zip_turn e v _ _ _ c.next.new.self _ (cc) (cc) c.loop-x.yielded_by (c.in-Some.x, c.in-Some.y) c.in-Some.is c.next.ensures.steps in
    let x : to_z w64 (of_z w64 c.from.result) ≡ get_or e n (pos 0) = search (rules, t) in
    let y : to_z w64 (of_z w64 c.in-Some.y.now) ≡ get_or v n (pos 0) = search (rules, t) in
    let p = c.plus_product-sum in
    let s = to_z w64 (of_z w64 p.result) in
    let is : s ≡ to_z w64 c.loop-x.sum-bits +ℤ get_or e n (pos 0) *ℤ get_or v n (pos 0) = back w64 p.result p.type_inv ∙ (rw (x, y) at p.ensures) in
    rw (length-append c.loop-x.yielded) (
      grows e v n t.0 t.1 (to_z w64 c.loop-x.sum-bits) s is (mul-le-mul (c.requires.0 n) (c.requires.1 n)) c.loop-x.invariant.0,
      turn e v n t.0 t.1 (to_z w64 c.loop-x.sum-bits) s is ∙ c.loop-x.invariant.1,
    )

pub returns : goal.returns
returns c =
    let e = c.args.self.entries in
    let v = c.args.setting in
    let n = zip_end e v _ _ _ c.next.new.self _ (cc) (cc) c.loop-x.yielded_by c.in-None.is c.next.ensures.steps in
    let a : length e ≡ 16 = search rules in
    let b : length v ≡ 9 = search rules in
    sym (+ℤ_idr (to_z w64 c.loop-x.sum-bits)) ∙ (rw (drop-done v (length c.loop-x.yielded) (omega arith), dot-nil) at c.loop-x.invariant.1)
