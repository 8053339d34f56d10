use Rattle.std.proofs.Common.{◌≡◌, refl, sym, ap, ◌∙◌, Bool, true, false, ◌≤◌, ℤ, List, pos, get_or, drop, nat_abs, arith, w32}
use Rattle.integers.specs.Signs.{is_zero}
use Rattle.integers.proofs.Bounds.{back, bits-zero, zero_bits}
use Rattle.integers.proofs.Elements.{i32_array}
use Rattle.entries.proofs.Nonzero.{first-zero}
use Rattle.entries.specs.Entries.{first_nonzero}
use Rattle.rows.specs.Rows.{all_zero, divided_down}
use Rattle.rows.proofs.Lowering.{down_constant}
use Rattle.rows.proofs.Level.{level_down}
use Rattle.rows.proofs.Row.divided_into.Goals as goal

-- whether a variable is named, by the first entry that is not 0
named : (l : List ℤ) (x : ℤ) (b : Bool) → x ≡ first_nonzero l → is_zero x ≡ b → all_zero l ≡ b
named l x b e f = sym (first-zero l) ∙ ap is_zero (sym e) ∙ f

pub returns-then-x-eq0 : goal.returns-then-x-eq0
returns-then-x-eq0 c =
    let r = c.args.self in
    let x = c.first_variable-x in
    let q : c.constant.result ≡ divided_down r = rw c.widened.ensures at c.constant.ensures ∙ down_constant r.entries r.strict (named (drop 1 r.entries) x.result true x.ensures (bits-zero w32 x.result x.type_inv c.if-x-eq0.true)) in
    rw (← q) c.give.ensures

pub returns-then-is_level : goal.returns-then-is_level
returns-then-is_level c =
    let r = c.args.self in
    let x = c.first_variable-x in
    let some = zero_bits w32 x.result c.if-x-eq0.false in
    let q = level_down r (named (drop 1 r.entries) x.result false x.ensures some) x.result some (sym (rw (back w32 x.result x.type_inv) at c.is_level.ensures) ∙ c.if-is_level.true) in
    rw (← q) (record { value = refl; to_after = rw c.signs.ensures at c.write.ensures })

pub lowered-requires : goal.lowered-requires
lowered-requires c i =
    let h : nat_abs (get_or c.args.self.entries i (pos 0)) ≤ 2147483648 = search i32_array in
    rw c.widened-2.ensures (omega arith)
