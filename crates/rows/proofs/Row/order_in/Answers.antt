use Rattle.std.proofs.Common.{◌≡◌, refl, sym, ◌∙◌, true, false, List, ℤ, ℕ, ◌+◌, ◌≤◌, length, get_or, pos, rules, arith}
use Rattle.std.specs.declared.cmp.Ordering.{Ordering}
use Rattle.std.specs.declared.cmp.Ordering.TheVariants.{Less, Equal, Greater}
use Rattle.std.specs.Ordering.{is_ne}
use Rattle.integers.proofs.Tests.{not-both}
use Rattle.rows.specs.Rows.{then_by, flag_order, row_order, is_one, row_at}
use Rattle.rows.specs.Blocks.{four_order}
use Rattle.rows.proofs.Stores.{flag-read}
use Rattle.rows.proofs.Blocks.{then_blocks, row-blocks, other_found, other_none}
use Rattle.rows.proofs.Row.order_in.Goals as goal

module _ (s t : List ℤ) (a b : ℕ) (h : a + 17 ≤ length s) (k : b + 17 ≤ length t) where
  abbrev flags : Ordering
  flags = flag_order (is_one (get_or s (a + 16) (pos 0))) (is_one (get_or t (b + 16) (pos 0)))

  -- the order of the rows by that of the front blocks: where these differ they decide it
  by_front : (o : Ordering) → o ≡ four_order s a t b → then_by (then_blocks s t a b o) flags ≡ row_order (row_at s a) (row_at t b)
  by_front o e = row-blocks s t a b o (omega arith) (omega arith) (sym e)

  front_decides : (o : Ordering) → o ≡ four_order s a t b → is_ne o ≡ true → o ≡ row_order (row_at s a) (row_at t b)
  front_decides Less e f = by_front Less e
  front_decides Equal e f = not-both f
  front_decides Greater e f = by_front Greater e

is_equal : (o : Ordering) → is_ne o ≡ false → o ≡ Equal
is_equal Less f = not-both (sym f)
is_equal Equal f = refl
is_equal Greater f = not-both (sym f)

pub returns-then-is_ne : goal.returns-then-is_ne
returns-then-is_ne c =
    let z = c.args in
    front_decides z.s.now z.t.now z.a z.b c.requires.0 c.requires.1 c.order_of_four-o.result c.order_of_four-o.ensures (sym c.is_ne.ensures ∙ c.if-is_ne.true)

pub order_of_four-requires : goal.order_of_four-requires
order_of_four-requires c =
    let z = c.args in
    let h = other_found z.s.now z.t.now z.a z.b Equal (rw c.first_other-k.ensures at c.if-k-lt-ENTRIES.true) in
    rw c.first_other-k.ensures (omega arith, omega arith)

pub returns-then-k-lt-ENTRIES : goal.returns-then-k-lt-ENTRIES
returns-then-k-lt-ENTRIES c =
    let z = c.args in
    let o = c.order_of_four-o in
    let e = is_equal o.result (sym c.is_ne.ensures ∙ c.if-is_ne.false) in
    let h = other_found z.s.now z.t.now z.a z.b (flags z.s.now z.t.now z.a z.b c.requires.0 c.requires.1) (rw c.first_other-k.ensures at c.if-k-lt-ENTRIES.true) in
    c.order_of_four.ensures ∙ (rw c.first_other-k.ensures h.1) ∙ by_front z.s.now z.t.now z.a z.b c.requires.0 c.requires.1 Equal (sym e ∙ o.ensures)

pub returns : goal.returns
returns c =
    let z = c.args in
    let o = c.order_of_four-o in
    let e = is_equal o.result (sym c.is_ne.ensures ∙ c.if-is_ne.false) in
    let f = flag-read (get_or z.s.now (z.a + 16) (pos 0)) (search rules) in
    let g = flag-read (get_or z.t.now (z.b + 16) (pos 0)) (search rules) in
    (rw (f, g) at c.cmp.ensures) ∙
    other_none z.s.now z.t.now z.a z.b (flags z.s.now z.t.now z.a z.b c.requires.0 c.requires.1) (rw c.first_other-k.ensures at c.if-k-lt-ENTRIES.false) ∙
    by_front z.s.now z.t.now z.a z.b c.requires.0 c.requires.1 Equal (sym e ∙ o.ensures)
