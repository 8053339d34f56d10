-- `removal::pairs::join_pair` meets its contract: equal multipliers give a multiple of the plain sum.
use mathlib.Core.Path.{◌≡◌, refl, sym, ◌∙◌}
use mathlib.Core.Bool.{true, false}
use mathlib.Core.List.{List, []}
use Prim.Native.Nat.{ℕ, ◌+◌, ◌≤◌, ◌<◌}
use native.Mathlib.Omega.{arith}
use lib.ListN.{get_or}
use lib.IntN.{ℤ, pos, nat_abs, ◌+ℤ◌}
use mir.Syntax.{w32}
use mir.Val.{SFits, to_z, of_z}
use Rattle.integers.specs.Limits.{entry_limit}
use Rattle.integers.proofs.Bounds.{back, fits_abs, natAbs_add, bits-zero}
use Rattle.integers.proofs.Tests.{zero_of}
use Rattle.integers.proofs.Whole.{IsPos}
use Rattle.entries.proofs.Sums.{length-plus}
use Rattle.rows.specs.declared.Row.{Row}
use Rattle.rows.specs.declared.Fate.TheVariants.{TooLarge}
use Rattle.rows.specs.Rows.{entry_count, all_small, has_one, divided_down, added, paired, row_at}
use Rattle.rows.proofs.Adding.{paired-added, has_one-limited, limited-kept, limited_large}
use Rattle.rows.proofs.Dividing.{Wide, settled_wide}
use Rattle.rows.proofs.Stores.{row_back}
use Rattle.sets.proofs.Stores.{wide-row_at}
use Rattle.sets.proofs.Steps.{put_large}
use Rattle.removal.specs.Removal.{entry}
use Rattle.removal.specs.Pairs.{SmallAt}
use Rattle.removal.proofs.Places.{entry_at}
use Rattle.removal.proofs.pairs.join_pair.Goals as goal

-- the two rows, their entries as they are read, and the plain sum
module _ (m : List ℤ) (p q v : ℕ) (hp : SmallAt m p) (hq : SmallAt m q) (hv : v < entry_count) where
  abbrev first : ℤ
  first = get_or m (p + v) (pos 0)

  abbrev second : ℤ
  second = get_or m (q + v) (pos 0)

  first_small : nat_abs first ≤ entry_limit
  first_small = rw (entry_at v m p hv) at (hp.small v)

  second_small : nat_abs second ≤ entry_limit
  second_small = rw (entry_at v m q hv) at (hq.small v)

  read_first : to_z w32 (of_z w32 first) ≡ first
  read_first = back w32 first (fits_abs {w = w32} first (omega (arith, first_small))).sfits

  read_second : to_z w32 (of_z w32 second) ≡ second
  read_second = back w32 second (fits_abs {w = w32} second (omega (arith, second_small))).sfits

  sum_fits : SFits w32 (first +ℤ second)
  sum_fits = fits_abs _ (omega (arith, first_small, second_small, natAbs_add first second))

  pub read-sum_fits : SFits w32 (to_z w32 (of_z w32 first) +ℤ to_z w32 (of_z w32 second))
  read-sum_fits = rw (read_first, read_second) sum_fits

  abbrev sum : Row
  sum = added (row_at m p) (row_at m q)

  -- where it is zero the pair is divided down to what the plain sum is
  pub alike : IsPos (entry v (row_at m p)) → of_z w32 (to_z w32 (of_z w32 first) +ℤ to_z w32 (of_z w32 second)) ≡ 0 → divided_down (paired v (row_at m p) (row_at m q)) ≡ divided_down sum
  alike k e =
      let f : entry v (row_at m p) +ℤ entry v (row_at m q) ≡ pos 0 =
      rw (entry_at v m p hv, entry_at v m q hv) (zero_of (first +ℤ second) (bits-zero w32 (first +ℤ second) sum_fits.sfits (rw (read_first, read_second) at e))) in
      paired-added v (row_at m p) (row_at m q) k f

  pub sum_wide : Wide sum
  sum_wide =
      let e = wide-row_at m p hp.room in
      length-plus (row_at m p).entries (row_at m q).entries (e ∙ sym (wide-row_at m q hq.room)) ∙ e

pub overflow_add-from : goal.overflow_add-from
overflow_add-from c = let z = c.args in read-sum_fits z.from.now z.p z.q z.v c.requires.1 c.requires.2 c.requires.3

pub returns-then-within_limit : goal.returns-then-within_limit
returns-then-within_limit c =
    let z = c.args in
    let k = c.requires in
    let r = added (row_at z.from.now z.p) (row_at z.from.now z.q) in
    let is : c.added-sum.result ≡ r = rw (c.read.ensures, c.read-2.ensures) at c.added-sum.ensures in
    let back : row_at c.write.new.s 0 ≡ r = rw (c.write.ensures, is) (row_back r _ (sum_wide z.from.now z.p z.q z.v k.1 k.2 k.3)) in
    let one : has_one r ≡ true = rw is at (sym c.has_one.ensures ∙ c.if-has_one.true) in
    let small : all_small r.entries ≡ true = rw is at (sym c.within_limit.ensures ∙ c.if-within_limit.true) in
    rw (alike z.from.now z.p z.q z.v k.1 k.2 k.3 k.4 c.if-from-p-ne0.false ∙ has_one-limited r one ∙ limited-kept r small) (rw back at c.put_row.ensures)

pub returns-then-has_one : goal.returns-then-has_one
returns-then-has_one c =
    let z = c.args in
    let k = c.requires in
    let r = added (row_at z.from.now z.p) (row_at z.from.now z.q) in
    let is : c.added-sum.result ≡ r = rw (c.read.ensures, c.read-2.ensures) at c.added-sum.ensures in
    let one : has_one r ≡ true = rw is at (sym c.has_one.ensures ∙ c.if-has_one.true) in
    let large : all_small r.entries ≡ false = rw is at (sym c.within_limit.ensures ∙ c.if-within_limit.false) in
    rw (alike z.from.now z.p z.q z.v k.1 k.2 k.3 k.4 c.if-from-p-ne0.false ∙ has_one-limited r one ∙ limited_large r large) (put_large z.to.now z.c (row_at z.from.now z.p) TooLarge refl)

pub returns : goal.returns
returns c =
    let z = c.args in
    let k = c.requires in
    let r = added (row_at z.from.now z.p) (row_at z.from.now z.q) in
    let is : c.added-sum.result ≡ r = rw (c.read.ensures, c.read-2.ensures) at c.added-sum.ensures in
    let back : row_at c.divided_into-fate.new.to 0 ≡ (divided_down r).row =
    rw (c.divided_into-fate.ensures.to_after, is) (row_back (divided_down r).row [] (settled_wide r (sum_wide z.from.now z.p z.q z.v k.1 k.2 k.3))) in
    rw (alike z.from.now z.p z.q z.v k.1 k.2 k.3 k.4 c.if-from-p-ne0.false) (rw (back, c.divided_into-fate.ensures.value, is) at c.put_settled.ensures)
