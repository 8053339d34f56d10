-- Dividing down and pairing, as the code goes about it. Assumes nothing.
use mathlib.Core.Path.{◌≡◌}
use mathlib.Core.Bool.{Bool, true, false}
use mathlib.Core.List.{List, map}
use Prim.Native.Nat.{ℕ, ◌^◌}
use native.Mathlib.Omega.{arith}
use lib.ListN.{drop}
use lib.IntN.{ℤ, pos, neg_ℤ}
use lib.Signed.{quot_z}
use Rattle.integers.specs.Limits.{entry_limit}
use Rattle.integers.proofs.Bounds.{natAbs_neg, combined_le}
use Rattle.entries.proofs.Sums.{at-plus, at-times}
use Rattle.rows.specs.Rows.{at, under, Within, Small, divisor, divided, kept, gone, too_large, all_small, all_zero, limited, constant, divided_down, false_row, times, paired}
use Rattle.rows.specs.declared.Row.{Row}

-- a pair of two rows of a set stays within 64 bits
pub within-paired : (v : ℕ) (r s : Row) → Small r.entries → Small s.entries → Within (2 ^ 62) (paired v r s).entries
within-paired v r s f g i =
    let a = at r.entries v in
    let b = neg_ℤ (at s.entries v) in
    rw (at-plus (times b r.entries) (times a s.entries) i, at-times b r.entries i, at-times a s.entries i)
    (omega (arith, combined_le entry_limit (at r.entries i) (at s.entries i) a b (f i) (g i) (f v) (rw natAbs_neg (g v))))

-- ---- dividing down, as the code goes about it
module _ (l : List ℤ) (s : Bool) where
  abbrev row : Row
  row = record { entries = l; strict = s }

  pub constant-gone : under s (at l 0) ≡ true → gone ≡ constant row
  unfolding constant
  constant-gone e = rw e

  pub constant-kept : under s (at l 0) ≡ false → kept false_row ≡ constant row
  unfolding constant
  constant-kept e = rw e

  pub down_constant : all_zero (drop 1 l) ≡ true → constant row ≡ divided_down row
  unfolding divided_down
  down_constant e = rw e

  module _ (q : List ℤ) (d : ℕ) (some : all_zero (drop 1 l) ≡ false) (is-d : d ≡ divisor l) (is-q : q ≡ map (λ z. quot_z z (pos d)) l) where
    quotients : q ≡ (divided row).entries
    unfolding divided
    quotients = rw (is-q, is-d)

    pub down_kept : all_small q ≡ true → kept (record { entries = q; strict = s }) ≡ divided_down row
    unfolding divided_down limited divided
    down_kept e = rw (some, ← quotients, e)

    pub down_large : all_small q ≡ false → too_large ≡ divided_down row
    unfolding divided_down limited divided
    down_large e = rw (some, ← quotients, e)
