-- Two numbers, and two rows, told apart by what differs. Assumes nothing.
use mathlib.Core.Path.{◌≡◌, refl, sym, ap}
use mathlib.Core.Bool.{Bool, true, false, cond, beq}
use mathlib.Core.Logic.{◌≢◌}
use Prim.Native.Nat.{ℕ}
use lib.ListN.{get_or}
use lib.IntN.{ℤ, pos}
use lib.Signed.{◌≤ℤ◌, lt_z, lt_z_no}
use Rattle.integers.proofs.Tests.{false_of}
use Rattle.integers.proofs.Whole.{zed}
use Rattle.std.specs.declared.cmp.Ordering.TheVariants.{Equal, Greater}
use Rattle.rows.specs.declared.Row.{Row}
use Rattle.rows.specs.Rows.{number_order, row_order, same_row}
use Rattle.rows.proofs.Ordering.{entries_itself, flags-alike, same_row-is}

-- two numbers that differ, the first not below the second
pub number-after : (x y : ℤ) → x ≢ y → lt_z x y ≡ false → number_order x y ≡ Greater
number-after x y d f = rw f (go (lt_z y x) refl)
  where
    go : (b : Bool) → lt_z y x ≡ b → cond b Greater Equal ≡ Greater
    go true g = refl
    go false g = let a : y ≤ℤ x = lt_z_no (rw f tt) in let b : x ≤ℤ y = lt_z_no (rw g tt) in absurd (d (omega zed))

-- an entry that differs decides it; where none does, the flags
pub other_entry : (r s : Row) (i : ℕ) → get_or r.entries i (pos 0) ≢ get_or s.entries i (pos 0) → false ≡ same_row r s
other_entry r s i f = sym (false_of (same_row r s) (λ t. f (ap (λ (u : Row). get_or u.entries i (pos 0)) (same_row-is r s t))))

pub same_entries : (r s : Row) → r.entries ≡ s.entries → beq r.strict s.strict ≡ same_row r s
unfolding same_row row_order
same_entries r s e = rw (e, entries_itself s.entries) (flags-alike r.strict s.strict)
