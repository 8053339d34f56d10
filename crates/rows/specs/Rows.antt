-- Rows (rules, "Rows and sets"). A row is the code's own struct: its entries as a list of whole numbers, and the strict flag.
-- Definitions hold for any number of entries; the code's rows have 16.
use Rattle.std.specs.Prelude.{Bool, true, false, not, cond, ◌&&◌, ◌||◌, List, [], ◌∷◌, ◌++◌, map, ℕ, ◌+◌, ◌*◌, eqb, get_or, take, drop, replicate, ℤ, pos, negsuc, neg_ℤ, nat_abs, ◌+ℤ◌, ◌*ℤ◌, ◌≤ℤ◌, ◌<ℤ◌}
use Rattle.std.specs.Int.Signed.{quot_z, lt_z, le_z}
pub use Rattle.entries.specs.Entries.{entry_count, at, Within, Small, gcd_from, or_one}
unfoldable pub use Rattle.entries.specs.Entries.{with_entry, divisor, all_small, all_zero, has_unit, plus, times}
use Rattle.rows.specs.declared.Row.{Row}
use Rattle.rows.specs.declared.Fate.TheVariants.{Kept, Gone, TooLarge}
use Rattle.rows.specs.declared.Settled.{Settled}
use Rattle.std.specs.declared.cmp.Ordering.{Ordering}
use Rattle.std.specs.Ordering.{ordering_then, is_eq, int_cmp, bool_cmp}
use Rattle.std.specs.Cmp.Lexicographic.{slice_cmp}
use Rattle.rows.specs.declared.Clock.{Clock}
use Rattle.rows.specs.declared.Parameter.{Parameter}

-- ---- sizes: 16 entries; 17 numbers a row; 128 rows and so 2,176 numbers a set
abbrev pub row_numbers : ℕ
row_numbers = entry_count + 1

abbrev pub set_rows : ℕ
set_rows = 128

abbrev pub set_numbers : ℕ
set_numbers = set_rows * row_numbers

-- ---- entries: 0 the constant, 1 to 8 the parameters, 9 to 14 the clocks, 15 the delay
abbrev pub parameter_entry : Parameter → ℕ
parameter_entry p = p.0

abbrev pub clock_entry : Clock → ℕ
clock_entry c = 8 + c.0

abbrev pub delay_entry : ℕ
delay_entry = 15

abbrev pub empty_row : Row
empty_row = record { entries = replicate entry_count (pos 0); strict = false }

-- z times variable v is ≤ 0
abbrev pub single : ℕ → ℤ → Row
single v z = record { entries = with_entry v z (replicate entry_count (pos 0)); strict = false }

-- the single form of what is false: 1 ≤ 0
abbrev pub false_row : Row
false_row = single 0 (pos 1)

-- ---- what a row says: constant plus the sum of entry times variable is ≤ 0, or < 0 if strict.
-- A point is a list of whole numbers: a denominator above zero, then a numerator for each variable. At a point the sum is
-- multiplied by the denominator, which changes no sign.
unfoldable pub dot : List ℤ → List ℤ → ℤ
dot [] p = pos 0
dot (a ∷ l) [] = pos 0
dot (a ∷ l) (x ∷ p) = a *ℤ x +ℤ dot l p

-- ≤ 0, or < 0 if strict: as a statement, and as a test
abbrev pub Under : Bool → ℤ → Type 0
Under true z = z <ℤ pos 0
Under false z = z ≤ℤ pos 0

abbrev pub under : Bool → ℤ → Bool
under true z = lt_z z (pos 0)
under false z = le_z z (pos 0)

abbrev pub Holds : List ℤ → Row → Type 0
Holds p r = Under r.strict (dot r.entries p)

abbrev pub holds_at : List ℤ → Row → Bool
holds_at p r = under r.strict (dot r.entries p)

-- ---- negation turns every sign and exchanges ≤ and <
abbrev pub negated : Row → Row
negated r = record { entries = map neg_ℤ r.entries; strict = not r.strict }

-- ---- dividing down
unfoldable pub divided : Row → Row
divided r = record { entries = map (λ z. quot_z z (pos (divisor r.entries))) r.entries; strict = r.strict }

-- what comes of a row: it is kept, or gone, or has an entry too large (9); the last two carry the empty row
abbrev pub kept : Row → Settled
kept r = record { row = r; fate = Kept }

abbrev pub gone : Settled
gone = record { row = empty_row; fate = Gone }

abbrev pub too_large : Settled
too_large = record { row = empty_row; fate = TooLarge }

-- no entry beyond the limit, or 9
unfoldable pub limited : Row → Settled
limited r = cond (all_small r.entries) (kept r) too_large

-- without variables: true is gone, false is 1 ≤ 0
unfoldable pub constant : Row → Settled
constant r = cond (under r.strict (at r.entries 0)) gone (kept false_row)

unfoldable pub divided_down : Row → Settled
divided_down r = cond (all_zero (drop 1 r.entries)) (constant r) (limited (divided r))

-- ---- pairing: b times the first plus a times the second, strict if either was; a is entry v of the first, −b that of the second
abbrev pub paired : ℕ → Row → Row → Row
paired v r s = record {
  entries = plus (times (neg_ℤ (at s.entries v)) r.entries) (times (at r.entries v) s.entries);
  strict = r.strict || s.strict;
}

-- the plain sum of two rows: what a pair is a multiple of where its two multipliers are equal
abbrev pub added : Row → Row → Row
added r s = record { entries = plus r.entries s.entries; strict = r.strict || s.strict }

-- an entry is 1 or −1 and the constant is not, so a variable has it: then the row is divided down already
unfoldable pub has_one : Row → Bool
has_one r = has_unit r.entries && not (eqb (nat_abs (at r.entries 0)) 1)

-- ---- the order of rows: entries 0 to 15 as signed numbers, then non-strict before strict
abbrev pub then_by : Ordering → Ordering → Ordering
then_by = ordering_then

abbrev pub is_same : Ordering → Bool
is_same = is_eq

abbrev pub number_order : ℤ → ℤ → Ordering
number_order = int_cmp

unfoldable pub entry_order : List ℤ → List ℤ → Ordering
entry_order = slice_cmp number_order

abbrev pub flag_order : Bool → Bool → Ordering
flag_order = bool_cmp

unfoldable pub row_order : Row → Row → Ordering
row_order r s = then_by (entry_order r.entries s.entries) (flag_order r.strict s.strict)

-- two rows are the same where neither stands before the other
unfoldable pub same_row : Row → Row → Bool
same_row r s = is_same (row_order r s)

-- ---- a row in a store: its 16 entries, then 1 for strict, else 0
abbrev pub flag : Bool → ℤ
flag false = pos 0
flag true = pos 1

abbrev pub is_one : ℤ → Bool
is_one (pos n) = eqb n 1
is_one (negsuc n) = false

abbrev pub numbers : Row → List ℤ
numbers r = r.entries ++ flag r.strict ∷ []

-- the row that stands at an offset, and the store with a row written there
abbrev pub row_at : List ℤ → ℕ → Row
row_at s at = record { entries = take entry_count (drop at s); strict = is_one (get_or s (at + entry_count) (pos 0)) }

abbrev pub with_row : List ℤ → ℕ → Row → List ℤ
with_row s at r = take at s ++ numbers r ++ drop (at + row_numbers) s
