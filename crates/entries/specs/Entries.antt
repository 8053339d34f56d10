-- The entries of a row as a list of whole numbers (rules, "Rows and sets"), of any length; the code's have 16.
use Rattle.std.specs.Prelude.{Bool, false, cond, ◌||◌, List, [], ◌∷◌, map, ℕ, zero, suc, ◌≤◌, eqb, leb, get_or, ℤ, pos, negsuc, nat_abs, ◌+ℤ◌, ◌*ℤ◌}
use Rattle.integers.specs.Gcd.{gcd}
use Rattle.integers.specs.Limits.{entry_limit}
use Rattle.integers.specs.Lists.{every}
use Rattle.integers.specs.Signs.{is_zero}

abbrev pub entry_count : ℕ
entry_count = 16

-- an entry; past the end, 0
abbrev pub at : List ℤ → ℕ → ℤ
at l i = get_or l i (pos 0)

-- the entries with z at v; entries between the end and v are 0
unfoldable pub with_entry : ℕ → ℤ → List ℤ → List ℤ
with_entry zero z [] = z ∷ []
with_entry zero z (a ∷ l) = z ∷ l
with_entry (suc v) z [] = pos 0 ∷ with_entry v z []
with_entry (suc v) z (a ∷ l) = a ∷ with_entry v z l

-- each entry is within ±B
abbrev pub Within : ℕ → List ℤ → Type 0
Within B l = (i : ℕ) → nat_abs (at l i) ≤ B

abbrev pub Small : List ℤ → Type 0
Small = Within entry_limit

-- ---- the greatest common divisor of g and all of a list
abbrev pub gcd_from : ℕ → List ℤ → ℕ
gcd_from g [] = g
gcd_from g (z ∷ l) = gcd_from (gcd g (nat_abs z)) l

-- what entries are divided by: 1 where all are 0
abbrev pub or_one : ℕ → ℕ
or_one zero = 1
or_one (suc n) = suc n

unfoldable pub divisor : List ℤ → ℕ
divisor l = or_one (gcd_from 0 l)

-- ---- tests of all entries
unfoldable pub all_small : List ℤ → Bool
all_small l = every (λ z. leb (nat_abs z) entry_limit) l

unfoldable pub all_zero : List ℤ → Bool
all_zero l = every is_zero l

-- two numbers are the same
abbrev pub same : ℤ → ℤ → Bool
same (pos m) (pos n) = eqb m n
same (pos m) (negsuc n) = false
same (negsuc m) (pos n) = false
same (negsuc m) (negsuc n) = eqb m n

-- some entry is x
unfoldable pub has : ℤ → List ℤ → Bool
has x [] = false
has x (z ∷ l) = same z x || has x l

-- some entry has magnitude 1
unfoldable pub has_unit : List ℤ → Bool
has_unit [] = false
has_unit (z ∷ l) = eqb (nat_abs z) 1 || has_unit l

-- every entry is 0, x or −x
unfoldable pub is_level : ℤ → List ℤ → Bool
is_level x l = every (λ z. is_zero z || eqb (nat_abs z) (nat_abs x)) l

-- the first entry that is not 0; 0 where there is none
unfoldable pub first_nonzero : List ℤ → ℤ
first_nonzero [] = pos 0
first_nonzero (z ∷ l) = cond (is_zero z) (first_nonzero l) z

-- ---- sums, entry by entry (a shorter list is filled up with zeros), and multiples
unfoldable pub plus : List ℤ → List ℤ → List ℤ
plus [] m = m
plus (a ∷ l) [] = a ∷ l
plus (a ∷ l) (b ∷ m) = (a +ℤ b) ∷ plus l m

unfoldable pub times : ℤ → List ℤ → List ℤ
times k l = map (λ z. k *ℤ z) l
