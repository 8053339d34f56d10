-- What is written for a region is read back: its lines, the bytes of each line, and from them a row's entries and its flag. Assumes nothing.
use mathlib.Core.Path.{◌≡◌, refl, sym, ap, ◌∙◌}
use mathlib.Core.Bool.{Bool, true, false, cond}
use mathlib.Core.List.{List, [], ◌∷◌, ◌++◌, append_assoc, map}
use Prim.Native.Nat.{ℕ, zero, suc, ◌+◌, ◌-◌, ◌*◌, ◌/◌, ◌%◌, ◌^◌, ◌≤◌, ◌<◌}
use native.Mathlib.Omega.{arith}
use borrow.Author.Tests.{lt-ltb, le-ltb, ltb-true, ltb-false, le-leb, lt-leb, ne_eqb}
use lib.Dec.{ltb, eqb, lit<}
use lib.ListN.{length, drop, replicate, length-append}
use lib.Seq.{get_or-append-add}
use lib.IntN.{ℤ, pos, negsuc, nat_abs}
use Rattle.integers.specs.Lists.{All, nil, cons, from}
use Rattle.integers.specs.Signs.{is_zero}
use Rattle.integers.proofs.Lists.{all_head, all_tail, all_append}
use Rattle.integers.proofs.Tests.{zero_of}
use Rattle.rows.specs.declared.Row.{Row}
use Rattle.rows.specs.Rows.{entry_count, with_entry}
use Rattle.sets.specs.Outcomes.{Ok, and_then}
use Rattle.frames.specs.Hex.{digit, pair, bytes_of, byte, word, signed, Lines, lines, digit_of, digits_of, line_of, big_endian, pattern}
use Rattle.frames.specs.Reading.{term_count, term_entry, term_coefficient, entries_of}
use Rattle.frames.specs.Writing.{term_bytes, terms_of, term_number, flag_byte, row_bytes, row_lines}
use Rattle.frames.proofs.Overwriting.{big_four}

-- ---- digits and bytes
digit_back : (n : ℕ) → n < 16 → digit (digit_of n) ≡ Ok n
unfolding digit
digit_back n h = go (ltb n 10) refl
  where
    low : n < 10 → digit (48 + n) ≡ Ok n
    low k = rw (le-leb 48 (48 + n) (omega arith), le-leb (48 + n) 57 (omega arith)) (ap Ok (omega arith))

    high : 10 ≤ n → digit (55 + n) ≡ Ok n
    high k =
        rw (le-leb 48 (55 + n) (omega arith), lt-leb (55 + n) 57 (omega arith), le-leb 65 (55 + n) (omega arith), le-leb (55 + n) 70 (omega arith)) (ap Ok (omega arith))

    go : (b : Bool) → ltb n 10 ≡ b → digit (cond b (48 + n) (55 + n)) ≡ Ok n
    go true e = low (ltb-true n 10 e)
    go false e = high (ltb-false n 10 e)

pair_back : (b : ℕ) → b < 256 → pair (digit_of (b / 16)) (digit_of (b % 16)) ≡ Ok b
unfolding pair and_then
pair_back b h = rw (digit_back (b / 16) (omega arith), digit_back (b % 16) (omega arith)) (ap Ok (omega arith))

abbrev pub Byte : ℕ → Type 0
Byte b = b < 256

pub bytes_back : (bs : List ℕ) → All Byte bs → bytes_of (digits_of bs) ≡ Ok bs
unfolding bytes_of digits_of and_then
bytes_back [] a = refl
bytes_back (b ∷ bs) a = rw (pair_back b (all_head a), bytes_back bs (all_tail a))

-- ---- numbers
pub pattern_back : (z : ℤ) → nat_abs z ≤ 1000000000 → signed (pattern z) ≡ z
pattern_back (pos n) h = rw (lt-ltb n (2 ^ 31) (omega arith))
pattern_back (negsuc n) h = rw (le-ltb (2 ^ 32 - suc n) (2 ^ 31) (omega arith)) (ap negsuc (omega arith))

pattern-fits : (z : ℤ) → nat_abs z ≤ 1000000000 → pattern z < 2 ^ 32
pattern-fits (pos n) h = omega arith
pattern-fits (negsuc n) h = omega arith

four_back : (n : ℕ) → n < 2 ^ 32 → ((n / 256 / 256 / 256 % 256 * 256 + n / 256 / 256 % 256) * 256 + n / 256 % 256) * 256 + n % 256 ≡ n
four_back n h = omega arith

-- ---- a term that stands behind so many bytes
module _ (p : List ℕ) (k i : ℕ) (z : ℤ) (rest : List ℕ) (size : length p ≡ 4 + k * 5) (small : nat_abs z ≤ 1000000000) where
  abbrev all : List ℕ
  all = p ++ (i ∷ (big_endian 4 (pattern z) ++ rest))

  at_term : (j : ℕ) → byte all (4 + k * 5 + j) ≡ byte (i ∷ (big_endian 4 (pattern z) ++ rest)) j
  at_term j = rw (← size) (get_or-append-add p (i ∷ (big_endian 4 (pattern z) ++ rest)) j 0)

  entry_back : term_entry all k ≡ i
  entry_back = let e : 4 + k * 5 ≡ 4 + k * 5 + 0 = omega arith in rw e (at_term 0)

  coefficient_back : term_coefficient all k ≡ z
  unfolding word big_endian
  coefficient_back =
      let n = pattern z in
      let a : 5 + k * 5 ≡ 4 + k * 5 + 1 = omega arith in
      let b : 4 + k * 5 + 1 + 1 ≡ 4 + k * 5 + 2 = omega arith in
      let c : 4 + k * 5 + 1 + 2 ≡ 4 + k * 5 + 3 = omega arith in
      let d : 4 + k * 5 + 1 + 3 ≡ 4 + k * 5 + 4 = omega arith in
      rw (a, b, c, d, at_term 1, at_term 2, at_term 3, at_term 4, four_back n (pattern-fits z small)) (pattern_back z small)

-- zeros, then the entries from number i on
pub put-entry : (i : ℕ) (z : ℤ) (l : List ℤ) → with_entry i z (replicate (suc i) (pos 0) ++ l) ≡ replicate i (pos 0) ++ (z ∷ l)
unfolding with_entry
put-entry zero z l = refl
put-entry (suc i) z l = ap (λ (t : List ℤ). pos 0 ∷ t) (put-entry i z l)

zeros-more : (i : ℕ) (l : List ℤ) → replicate (suc i) (pos 0) ++ l ≡ replicate i (pos 0) ++ (pos 0 ∷ l)
zeros-more zero l = refl
zeros-more (suc i) l = ap (λ (t : List ℤ). pos 0 ∷ t) (zeros-more i l)

abbrev Limited : ℤ → Type 0
Limited z = nat_abs z ≤ 1000000000

-- what is said of the terms of the entries from number i on, behind k terms
abbrev Back : List ℤ → ℕ → Type 0
Back l i = (p : List ℕ) (k : ℕ) → length p ≡ 4 + k * 5 → entries_of (p ++ terms_of i l) (from k (term_number l)) ≡ replicate i (pos 0) ++ l

module _ (z : ℤ) (l : List ℤ) (i : ℕ) (small : Limited z) (back : Back l (suc i)) (p : List ℕ) (k : ℕ) (size : length p ≡ 4 + k * 5) where
  none : is_zero z ≡ true → entries_of (p ++ terms_of (suc i) l) (from k (term_number l)) ≡ replicate i (pos 0) ++ (z ∷ l)
  none e = rw (zero_of z e) (back p k size ∙ zeros-more i l)

  some : entries_of (p ++ (i ∷ (big_endian 4 (pattern z) ++ terms_of (suc i) l))) (k ∷ from (suc k) (term_number l)) ≡ replicate i (pos 0) ++ (z ∷ l)
  unfolding entries_of
  some =
      let t = terms_of (suc i) l in
      let q = p ++ (i ∷ big_endian 4 (pattern z)) in
      let size-more : length q ≡ 4 + suc k * 5 = rw (length-append, size) (omega (arith, big_four (pattern z))) in
      let rest : entries_of (p ++ (i ∷ (big_endian 4 (pattern z) ++ t))) (from (suc k) (term_number l)) ≡ replicate (suc i) (pos 0) ++ l =
      ap (λ (b : List ℕ). entries_of b (from (suc k) (term_number l))) (sym (append_assoc p (i ∷ big_endian 4 (pattern z)) t)) ∙ back q (suc k) size-more in
      rw (entry_back p k i z t size small, coefficient_back p k i z t size small, rest) (put-entry i z l)

  turn : (b : Bool) → is_zero z ≡ b →
      entries_of (p ++ (cond b [] (i ∷ big_endian 4 (pattern z)) ++ terms_of (suc i) l)) (from k (cond b (term_number l) (suc (term_number l)))) ≡ replicate i (pos 0) ++ (z ∷ l)
  turn true e = none e
  turn false e = some

terms_back : (l : List ℤ) (i : ℕ) → i + length l ≡ entry_count → All Limited l → Back l i
unfolding terms_of term_number entries_of
terms_back [] i whole a p k size = let e : i ≡ entry_count = omega arith in rw e
terms_back (z ∷ l) i whole a p k size = turn z l i (all_head a) (terms_back l (suc i) (omega arith) (all_tail a)) p k size (is_zero z) refl

-- ---- a row of sixteen entries within the limit: the bytes behind the kind give its entries and its flag
pub row_back : (r : Row) → length r.entries ≡ entry_count → All Limited r.entries →
    entries_of (drop 1 (row_bytes r)) (from 0 (term_count (drop 1 (row_bytes r)))) ≡ r.entries
unfolding row_bytes
row_back r size a = terms_back r.entries 0 (omega arith) a (0 ∷ 0 ∷ flag_byte r.strict ∷ term_number r.entries ∷ []) 0 refl

pub flag_back : (r : Row) → eqb (byte (drop 1 (row_bytes r)) 2) 1 ≡ r.strict
unfolding row_bytes
flag_back r = go r.strict
  where
    go : (b : Bool) → eqb (cond b 1 0) 1 ≡ b
    go true = refl
    go false = refl

-- its bytes are bytes, and its line gives them back
big_bytes : (n : ℕ) → All Byte (big_endian 4 n)
unfolding big_endian
big_bytes n = cons (low (n / 256 / 256 / 256)) (cons (low (n / 256 / 256)) (cons (low (n / 256)) (cons (low n) nil)))
  where
    low : (m : ℕ) → Byte (m % 256)
    low m = omega arith

terms-bytes : (l : List ℤ) (i : ℕ) → i + length l ≤ 256 → All Byte (terms_of i l)
unfolding terms_of
terms-bytes [] i h = nil
terms-bytes (z ∷ l) i h = (all_append (term_bytes i z) (terms_of (suc i) l)).1 (one (is_zero z), terms-bytes l (suc i) (omega arith))
  where
    one : (b : Bool) → All Byte (cond b [] (i ∷ big_endian 4 (pattern z)))
    one true = nil
    one false = let h : Byte i = omega arith in cons h (big_bytes (pattern z))

count_small : (l : List ℤ) → term_number l ≤ length l
unfolding term_number
count_small [] = omega arith
count_small (z ∷ l) = go (is_zero z) (count_small l)
  where
    go : (b : Bool) → term_number l ≤ length l → cond b (term_number l) (suc (term_number l)) ≤ suc (length l)
    go true h = omega arith
    go false h = omega arith

row-all-bytes : (r : Row) → length r.entries ≡ entry_count → All Byte (row_bytes r)
unfolding row_bytes
row-all-bytes r size =
    let n : Byte (term_number r.entries) = omega (arith, count_small r.entries) in
    cons (lit< tt) (cons (lit< tt) (cons (lit< tt) (cons (flag_small r.strict) (cons n (terms-bytes r.entries 0 (omega arith))))))
  where
    flag_small : (b : Bool) → Byte (cond b 1 0)
    flag_small true = omega arith
    flag_small false = omega arith

pub line_back : (r : Row) → length r.entries ≡ entry_count → bytes_of (digits_of (row_bytes r)) ≡ Ok (row_bytes r)
line_back r size = bytes_back (row_bytes r) (row-all-bytes r size)

-- ---- the lines of a region: no digit is an LF, so the reader finds a line for each row, in order, and nothing behind the last
no_end : (n : ℕ) → n < 16 → eqb (digit_of n) 10 ≡ false
no_end n h = go (ltb n 10)
  where
    go : (b : Bool) → eqb (cond b (48 + n) (55 + n)) 10 ≡ false
    go true = ne_eqb (48 + n) 10 (omega arith)
    go false = ne_eqb (55 + n) 10 (omega arith)

abbrev first_line : List ℕ → Lines → Lines
first_line l x = record { ended = l ∷ x.ended; left = x.left }

split_off : (bs rest : List ℕ) → All Byte bs → lines (line_of bs ++ rest) ≡ first_line (digits_of bs) (lines rest)
unfolding lines line_of digits_of
split_off [] rest a = refl
split_off (b ∷ bs) rest a =
    let h : b < 256 = all_head a in
    rw (no_end (b / 16) (omega arith), no_end (b % 16) (omega arith), split_off bs rest (all_tail a))

abbrev region_lines : List Row → Lines
region_lines rs = record { ended = map (λ r. digits_of (row_bytes r)) rs; left = [] }

pub lines_back : (rs : List Row) → All (λ r. length r.entries ≡ entry_count) rs → lines (row_lines rs) ≡ region_lines rs
unfolding row_lines lines
lines_back [] a = refl
lines_back (r ∷ rs) a = split_off (row_bytes r) (row_lines rs) (row-all-bytes r (all_head a)) ∙ ap (first_line (digits_of (row_bytes r))) (lines_back rs (all_tail a))
