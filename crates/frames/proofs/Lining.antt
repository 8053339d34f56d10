-- The lines of the rows of a store, one after the other. Assumes nothing.
use mathlib.Core.Path.{◌≡◌, refl, sym, ap, ◌∙◌}
use mathlib.Core.Bool.{Bool, true, false, cond}
use mathlib.Core.List.{List, [], ◌∷◌, ◌++◌, append_assoc}
use Prim.Native.Nat.{ℕ, zero, suc, ◌+◌, ◌-◌, ◌*◌, ◌≤◌, ◌<◌}
use native.Mathlib.Omega.{arith}
use borrow.Author.Tests.{le-leb, lt-leb}
use lib.ListN.{length, take, drop, length-append}
use lib.IntN.{ℤ}
use Rattle.std.specs.Prelude.{Some, None}
use Rattle.rows.specs.declared.Row.{Row}
use Rattle.rows.specs.Rows.{row_numbers, row_at}
use Rattle.sets.specs.Stores.{rows_at}
use Rattle.sets.specs.Outcomes.{Outcome, outcome_number}
use Rattle.frames.specs.Hex.{digits_of, line_of, big_endian}
use Rattle.frames.specs.declared.answers.Out.{Out}
use Rattle.frames.specs.Writing.{Room, Put, terms_of, term_number, row_head, row_bytes, row_lines, count_bytes, answer_bytes, answer_lines, WrittenIs}
use Rattle.std.specs.Int.{bytes_high_first, from_bool}
use Rattle.frames.proofs.Overwriting.{row_digits, big_endian-two, big_endian-four, PutOn, put-begins, put-fits, put-next, last-fits}

module _ (s : List ℤ) (n i : ℕ) where
  -- the rows from number i on
  abbrev pub from_row : List Row
  from_row = rows_at s (i * row_numbers) (n - i)

  pub lines_turn : i < n → row_lines from_row ≡ line_of (row_bytes (row_at s (i * row_numbers))) ++ row_lines (rows_at s ((i + 1) * row_numbers) (n - (i + 1)))
  unfolding rows_at row_lines
  lines_turn h =
      let a : n - i ≡ suc (n - (i + 1)) = omega arith in
      let b : i * row_numbers + row_numbers ≡ (i + 1) * row_numbers = omega arith in
      rw (a, b)

  pub lines-done : n ≤ i → row_lines from_row ≡ []
  unfolding rows_at row_lines
  lines-done h = let a : n - i ≡ 0 = omega arith in rw a

-- ---- a row in its three parts: the head, the terms, LF
flag-is : (strict : Bool) → from_bool strict ≡ cond strict 1 0
flag-is true = refl
flag-is false = refl

head-is : (strict : Bool) (n b m : ℕ) → b ≡ cond strict 1 0 → m ≡ n → digits_of (row_head strict n) ≡ digits_of (3 ∷ 0 ∷ 0 ∷ b ∷ m ∷ [])
head-is strict n b m e f = rw (e, f)

pub row-parts : (r : Row) (b n : ℕ) → b ≡ from_bool r.strict → n ≡ term_number r.entries → line_of (row_bytes r) ≡ digits_of (3 ∷ 0 ∷ 0 ∷ b ∷ n ∷ []) ++ (digits_of (terms_of 0 r.entries) ++ (10 ∷ []))
row-parts r b n flag number =
    row_digits r ∙ append_assoc (digits_of (row_head r.strict (term_number r.entries))) (digits_of (terms_of 0 r.entries)) (10 ∷ [])
    ∙ ap (λ (h : List ℕ). h ++ (digits_of (terms_of 0 r.entries) ++ (10 ∷ []))) (head-is r.strict (term_number r.entries) b n (flag ∙ flag-is r.strict) number)

-- whatever stands for the flag and the number of terms, the line is as long
module _ (r : Row) (b n : ℕ) where
  abbrev head : List ℕ
  head = 3 ∷ 0 ∷ 0 ∷ b ∷ n ∷ []

  abbrev tail : List ℕ
  tail = digits_of (terms_of 0 r.entries) ++ (10 ∷ [])

  as-long : length (line_of (row_bytes r)) ≡ length (digits_of head ++ tail)
  unfolding digits_of
  as-long = ap length (row-parts r _ _ refl refl)

  module _ (o : Out) (room : Room (line_of (row_bytes r)) o) where
    room-same : Room (digits_of head ++ tail) o
    room-same = omega (arith, as-long)

    begun : PutOn (digits_of head ++ tail) (digits_of head ++ tail) o o
    begun = put-begins _ _ refl o

    pub head-fits : Room (digits_of head) o
    head-fits = put-fits _ (digits_of head) tail o o begun room-same

    module _ (o' : Out) (p : Put (digits_of head) o o') where
      behind-head : PutOn (digits_of head ++ tail) tail o o'
      behind-head = put-next _ (digits_of head) tail o o begun room-same o' p

      pub terms-fit : Room (digits_of (terms_of 0 r.entries)) o'
      terms-fit = put-fits _ (digits_of (terms_of 0 r.entries)) (10 ∷ []) o o' behind-head room-same

      pub end-fits : (o'' : Out) → Put (digits_of (terms_of 0 r.entries)) o' o'' → Room (10 ∷ []) o''
      end-fits o'' q = last-fits _ (10 ∷ []) o o'' (put-next _ (digits_of (terms_of 0 r.entries)) (10 ∷ []) o o' behind-head room-same o'' q) room-same

-- ---- the frame 05
pub answer_digits : (o : Outcome) (a b c n : ℕ) → line_of (answer_bytes o a b c n) ≡
    (((digits_of (5 ∷ []) ++ digits_of (outcome_number o ∷ [])) ++ digits_of (count_bytes a b c)) ++ digits_of (n ∷ [])) ++ (10 ∷ [])
unfolding line_of answer_bytes digits_of big_endian
answer_digits o a b c n = refl

-- the same in the parts that the code writes
pub answer-parts : (o : Outcome) (a b c n : ℕ) → line_of (answer_bytes o a b c n) ≡
    digits_of (5 ∷ outcome_number o ∷ []) ++ (digits_of (big_endian 2 a) ++ (digits_of (big_endian 2 b) ++ (digits_of (big_endian 4 c) ++ (digits_of (n ∷ []) ++ (10 ∷ [])))))
unfolding line_of answer_bytes digits_of big_endian
answer-parts o a b c n = refl

pub answer-length : (o : Outcome) (a b c n : ℕ) → length (line_of (answer_bytes o a b c n)) ≡ 23
unfolding line_of answer_bytes digits_of big_endian
answer-length o a b c n = refl

-- the numbers' bytes as std has them
pub low-two : (l : List ℕ) (m : ℕ) → l ≡ bytes_high_first 8 m → take 2 (drop 6 l) ≡ big_endian 2 m
low-two l m e = rw e (sym (big_endian-two m))

pub low-four : (l : List ℕ) (m : ℕ) → l ≡ bytes_high_first 8 m → take 4 (drop 4 l) ≡ big_endian 4 m
low-four l m e = rw e (sym (big_endian-four m))

pub rows-count : (s : List ℤ) (at n : ℕ) → length (rows_at s at n) ≡ n
unfolding rows_at
rows-count s at zero = refl
rows-count s at (suc n) = ap suc (rows-count s (at + row_numbers) n)

-- ---- the whole answer
module _ (o : Outcome) (a b c : ℕ) (s : List ℤ) (n : ℕ) where
  pub answer-is : answer_lines o a b c (rows_at s 0 n) ≡ line_of (answer_bytes o a b c n) ++ row_lines (rows_at s 0 n)
  unfolding answer_lines
  answer-is = rw (rows-count s 0 n)

  pub answer-long : length (answer_lines o a b c (rows_at s 0 n)) ≡ length (row_lines (rows_at s 0 n)) + 23
  answer-long = ap length answer-is ∙ (rw (length-append, answer-length o a b c n) (omega arith))

pub no_room : (cs to : List ℕ) → length to < length cs → WrittenIs cs to to None
no_room cs to h = let e = lt-leb (length cs) (length to) h in record { count = rw e; store = rw e }

pub all-written : (cs to to' : List ℕ) (o o' : Out) (n : ℕ) → o.at ≡ 0 → o.to.now ≡ to → Room cs o → Put cs o o' → n ≡ o'.at → to' ≡ o'.to.now → WrittenIs cs to to' (Some n)
all-written cs to to' o o' n place store room p count left =
    let w = rw (place, store) at p.wrote in
    let h = rw (place, store) at room in
    let e = le-leb (length cs) (length to) (omega (arith, h)) in
    record { count = rw e (ap Some (count ∙ w.place ∙ zero-plus (length cs))); store = rw e (left ∙ w.store) }
  where
    zero-plus : (k : ℕ) → 0 + k ≡ k
    zero-plus k = omega arith
