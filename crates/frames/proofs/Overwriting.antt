-- Characters written into a store from a place on, one after the other. Assumes nothing.
use mathlib.Core.Path.{◌≡◌, refl, sym, ap, ◌∙◌}
use mathlib.Core.List.{List, [], ◌∷◌, ◌++◌, append_assoc, append-nil}
use mathlib.Core.Bool.{Bool, true, false, cond, not}
use Rattle.std.specs.List.{filter}
use Prim.Native.Nat.{ℕ, suc, ◌+◌, ◌*◌, ◌/◌, ◌%◌, ◌^◌, ◌≤◌, ◌<◌}
use native.Mathlib.Omega.{arith}
use native.Mathlib.Numerals.{add-one}
use lib.IntN.{ℤ, pos, negsuc}
use lib.Signed.{mag}
use mir.Syntax.{w32}
use Rattle.std.specs.Int.{bytes_high_first}
use mir.Val.{to_z, of_z}
use mir.Facts.{to_z-of_z}
use Rattle.integers.specs.Signs.{is_zero}
use Rattle.integers.proofs.Bounds.{bits-zero, zero_bits}
use Rattle.integers.proofs.Loops.{drop_turn, drop-done}
use lib.ListN.{length, get_or, take, drop, set, length-append, length-drop, length-set, take-append-drop}
use lib.Seq.{length-take-le, take_at, drop-append-add, drop-drop, set_split, append_snoc}
use Rattle.rows.specs.declared.Row.{Row}
use Rattle.frames.specs.Hex.{digit_of, digits_of, line_of, big_endian, pattern}
use Rattle.frames.specs.declared.answers.Out.{Out}
use Rattle.frames.specs.Writing.{over, Wrote, Room, Put, term_bytes, terms_of, term_number, row_head, row_bytes}

module _ (cs : List ℕ) (at : ℕ) (to : List ℕ) (room : at + length cs ≤ length to) where
  front_length : length (take at to ++ cs) ≡ at + length cs
  front_length = rw (length-append, length-take-le at to (omega arith))

  pub over_two : (ds : List ℕ) → over ds (at + length cs) (over cs at to) ≡ over (cs ++ ds) at to
  over_two ds =
      let n = at + length cs in
      let a = take at to ++ cs in
      let q = drop n to in
      let rest : drop (n + length ds) (a ++ q) ≡ drop (n + length ds) to =
      ap (λ (k : ℕ). drop (k + length ds) (a ++ q)) (sym front_length) ∙ drop-append-add a q (length ds) ∙ drop-drop (length ds) n to in
      rw (take_at a q n front_length, rest, append_assoc (take at to) cs ds, length-append cs ds) (ap (λ (k : ℕ). (take at to ++ (cs ++ ds)) ++ drop k to) (plus at (length cs) (length ds)))
    where
      plus : (a b c : ℕ) → a + b + c ≡ a + (b + c)
      plus a b c = omega arith

pub over_none : (at : ℕ) (to : List ℕ) → over [] at to ≡ to
over_none at to = let e : at + 0 ≡ at = omega arith in rw (e, append-nil) (take-append-drop at to)

pub wrote_none : (at : ℕ) (to : List ℕ) → Wrote [] at to to at
wrote_none at to = record { place = plus_none at; long = refl; store = sym (over_none at to) }
  where
    plus_none : (a : ℕ) → a ≡ a + 0
    plus_none a = omega arith

-- one character is a store
pub over-one : (at : ℕ) (to : List ℕ) (x : ℕ) → at < length to → set to at x ≡ over (x ∷ []) at to
over-one at to x h = set_split to at x h ∙ (rw add-one (sym (append_snoc (take at to) x (drop (suc at) to))))

pub two_stores : (at : ℕ) (to : List ℕ) (x y : ℕ) → at + 2 ≤ length to → set (set to at x) (at + 1) y ≡ over (x ∷ y ∷ []) at to
two_stores at to x y h =
    over-one (at + 1) (set to at x) y (rw length-set (omega arith)) ∙
    (rw (over-one at to x (omega arith)) (over_two (x ∷ []) at to (omega arith) (y ∷ [])))

pub wrote_byte : (at : ℕ) (to : List ℕ) (b x y : ℕ) → at + 2 ≤ length to → x ≡ digit_of (b / 16) → y ≡ digit_of (b % 16) → Wrote (digits_of (b ∷ [])) at to (set (set to at x) (at + 1) y) (at + 2)
unfolding digits_of
wrote_byte at to b x y h e f = record { place = refl; long = simp length-set; store = rw (← e, ← f) (two_stores at to x y h) }

-- ---- bytes one after the other
pub digits_then : (bs cs : List ℕ) → digits_of (bs ++ cs) ≡ digits_of bs ++ digits_of cs
unfolding digits_of
digits_then [] cs = refl
digits_then (b ∷ bs) cs = ap (λ (t : List ℕ). digit_of (b / 16) ∷ digit_of (b % 16) ∷ t) (digits_then bs cs)

pub digits_length : (bs : List ℕ) → length (digits_of bs) ≡ length bs * 2
unfolding digits_of
digits_length [] = refl
digits_length (b ∷ bs) = ap (λ (n : ℕ). suc (suc n)) (digits_length bs) ∙ twice (length bs)
  where
    twice : (n : ℕ) → suc (suc (n * 2)) ≡ suc n * 2
    twice n = omega arith

-- two bytes, and four as twice two
pub two_bytes : (n : ℕ) → digits_of (big_endian 2 n) ≡ digits_of (n / 256 % 256 ∷ []) ++ digits_of (n % 256 ∷ [])
unfolding big_endian digits_of
two_bytes n = refl

pub four_bytes : (n : ℕ) → digits_of (big_endian 4 n) ≡ digits_of (big_endian 2 (n / 256 / 256)) ++ digits_of (big_endian 2 n)
unfolding big_endian digits_of
four_bytes n = refl

-- ---- numbers as std has their bytes
pub big_four : (n : ℕ) → length (big_endian 4 n) ≡ 4
unfolding big_endian
big_four n = refl

pub big_endian-two : (n : ℕ) → big_endian 2 n ≡ n / 256 % 256 ∷ n % 256 ∷ []
unfolding big_endian
big_endian-two n = refl

pub big_endian-four : (n : ℕ) → big_endian 4 n ≡ n / 16777216 % 256 ∷ n / 65536 % 256 ∷ n / 256 % 256 ∷ n % 256 ∷ []
unfolding big_endian
big_endian-four n =
    let a : n / 256 / 256 / 256 ≡ n / 16777216 = omega arith in
    let b : n / 256 / 256 ≡ n / 65536 = omega arith in
    rw (a, b)

pattern-is : (z : ℤ) → of_z w32 z ≡ pattern z
pattern-is (pos n) = refl
pattern-is (negsuc n) = refl

-- ---- a term
module _ (i : ℕ) (z : ℤ) (fits : mag z < 2 ^ 31) where
  pub no_term : of_z w32 z ≡ 0 → digits_of (term_bytes i z) ≡ []
  unfolding digits_of
  no_term e = rw (bits-zero w32 z fits e)

  pub term-is : (of_z w32 z ≡ 0 → ⊥) → digits_of (term_bytes i z) ≡ digits_of (i ∷ []) ++ digits_of (big_endian 4 (pattern z))
  unfolding digits_of
  term-is e = rw (zero_bits w32 z e)

  pub coefficient-is : (l : List ℕ) → l ≡ bytes_high_first 4 (of_z w32 (to_z w32 (of_z w32 z))) → big_endian 4 (pattern z) ≡ l
  coefficient-is l e = rw (e, to_z-of_z {w = w32} {z = z} (record { sfits = fits }), pattern-is z) (big_endian-four (pattern z))

-- ---- terms one after the other
module _ (l : List ℤ) (i : ℕ) (h : i < length l) where
  abbrev bytes : List ℕ
  bytes = term_bytes i (get_or l i (pos 0))

  terms_turn : terms_of i (drop i l) ≡ bytes ++ terms_of (i + 1) (drop (i + 1) l)
  unfolding terms_of
  terms_turn = rw (drop_turn l i (pos 0) h, add-one)

  pub terms_digits : digits_of (terms_of i (drop i l)) ≡ digits_of bytes ++ digits_of (terms_of (i + 1) (drop (i + 1) l))
  terms_digits = ap digits_of terms_turn ∙ digits_then bytes (terms_of (i + 1) (drop (i + 1) l))

pub terms-done : (l : List ℤ) (i : ℕ) → length l ≤ i → terms_of i (drop i l) ≡ []
unfolding terms_of
terms-done l i h = rw (drop-done l i h)

-- what is still to be written, over the store as it is, is what all of it is over the first one
pub record Going (cs : List ℕ) (at : ℕ) (to₀ ds : List ℕ) (next : ℕ) (to : List ℕ) : Type 0 where
  pub long : length to ≡ length to₀
  pub place : next + length ds ≡ at + length cs
  pub store : over ds next to ≡ over cs at to₀

pub going_first : (cs : List ℕ) (at : ℕ) (to : List ℕ) → Going cs at to cs at to
going_first cs at to = record { long = refl; place = refl; store = refl }

pub going_on : (cs : List ℕ) (at : ℕ) (to₀ xs ds : List ℕ) (next next' : ℕ) (to to' : List ℕ) → at + length cs ≤ length to₀ → Going cs at to₀ (xs ++ ds) next to → Wrote xs next to to' next' → Going cs at to₀ ds next' to'
going_on cs at to₀ xs ds next next' to to' room g w =
    let n = length-append xs ds in
    record {
      long = w.long ∙ g.long;
      place = omega (arith, w.place, g.place);
      store = rw (w.place, w.store) (over_two xs next to (omega (arith, g.place, g.long)) ds) ∙ g.store;
    }

pub going_end : (cs : List ℕ) (at : ℕ) (to₀ : List ℕ) (next : ℕ) (to : List ℕ) → Going cs at to₀ [] next to → Wrote cs at to₀ to next
going_end cs at to₀ next to g = record { place = omega (arith, g.place); long = g.long; store = sym (over_none next to) ∙ g.store }

-- the same of the store that the code writes to
pub record PutOn (cs ds : List ℕ) (o₀ o : Out) : Type 0 where
  pub same : o.to.ghost_name ≡ o₀.to.ghost_name
  pub going : Going cs o₀.at o₀.to.now ds o.at o.to.now

put-first : (cs : List ℕ) (o : Out) → PutOn cs cs o o
put-first cs o = record { same = refl; going = going_first cs o.at o.to.now }

-- the parts that all of it is made of
pub put-begins : (cs ds : List ℕ) → cs ≡ ds → (o : Out) → PutOn cs ds o o
put-begins cs ds e o = rw (← e) (put-first cs o)

-- nothing to write
pub put-none : (cs : List ℕ) → cs ≡ [] → (o : Out) → Put cs o o
put-none cs e o = rw e (record { same = refl; wrote = wrote_none o.at o.to.now })

pub put-done : (cs : List ℕ) (o₀ o : Out) → PutOn cs [] o₀ o → Put cs o₀ o
put-done cs o₀ o p = record { same = p.same; wrote = going_end cs o₀.at o₀.to.now o.at o.to.now p.going }

module _ (cs xs ds : List ℕ) (o₀ o : Out) (p : PutOn cs (xs ++ ds) o₀ o) (room : Room cs o₀) where
  pub put-fits : Room xs o
  put-fits = omega (arith, p.going.place, p.going.long, length-append xs ds)

  pub put-next : (o' : Out) → Put xs o o' → PutOn cs ds o₀ o'
  put-next o' q = record { same = q.same ∙ p.same; going = going_on cs o₀.at o₀.to.now xs ds o.at o'.at o.to.now o'.to.now room p.going q.wrote }

module _ (cs xs : List ℕ) (o₀ o : Out) (p : PutOn cs xs o₀ o) (room : Room cs o₀) where
  pub last-fits : Room xs o
  last-fits = omega (arith, p.going.place, p.going.long)

  pub put-last : (o' : Out) → Put xs o o' → Put cs o₀ o'
  put-last o' q = put-done cs o₀ o' (put-next cs xs [] o₀ o (rw (append-nil xs) p) room o' q)

-- bytes put one after the other
module _ (bs : List ℕ) (i : ℕ) (h : i < length bs) where
  digits-turn : digits_of (drop i bs) ≡ digits_of (get_or bs i 0 ∷ []) ++ digits_of (drop (i + 1) bs)
  unfolding digits_of
  digits-turn = rw (drop_turn bs i 0 h)

  module _ (cs : List ℕ) (at : ℕ) (to₀ : List ℕ) (next : ℕ) (to : List ℕ) (g : Going cs at to₀ (digits_of (drop i bs)) next to) (room : at + length cs ≤ length to₀) where
    pub byte_room : next + 2 ≤ length to
    byte_room = omega (arith, g.place, g.long, digits_length (drop i bs), length-drop i bs)

    pub byte-put : (x y : ℕ) → x ≡ digit_of (get_or bs i 0 / 16) → y ≡ digit_of (get_or bs i 0 % 16) → Going cs at to₀ (digits_of (drop (i + 1) bs)) (next + 2) (set (set to next x) (next + 1) y)
    byte-put x y e f = going_on cs at to₀ (digits_of (get_or bs i 0 ∷ [])) (digits_of (drop (i + 1) bs)) next _ to _ room (rw digits-turn at g) (wrote_byte next to (get_or bs i 0) x y byte_room e f)

pub digits-done : (bs : List ℕ) (i : ℕ) → length bs ≤ i → digits_of (drop i bs) ≡ []
unfolding digits_of
digits-done bs i h = rw (drop-done bs i h)

-- ---- terms counted
pub terms-counted : (l : List ℤ) → length (filter (λ z. not (is_zero z)) l) ≡ term_number l
unfolding term_number
terms-counted [] = refl
terms-counted (z ∷ l) = go (is_zero z) (terms-counted l)
  where
    go : (b : Bool) → length (filter (λ z. not (is_zero z)) l) ≡ term_number l → length (cond (not b) (z ∷ filter (λ z. not (is_zero z)) l) (filter (λ z. not (is_zero z)) l)) ≡ cond b (term_number l) (suc (term_number l))
    go true e = e
    go false e = ap suc e

pub terms-few : (l : List ℤ) → term_number l ≤ length l
unfolding term_number
terms-few [] = omega arith
terms-few (z ∷ l) = go (is_zero z) (terms-few l)
  where
    go : (b : Bool) → term_number l ≤ length l → cond b (term_number l) (suc (term_number l)) ≤ suc (length l)
    go true h = omega arith
    go false h = omega arith

-- ---- the line of a row
pub row_digits : (r : Row) → line_of (row_bytes r) ≡ (digits_of (row_head r.strict (term_number r.entries)) ++ digits_of (terms_of 0 r.entries)) ++ (10 ∷ [])
unfolding line_of row_bytes
row_digits r = ap (λ (t : List ℕ). t ++ (10 ∷ [])) (digits_then (row_head r.strict (term_number r.entries)) (terms_of 0 r.entries))

terms-length : (l : List ℤ) (i : ℕ) → length (terms_of i l) ≡ term_number l * 5
unfolding terms_of term_number
terms-length [] i = refl
terms-length (z ∷ l) i = rw length-append (go (is_zero z) (terms-length l (suc i)))
  where
    go : (b : Bool) → length (terms_of (suc i) l) ≡ term_number l * 5 → length (cond b [] (i ∷ big_endian 4 (pattern z))) + length (terms_of (suc i) l) ≡ cond b (term_number l) (suc (term_number l)) * 5
    go true e = omega arith
    go false e = omega (arith, big_four (pattern z))

pub line-length : (r : Row) → length (line_of (row_bytes r)) ≡ term_number r.entries * 10 + 11
line-length r =
    let t = terms_of 0 r.entries in
    let h = row_head r.strict (term_number r.entries) in
    ap length (row_digits r) ∙ (rw (length-append (digits_of h ++ digits_of t), length-append (digits_of h), digits_length h, digits_length t, terms-length r.entries 0) (omega arith))
