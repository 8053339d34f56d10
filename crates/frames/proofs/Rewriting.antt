-- What was read, written again, is what was read: the digits of bytes, lines, numbers, terms, frames. Assumes nothing.
use mathlib.Core.Path.{◌≡◌, refl, sym, ap, ◌∙◌}
use mathlib.Core.Bool.{Bool, true, false, not, cond, ◌&&◌}
use mathlib.Core.List.{List, [], ◌∷◌, ◌++◌, map, append_assoc}
use Prim.Native.Nat.{ℕ, zero, suc, ◌+◌, ◌-◌, ◌*◌, ◌/◌, ◌%◌, ◌^◌, ◌≤◌, ◌<◌}
use native.Mathlib.Omega.{arith}
use borrow.Author.Tests.{leb-true, lt-ltb, le-ltb, ltb-true, eqb-true}
use lib.Dec.{leb, ltb, eqb, lit<}
use lib.ListN.{length, drop, replicate, replicate-append-replicate}
use lib.Seq.{drop-cons}
use lib.IntN.{ℤ, pos, negsuc}
use Rattle.integers.specs.Lists.{All, nil, cons, every, from}
use Rattle.integers.specs.Signs.{is_zero}
use Rattle.integers.proofs.Lists.{all_head, all_tail}
use Rattle.integers.proofs.Loops.{drop-done}
use Rattle.integers.proofs.Tests.{and_left, and_right, not-both}
use Rattle.rows.specs.Rows.{with_entry}
use Rattle.sets.specs.declared.Refusal.TheVariants.{NoFrame}
use Rattle.sets.specs.Outcomes.{Ok, Err, and_then}
use Rattle.sets.proofs.Results.{refused-not, found-same, then_found}
use Rattle.models.specs.declared.Header.{Header}
use Rattle.models.specs.declared.Transition.{Transition}
use Rattle.models.specs.declared.ModelRow.{ModelRow}
use Rattle.models.specs.Acceptance.{between}
use Rattle.frames.specs.Hex.{digit, pair, bytes_of, byte, word, signed, with_first, lines, digit_of, digits_of, big_endian, pattern}
use Rattle.frames.specs.Reading.{header_of, reference_of, transition_of, row_of, term_count, term_entry, term_coefficient, entries_of, row_declared, coefficient_fits, entries_rise, terms_fit}
use Rattle.frames.specs.Steps.{Sound}
use Rattle.frames.specs.Writing.{terms_of, term_number}
use Rattle.frames.proofs.Terms.{counted-all}
use Rattle.frames.proofs.Taking.{entries_within}
use Rattle.frames.proofs.Back.{Byte, put-entry}

-- ---- digits and bytes: what was read as bytes is their digits
digit-from : (c d : ℕ) → digit c ≡ Ok d → (digit_of d ≡ c) × (d < 16)
unfolding digit
digit-from c d e = go (leb 48 c && leb c 57) (leb 65 c && leb c 70) refl refl e
  where
    low : 48 ≤ c → c ≤ 57 → c - 48 ≡ d → (digit_of d ≡ c) × (d < 16)
    low h k e = (rw (lt-ltb d 10 (omega arith)) (omega arith), omega arith)

    high : 65 ≤ c → c ≤ 70 → c - 55 ≡ d → (digit_of d ≡ c) × (d < 16)
    high h k e = (rw (le-ltb d 10 (omega arith)) (omega arith), omega arith)

    go : (a b : Bool) → (leb 48 c && leb c 57) ≡ a → (leb 65 c && leb c 70) ≡ b → cond a (Ok (c - 48)) (cond b (Ok (c - 55)) (Err NoFrame)) ≡ Ok d → (digit_of d ≡ c) × (d < 16)
    go true b p q e = low (leb-true 48 c (and_left (leb 48 c) (leb c 57) p)) (leb-true c 57 (and_right (leb 48 c) (leb c 57) p)) (found-same e)
    go false true p q e = high (leb-true 65 c (and_left (leb 65 c) (leb c 70) q)) (leb-true c 70 (and_right (leb 65 c) (leb c 70) q)) (found-same e)
    go false false p q e = refused-not e

record PairIs (c d b : ℕ) : Type 0 where
  high : digit_of (b / 16) ≡ c
  low : digit_of (b % 16) ≡ d
  small : Byte b

pair-from : (c d b : ℕ) → pair c d ≡ Ok b → PairIs c d b
unfolding pair
pair-from c d b e =
    let p = then_found (digit c) (λ high. and_then (digit d) (λ low. Ok (high * 16 + low))) b e in
    let q = then_found (digit d) (λ low. Ok (p.mid * 16 + low)) b p.second in
    go p.mid q.mid (digit-from c p.mid p.first) (digit-from d q.mid q.first) (found-same q.second)
  where
    go : (x y : ℕ) → (digit_of x ≡ c) × (x < 16) → (digit_of y ≡ d) × (y < 16) → x * 16 + y ≡ b → PairIs c d b
    go x y h k e =
        let xs = h.1 in
        let ys = k.1 in
        let u : b / 16 ≡ x = omega arith in
        let v : b % 16 ≡ y = omega arith in
        record { high = ap (λ (n : ℕ). digit_of n) u ∙ h.0; low = ap (λ (n : ℕ). digit_of n) v ∙ k.0; small = omega arith }

-- a line that is read as bytes is the digits of these, and they are bytes
pub bytes-from : (cs bs : List ℕ) → bytes_of cs ≡ Ok bs → (digits_of bs ≡ cs) × All Byte bs
unfolding bytes_of digits_of
bytes-from [] bs e = rw (← found-same e) (refl, nil)
bytes-from (c ∷ []) bs e = refused-not e
bytes-from (c ∷ d ∷ cs) bs e =
    let p = then_found (pair c d) (λ b. and_then (bytes_of cs) (λ bs. Ok (b ∷ bs))) bs e in
    let q = then_found (bytes_of cs) (λ bs. Ok (p.mid ∷ bs)) bs p.second in
    let h = pair-from c d p.mid p.first in
    let ih = bytes-from cs q.mid q.first in
    rw (← found-same q.second) (rw (h.high, h.low, ih.0) refl, cons h.small ih.1)

-- ---- lines: each with its LF behind it
unfoldable pub unlines : List (List ℕ) → List ℕ
unlines [] = []
unlines (l ∷ ls) = (l ++ (10 ∷ [])) ++ unlines ls

-- the lines, and what is left behind the last LF, are the file
pub lines-whole : (input : List ℕ) → unlines (lines input).ended ++ (lines input).left ≡ input
unfolding lines unlines
lines-whole [] = refl
lines-whole (c ∷ cs) = go (eqb c 10) refl (lines cs).ended (lines cs).left (lines-whole cs)
  where
    go : (b : Bool) → eqb c 10 ≡ b → (ended : List (List ℕ)) (left : List ℕ) → unlines ended ++ left ≡ cs →
        unlines (cond b (record { ended = [] ∷ ended; left = left }) (with_first c ended left)).ended ++ (cond b (record { ended = [] ∷ ended; left = left }) (with_first c ended left)).left ≡ c ∷ cs
    go true e ended left h = rw (h, eqb-true c 10 e)
    go false e [] left h = rw h
    go false e (l ∷ ls) left h = ap (λ (t : List ℕ). c ∷ t) h

-- ---- numbers
pattern-signed : (n : ℕ) → n < 2 ^ 32 → pattern (signed n) ≡ n
pattern-signed n h = go (ltb n (2 ^ 31)) refl
  where
    go : (b : Bool) → ltb n (2 ^ 31) ≡ b → pattern (cond b (pos n) (negsuc (2 ^ 32 - suc n))) ≡ n
    go true e = refl
    go false e = omega arith

four_list : (a b c d p q r s : ℕ) → a ≡ p → b ≡ q → c ≡ r → d ≡ s → a ∷ b ∷ c ∷ d ∷ [] ≡ p ∷ q ∷ r ∷ s ∷ []
four_list a b c d p q r s e f g h = rw (e, f, g, h)

four_from : (p q r s : ℕ) → p < 256 → q < 256 → r < 256 → s < 256 → big_endian 4 (((p * 256 + q) * 256 + r) * 256 + s) ≡ p ∷ q ∷ r ∷ s ∷ []
unfolding big_endian
four_from p q r s hp hq hr hs = four_list _ _ _ _ p q r s (omega arith) (omega arith) (omega arith) (omega arith)

four_small : (p q r s : ℕ) → p < 256 → q < 256 → r < 256 → s < 256 → ((p * 256 + q) * 256 + r) * 256 + s < 2 ^ 32
four_small p q r s hp hq hr hs = omega arith

byte_small : (b : List ℕ) → All Byte b → (i : ℕ) → byte b i < 256
byte_small [] a i = lit< tt
byte_small (x ∷ b) a zero = all_head a
byte_small (x ∷ b) a (suc i) = byte_small b (all_tail a) i

four_left : (b : List ℕ) (i : ℕ) → i + 4 ≤ length b → byte b i ∷ byte b (i + 1) ∷ byte b (i + 2) ∷ byte b (i + 3) ∷ drop (i + 4) b ≡ drop i b
four_left b i h =
    let one : i + 1 ≡ suc i = omega arith in
    let two : i + 2 ≡ suc (suc i) = omega arith in
    let three : i + 3 ≡ suc (suc (suc i)) = omega arith in
    let four : i + 4 ≡ suc (suc (suc (suc i))) = omega arith in
    rw (one, two, three, four)
    (sym (drop-cons b i 0 (omega arith) ∙ ap (λ (t : List ℕ). byte b i ∷ t) (drop-cons b (suc i) 0 (omega arith) ∙ ap (λ (t : List ℕ). byte b (suc i) ∷ t)
    (drop-cons b (suc (suc i)) 0 (omega arith) ∙ ap (λ (t : List ℕ). byte b (suc (suc i)) ∷ t) (drop-cons b (suc (suc (suc i))) 0 (omega arith))))))

word-from : (b : List ℕ) → All Byte b → (i : ℕ) → i + 4 ≤ length b → big_endian 4 (pattern (signed (word b i))) ++ drop (i + 4) b ≡ drop i b
unfolding word
word-from b a i h =
    let s0 = byte_small b a i in
    let s1 = byte_small b a (i + 1) in
    let s2 = byte_small b a (i + 2) in
    let s3 = byte_small b a (i + 3) in
    ap (λ (n : ℕ). big_endian 4 n ++ drop (i + 4) b) (pattern-signed _ (four_small (byte b i) (byte b (i + 1)) (byte b (i + 2)) (byte b (i + 3)) s0 s1 s2 s3))
    ∙ ap (λ (l : List ℕ). l ++ drop (i + 4) b) (four_from (byte b i) (byte b (i + 1)) (byte b (i + 2)) (byte b (i + 3)) s0 s1 s2 s3)
    ∙ four_left b i h

-- ---- terms
zeros-terms : (m j : ℕ) → terms_of j (replicate m (pos 0)) ≡ []
unfolding terms_of
zeros-terms zero j = refl
zeros-terms (suc m) j = zeros-terms m (suc j)

zeros-number : (m : ℕ) → term_number (replicate m (pos 0)) ≡ 0
unfolding term_number
zeros-number zero = refl
zeros-number (suc m) = zeros-number m

front-terms : (m j : ℕ) (l : List ℤ) → terms_of j (replicate m (pos 0) ++ l) ≡ terms_of (j + m) l
unfolding terms_of
front-terms zero j l = let e : j + 0 ≡ j = omega arith in rw e
front-terms (suc m) j l = let e : suc j + m ≡ j + suc m = omega arith in front-terms m (suc j) l ∙ ap (λ (n : ℕ). terms_of n l) e

front-number : (m : ℕ) (l : List ℤ) → term_number (replicate m (pos 0) ++ l) ≡ term_number l
unfolding term_number
front-number zero l = refl
front-number (suc m) l = front-number m l

zeros-split : (i j : ℕ) → j ≤ i → replicate i (pos 0) ≡ replicate j (pos 0) ++ replicate (i - j) (pos 0)
zeros-split i j h = let e : j + (i - j) ≡ i = omega arith in sym (replicate-append-replicate j (i - j) (pos 0) ∙ ap (λ (n : ℕ). replicate n (pos 0)) e)

nonzero_terms : (x : ℕ) (z : ℤ) (m : List ℤ) → is_zero z ≡ false → terms_of x (z ∷ m) ≡ x ∷ (big_endian 4 (pattern z) ++ terms_of (suc x) m)
unfolding terms_of
nonzero_terms x z m e = rw e

nonzero_number : (z : ℤ) (m : List ℤ) → is_zero z ≡ false → term_number (z ∷ m) ≡ suc (term_number m)
unfolding term_number
nonzero_number z m e = rw e

-- n terms from term k on, no entry before entry j: the entries from j on, and that these give the terms
record Terms (b : List ℕ) (k n j : ℕ) : Type 0 where
  rest : List ℤ
  is : entries_of b (from k n) ≡ replicate j (pos 0) ++ rest
  terms : terms_of j rest ≡ drop (4 + k * 5) b
  number : term_number rest ≡ n

module _ (b : List ℕ) (bytes : All Byte b) (size : length b ≡ 4 + term_count b * 5)
    (rising : (i : ℕ) → suc i < term_count b → term_entry b i < term_entry b (suc i))
    (within : (i : ℕ) → i < term_count b → term_entry b i < 16)
    (nonzero : (i : ℕ) → i < term_count b → is_zero (term_coefficient b i) ≡ false) where
  no_terms : (k j : ℕ) → k ≡ term_count b → j ≤ 16 → Terms b k 0 j
  unfolding entries_of
  no_terms k j e h = record {
    rest = replicate (16 - j) (pos 0);
    is = zeros-split 16 j h;
    terms = zeros-terms (16 - j) j ∙ sym (drop-done b (4 + k * 5) (omega arith));
    number = zeros-number (16 - j);
  }

  term_left : (k : ℕ) → k < term_count b → term_entry b k ∷ (big_endian 4 (pattern (term_coefficient b k)) ++ drop (4 + suc k * 5) b) ≡ drop (4 + k * 5) b
  term_left k h =
      let e : 4 + suc k * 5 ≡ 5 + k * 5 + 4 = omega arith in
      let f : 5 + k * 5 ≡ suc (4 + k * 5) = omega arith in
      let g : big_endian 4 (pattern (term_coefficient b k)) ++ drop (5 + k * 5 + 4) b ≡ drop (5 + k * 5) b = word-from b bytes (5 + k * 5) (omega arith) in
      ap (λ (n : ℕ). term_entry b k ∷ (big_endian 4 (pattern (term_coefficient b k)) ++ drop n b)) e
      ∙ ap (λ (t : List ℕ). term_entry b k ∷ t) (g ∙ ap (λ (n : ℕ). drop n b) f)
      ∙ sym (drop-cons b (4 + k * 5) 0 (omega arith))

  more-terms : (k n j : ℕ) → k < term_count b → j ≤ term_entry b k → Terms b (suc k) n (suc (term_entry b k)) → Terms b k (suc n) j
  unfolding entries_of
  more-terms k n j h low t =
      let x = term_entry b k in
      let z = term_coefficient b k in
      let m = t.rest in
      let e : j + (term_entry b k - j) ≡ term_entry b k = omega arith in
      record {
        rest = replicate (x - j) (pos 0) ++ (z ∷ m);
        is =
            ap (λ (l : List ℤ). with_entry x z l) t.is ∙ put-entry x z m ∙ ap (λ (l : List ℤ). l ++ (z ∷ m)) (zeros-split x j low)
            ∙ append_assoc (replicate j (pos 0)) (replicate (x - j) (pos 0)) (z ∷ m);
        terms =
            front-terms (x - j) j (z ∷ m) ∙ ap (λ (i : ℕ). terms_of i (z ∷ m)) e ∙ nonzero_terms x z m (nonzero k h)
            ∙ ap (λ (l : List ℕ). x ∷ (big_endian 4 (pattern z) ++ l)) t.terms ∙ term_left k h;
        number = front-number (x - j) (z ∷ m) ∙ nonzero_number z m (nonzero k h) ∙ ap suc t.number;
      }

  terms-from : (n k j : ℕ) → k + n ≡ term_count b → (n ≡ 0 → j ≤ 16) → (0 < n → j ≤ term_entry b k) → Terms b k n j
  terms-from zero k j e f g = no_terms k j (omega arith) (f refl)
  terms-from (suc n) k j e f g =
      more-terms k n j (omega arith) (g (omega arith))
      (terms-from n (suc k) (suc (term_entry b k)) (omega arith) (λ (z : n ≡ 0). within k (omega arith)) (λ (p : 0 < n). rising k (omega arith)))

-- ---- what is written for a header, a reference, a transition and a row of a model, behind the kind
unfoldable pub header_bytes : Header → List ℕ
header_bytes h = h.clocks ∷ h.parameters ∷ h.locations ∷ h.transitions ∷ []

unfoldable pub reference_bytes : List ℤ → List ℕ
reference_bytes [] = []
reference_bytes (z ∷ l) = big_endian 4 (pattern z) ++ reference_bytes l

unfoldable pub transition_bytes : Transition → List ℕ
transition_bytes t = t.source ∷ t.action ∷ t.target ∷ t.resets ∷ []

unfoldable pub model_row_bytes : ModelRow → List ℕ
model_row_bytes r = r.kind ∷ r.owner ∷ r.strict ∷ term_number r.entries ∷ terms_of 0 r.entries

-- a frame that is taken is what is written for what it gives
four_whole : (b : List ℕ) → length b ≡ 4 → byte b 0 ∷ byte b 1 ∷ byte b 2 ∷ byte b 3 ∷ [] ≡ b
four_whole b e = ap (λ (t : List ℕ). byte b 0 ∷ byte b 1 ∷ byte b 2 ∷ byte b 3 ∷ t) (sym (drop-done b 4 (omega arith))) ∙ four_left b 0 (omega arith)

pub header-from : (b : List ℕ) → length b ≡ 4 → header_bytes (header_of b) ≡ b
unfolding header_bytes
header-from b e = four_whole b e

pub transition_from : (b : List ℕ) → length b ≡ 4 → transition_bytes (transition_of b) ≡ b
unfolding transition_bytes
transition_from b e = four_whole b e

numbers-from : (b : List ℕ) → All Byte b → (n k : ℕ) → length b ≡ (k + n) * 4 → reference_bytes (map (λ i. signed (word b (i * 4))) (from k n)) ≡ drop (k * 4) b
unfolding reference_bytes
numbers-from b a zero k e = sym (drop-done b (k * 4) (omega arith))
numbers-from b a (suc n) k e =
    let f : suc k * 4 ≡ k * 4 + 4 = omega arith in
    ap (λ (l : List ℕ). big_endian 4 (pattern (signed (word b (k * 4)))) ++ l) (numbers-from b a n (suc k) (omega arith) ∙ ap (λ (i : ℕ). drop i b) f) ∙ word-from b a (k * 4) (omega arith)

pub reference-from : (h : Header) (b : List ℕ) → All Byte b → length b ≡ 4 + h.parameters * 4 → reference_bytes (reference_of h b) ≡ b
reference-from h b a e = numbers-from b a (suc h.parameters) 0 (omega arith)

not-true : (b c : Bool) → (not b && c) ≡ true → b ≡ false
not-true true c e = not-both e
not-true false c e = refl

pub row_from : (h : Header) (b : List ℕ) → Sound h → All Byte b → length b ≡ 4 + term_count b * 5 → row_declared h b ≡ true → terms_fit b ≡ true → model_row_bytes (row_of b) ≡ b
unfolding model_row_bytes terms_fit entries_rise
row_from h b sound a size d f =
    let fits = and_right (between 1 (term_count b) 15) _ f in
    let low = and_left (every (λ i. coefficient_fits (term_coefficient b i)) (from 0 (term_count b))) _ fits in
    let rise = and_right (every (λ i. coefficient_fits (term_coefficient b i)) (from 0 (term_count b))) _ fits in
    let t =
    terms-from b a size
    (λ i k. ltb-true (term_entry b i) (term_entry b (suc i)) (counted-all (λ j. ltb (term_entry b j) (term_entry b (suc j))) (term_count b - 1) rise i (less i (term_count b) k)))
    (λ i k. entries_within h b sound d i k)
    (λ i k. not-true (is_zero (term_coefficient b i)) _ (counted-all (λ j. coefficient_fits (term_coefficient b j)) (term_count b) low i k))
    (term_count b) 0 0 (nothing-more (term_count b)) (λ e. zero-small 16) (λ e. zero-small (term_entry b 0)) in
    let number : term_number (entries_of b (from 0 (term_count b))) ≡ term_count b = ap (λ (l : List ℤ). term_number l) t.is ∙ t.number in
    let terms : terms_of 0 (entries_of b (from 0 (term_count b))) ≡ drop 4 b = ap (λ (l : List ℤ). terms_of 0 l) t.is ∙ t.terms in
    rw (number, terms) (four_left b 0 (omega arith))
  where
    less : (i n : ℕ) → suc i < n → i < n - 1
    less i n h = omega arith

    nothing-more : (n : ℕ) → 0 + n ≡ n
    nothing-more n = omega arith

    zero-small : (n : ℕ) → 0 ≤ n
    zero-small n = omega arith
