-- The terms of a row frame, as chunks of five bytes. Assumes nothing.
use Rattle.std.proofs.Common.{◌≡◌, refl, sym, ap, ◌∙◌, Bool, ◌&&◌, true, false, ltb, List, [], ◌∷◌, ℕ, zero, suc, ◌+◌, ◌-◌, ◌*◌, ◌<◌, length, get_or, take, drop, set, reverse, ℤ, arith}
use Rattle.std.specs.List.{list_all, IsAllAdjacentAnswer}
use Rattle.std.specs.Simd.{first_chunks}
use Rattle.std.proofs.lemmas.List.{get_or-take, get_or-drop, get_or-reverse}
use lib.Seq.{drop-drop}
use Rattle.entries.proofs.Sums.{with-set}
use Rattle.integers.specs.Lists.{every, from}
use Rattle.integers.proofs.Tests.{and_left, and_right}
use Rattle.rows.specs.Rows.{with_entry}
use Rattle.frames.specs.Hex.{byte, word, signed}
use Rattle.frames.specs.Reading.{term_count, term_entry, term_coefficient, entries_of, coefficient_fits, entries_rise}

pub chunk-at : {X : Type 0} (m n i : ℕ) (xs : List X) (d : List X) → i < n → get_or (first_chunks m n xs) i d ≡ take m (drop (i * m) xs)
chunk-at m zero i xs d h = absurd (omega arith)
chunk-at m (suc n) zero xs d h = let e : 0 * m ≡ 0 = omega arith in rw e
chunk-at m (suc n) (suc i) xs d h = let e : suc i * m ≡ m + i * m = omega arith in rw e (chunk-at m n i (drop m xs) d (omega arith) ∙ ap (take m) (drop-drop (i * m) m xs))

pub chunk-count : {X : Type 0} (m n : ℕ) (xs : List X) → length (first_chunks m n xs) ≡ n
chunk-count m zero xs = refl
chunk-count m (suc n) xs = ap suc (chunk-count m n (drop m xs))

plus-zero : (a : ℕ) → a + 0 ≡ a
plus-zero a = omega arith

step : (a i : ℕ) → suc a + i ≡ a + suc i
step a i = omega arith

-- a test of the numbers from a on is one of the elements of a list
pub every-list : {X : Type 0} (f : ℕ → Bool) (g : X → Bool) (a : ℕ) (l : List X) → ((i : ℕ) (d : X) → i < length l → f (a + i) ≡ g (get_or l i d)) → every f (from a (length l)) ≡ list_all g l
every-list f g a [] same = refl
every-list f g a (x ∷ l) same = rw (ap f (sym (plus-zero a)) ∙ same 0 x (omega arith), every-list f g (suc a) l (λ i d h. ap f (step a i) ∙ same (suc i) d (omega arith)))

-- ---- the bytes of a frame behind its first four
module _ (b : List ℕ) where
  abbrev pub chunks : List (List ℕ)
  chunks = first_chunks 5 (term_count b) (drop 4 b)

  pub chunk-byte : (i j : ℕ) (d : List ℕ) → i < term_count b → j < 5 → byte (get_or chunks i d) j ≡ byte b (4 + i * 5 + j)
  chunk-byte i j d h k =
      ap (λ (t : List ℕ). byte t j) (chunk-at 5 (term_count b) i (drop 4 b) d h) ∙ get_or-take 5 (drop (i * 5) (drop 4 b)) j 0 k ∙ get_or-drop (i * 5) (drop 4 b) j 0 ∙ get_or-drop 4 b (i * 5 + j) 0
      ∙ ap (λ (p : ℕ). byte b p) (plus (i * 5) j)
    where
      plus : (p q : ℕ) → 4 + (p + q) ≡ 4 + p + q
      plus p q = omega arith

  pub chunk-entry : (i : ℕ) (d : List ℕ) → i < term_count b → byte (get_or chunks i d) 0 ≡ term_entry b i
  chunk-entry i d h = chunk-byte i 0 d h (omega arith) ∙ ap (λ (p : ℕ). byte b p) (plus-zero (4 + i * 5))

  pub chunk-word : (i : ℕ) (d : List ℕ) → i < term_count b → word (get_or chunks i d) 1 ≡ word b (5 + i * 5)
  unfolding word
  chunk-word i d h =
      let e : 4 + i * 5 + 1 ≡ 5 + i * 5 = omega arith in
      let p : 4 + i * 5 + 2 ≡ 5 + i * 5 + 1 = omega arith in
      let q : 4 + i * 5 + 3 ≡ 5 + i * 5 + 2 = omega arith in
      let r : 4 + i * 5 + 4 ≡ 5 + i * 5 + 3 = omega arith in
      rw (chunk-byte i 1 d h (omega arith), chunk-byte i 2 d h (omega arith), chunk-byte i 3 d h (omega arith), chunk-byte i 4 d h (omega arith), e, p, q, r)

  pub coefficient-tested : (i : ℕ) (d : List ℕ) → i < term_count b → coefficient_fits (term_coefficient b i) ≡ coefficient_fits (signed (word (get_or chunks i d) 1))
  coefficient-tested i d h = ap (λ (n : ℕ). coefficient_fits (signed n)) (sym (chunk-word i d h))

  pub terms-tested : (f : ℕ → Bool) (g : List ℕ → Bool) → ((i : ℕ) (d : List ℕ) → i < term_count b → f i ≡ g (get_or chunks i d)) → every f (from 0 (term_count b)) ≡ list_all g chunks
  terms-tested f g same =
      let n = chunk-count 5 (term_count b) (drop 4 b) in
      ap (λ (k : ℕ). every f (from 0 k)) (sym n) ∙ every-list f g 0 chunks (λ i d h. ap f (zero-plus i) ∙ same i d (rw n at h))
    where
      zero-plus : (i : ℕ) → 0 + i ≡ i
      zero-plus i = omega arith

-- ---- each entry number but the last below the next
every-of : (f : ℕ → Bool) (a n : ℕ) → ((i : ℕ) → i < n → f (a + i) ≡ true) → every f (from a n) ≡ true
every-of f a zero h = refl
every-of f a (suc n) h = rw (ap f (sym (plus-zero a)) ∙ h 0 (omega arith), every-of f (suc a) n (λ i k. ap f (step a i) ∙ h (suc i) (omega arith)))

every-not : (f : ℕ → Bool) (a n k : ℕ) → k < n → f (a + k) ≡ false → every f (from a n) ≡ false
every-not f a zero k h e = absurd (omega arith)
every-not f a (suc n) zero h e = rw (ap f (sym (plus-zero a)) ∙ e)
every-not f a (suc n) (suc k) h e = rw (every-not f (suc a) n k (omega arith) (ap f (step a k) ∙ e)) (and-false (f a))
  where
    and-false : (t : Bool) → (t && false) ≡ false
    and-false true = refl
    and-false false = refl

module _ (b : List ℕ) where
  abbrev entry : (k : ℕ) → ℕ
  entry k = byte (get_or (chunks b) k []) 0

  entries-read : (k : ℕ) → k + 1 < length (chunks b) → ltb (entry k) (entry (k + 1)) ≡ ltb (term_entry b k) (term_entry b (suc k))
  entries-read k h =
      let n = chunk-count 5 (term_count b) (drop 4 b) in
      let e : k + 1 ≡ suc k = omega arith in
      rw (chunk-entry b k [] (omega arith), e, chunk-entry b (suc k) [] (omega arith))

  pub rising : (r : Bool) → IsAllAdjacentAnswer (λ x y v. v ≡ ltb (byte x 0) (byte y 0)) (chunks b) r → r ≡ entries_rise b (term_count b)
  unfolding entries_rise
  rising true h =
      let n = chunk-count 5 (term_count b) (drop 4 b) in
      sym (every-of (λ i. ltb (term_entry b i) (term_entry b (suc i))) 0 (term_count b - 1)
      (λ i k. let z : 0 + i ≡ i = omega arith in rw z (sym (entries-read i (omega arith)) ∙ sym (h i [] (omega arith)))))
  rising false h =
      let n = chunk-count 5 (term_count b) (drop 4 b) in
      let z : 0 + h.0 ≡ h.0 = omega arith in
      sym (every-not (λ i. ltb (term_entry b i) (term_entry b (suc i))) 0 (term_count b - 1) h.0 (omega (arith, h.1)) (rw z (sym (entries-read h.0 h.1) ∙ sym (h.2 []))))

-- ---- terms put into the entries from the last to the first
put-one : (b : List ℕ) (p k : ℕ) (to : List ℤ) → length to ≡ 16 → term_entry b p < 16 → to ≡ entries_of b (from (suc p) k) → set to (term_entry b p) (term_coefficient b p) ≡ entries_of b (from p (suc k))
unfolding entries_of
put-one b p k to long small e = sym (with-set (term_entry b p) (term_coefficient b p) to (rw long small)) ∙ ap (with_entry (term_entry b p) (term_coefficient b p)) e

module _ (b t : List ℕ) (k : ℕ) (is : t ≡ get_or (reverse (chunks b)) k t) (h : k < term_count b) where
  abbrev place : ℕ
  place = term_count b - (k + 1)

  chunk-back : t ≡ get_or (chunks b) place t
  chunk-back =
      let n = chunk-count 5 (term_count b) (drop 4 b) in
      let e : length (chunks b) - 1 - k ≡ place = omega arith in
      is ∙ get_or-reverse (chunks b) k t (omega arith) ∙ ap (λ (i : ℕ). get_or (chunks b) i t) e

  pub entry-back : byte t 0 ≡ term_entry b place
  entry-back = ap (λ (u : List ℕ). byte u 0) chunk-back ∙ chunk-entry b place t (omega arith)

  pub term-put : (to : List ℤ) → length to ≡ 16 → byte t 0 < 16 → to ≡ entries_of b (from (term_count b - k) k) → set to (byte t 0) (signed (word t 1)) ≡ entries_of b (from place (k + 1))
  term-put to long small e =
      let c : word t 1 ≡ word b (5 + place * 5) = ap (λ (u : List ℕ). word u 1) chunk-back ∙ chunk-word b place t (omega arith) in
      let next : term_count b - k ≡ suc place = omega arith in
      let more : suc k ≡ k + 1 = omega arith in
      let put = put-one b place k to long (rw entry-back at small) (rw next at e) in
      rw (c, entry-back) put ∙ ap (λ (n : ℕ). entries_of b (from place n)) more

-- ---- a test of the numbers from a on tells of each
counted-from : (f : ℕ → Bool) (a n : ℕ) → every f (from a n) ≡ true → (i : ℕ) → i < n → f (a + i) ≡ true
counted-from f a zero e i h = absurd (omega arith)
counted-from f a (suc n) e zero h = ap f (plus-zero a) ∙ and_left (f a) (every f (from (suc a) n)) e
counted-from f a (suc n) e (suc i) h = ap f (sym (step a i)) ∙ counted-from f (suc a) n (and_right (f a) (every f (from (suc a) n)) e) i (omega arith)

pub counted-all : (f : ℕ → Bool) (n : ℕ) → every f (from 0 n) ≡ true → (i : ℕ) → i < n → f i ≡ true
counted-all f n e i h = let z : 0 + i ≡ i = omega arith in rw z at (counted-from f 0 n e i h)
