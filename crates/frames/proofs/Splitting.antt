-- The first line of what is left of the input: reading goes on behind it, or ends there. Assumes nothing.
use mathlib.Core.Path.{◌≡◌, refl, sym, ◌∙◌}
use mathlib.Core.Bool.{Bool, true, false, cond}
use mathlib.Core.List.{List, [], ◌∷◌}
use Prim.Native.Nat.{ℕ, suc, ◌+◌, ◌*◌, ◌≤◌, ◌<◌}
use native.Mathlib.Omega.{arith}
use borrow.Author.Tests.{eqb-true}
use lib.Dec.{eqb}
use lib.ListN.{length, drop}
use Rattle.integers.proofs.Tests.{false_of}
use Rattle.sets.specs.declared.Refusal.{Refusal}
use Rattle.sets.specs.declared.Refusal.TheVariants.{NoFrame, Misplaced, HeaderRange, ReferenceRange, Undeclared, WrongTerms, InitialBroken, InvariantBroken, EntryTooLarge, TooManyRows, NoRoom, BudgetUsed, ShortStore}
use Rattle.sets.specs.Outcomes.{Result, Ok, Err, and_then}
use Rattle.sets.proofs.Results.{refused-not, found-same}
use Rattle.models.specs.declared.Model.{Model}
use Rattle.frames.specs.Hex.{digit, pair, bytes_of, with_first, lines, first_bytes}
use Rattle.frames.specs.Reading.{Seen, frame, line, all_lines, at_end}
use Rattle.frames.proofs.Pairs.{Below, foreign, value, pair-below}
use Rattle.frames.proofs.Decoding.{no_end}

-- what reading makes of the rest of the input
unfoldable pub remaining : Seen → List ℕ → Result Model
remaining s l = and_then (all_lines s (lines l).ended) (at_end (lines l).left)

-- ---- a line that is one of digits
no_end_second : (c d b : ℕ) → pair c d ≡ Ok b → eqb d 10 ≡ false
unfolding pair digit and_then
no_end_second c d b e = false_of (eqb d 10) (λ h. clash (digit c) (rw (eqb-true d 10 h) at e))
  where
    clash : (o : Result ℕ) → and_then o (λ high. Err NoFrame) ≡ Ok b → ⊥
    clash (Ok h) e = refused-not e
    clash (Err q) e = refused-not e

pub record Front (l bs : List ℕ) : Type 0 where
  pub first : List ℕ
  pub bytes : bytes_of first ≡ Ok bs
  pub ended : (lines l).ended ≡ first ∷ (lines (drop (length bs * 2 + 1) l)).ended
  pub left : (lines l).left ≡ (lines (drop (length bs * 2 + 1) l)).left

two_more : (c d : ℕ) (cs : List ℕ) → eqb c 10 ≡ false → eqb d 10 ≡ false → (first : List ℕ) (more : List (List ℕ)) → (lines cs).ended ≡ first ∷ more →
    ((lines (c ∷ d ∷ cs)).ended ≡ (c ∷ d ∷ first) ∷ more) × ((lines (c ∷ d ∷ cs)).left ≡ (lines cs).left)
unfolding lines
two_more c d cs e f first more h = rw (e, f, h) (refl, refl)

empty-front : (c : ℕ) (cs : List ℕ) → eqb c 10 ≡ true → Front (c ∷ cs) []
unfolding lines bytes_of
empty-front c cs e = record { first = []; bytes = refl; ended = rw e; left = rw e }

module _ (c d : ℕ) (cs : List ℕ) where
  pair-front : (b : ℕ) (bs : List ℕ) → pair c d ≡ Ok b → Front cs bs → Front (c ∷ d ∷ cs) (b ∷ bs)
  unfolding bytes_of and_then
  pair-front b bs e g =
      let m = two_more c d cs (no_end c d b e) (no_end_second c d b e) g.first _ g.ended in
      let k : suc (length bs) * 2 + 1 ≡ suc (suc (length bs * 2 + 1)) = omega arith in
      record { first = c ∷ d ∷ g.first; bytes = rw (e, g.bytes); ended = rw k m.0; left = rw k (m.1 ∙ g.left) }

-- ---- a line that is none: it has no LF, or is refused
pub data Broken (l : List ℕ) : Type 0 where
  unended : (c : ℕ) (cs : List ℕ) → (lines l).ended ≡ [] → (lines l).left ≡ c ∷ cs → Broken l
  foreign_line : (cs : List ℕ) (more : List (List ℕ)) → (lines l).ended ≡ cs ∷ more → bytes_of cs ≡ Err NoFrame → Broken l

-- a character in front of the first line
lines_more : (c : ℕ) (cs : List ℕ) → eqb c 10 ≡ false → lines (c ∷ cs) ≡ with_first c (lines cs).ended (lines cs).left
unfolding lines
lines_more c cs e = rw e

second-foreign : (c d : ℕ) (cs : List ℕ) → pair c d ≡ Err NoFrame → bytes_of (c ∷ d ∷ cs) ≡ Err NoFrame
unfolding bytes_of and_then
second-foreign c d cs e = rw e

one : (c : ℕ) → bytes_of (c ∷ []) ≡ Err NoFrame
unfolding bytes_of
one c = refl

-- by what the lines behind the character are
module _ (c : ℕ) (cs : List ℕ) (e : eqb c 10 ≡ false) where
  in_front : (ended : List (List ℕ)) (left : List ℕ) → (lines cs).ended ≡ ended → (lines cs).left ≡ left →
      ((first : List ℕ) (more : List (List ℕ)) → (lines cs).ended ≡ first ∷ more → bytes_of (c ∷ first) ≡ Err NoFrame) → Broken (c ∷ cs)
  in_front [] left a b f = unended c left (rw (lines_more c cs e, a)) (rw (lines_more c cs e, a, b))
  in_front (first ∷ more) left a b f = foreign_line (c ∷ first) more (rw (lines_more c cs e, a)) (f first more a)

  front-broken : ((first : List ℕ) (more : List (List ℕ)) → (lines cs).ended ≡ first ∷ more → bytes_of (c ∷ first) ≡ Err NoFrame) → Broken (c ∷ cs)
  front-broken f = in_front (lines cs).ended (lines cs).left refl refl f

-- the first character of a first line that has one
head_is : (d x : ℕ) (cs r : List ℕ) (more : List (List ℕ)) → (lines (d ∷ cs)).ended ≡ (x ∷ r) ∷ more → x ≡ d
unfolding lines
head_is d x cs r more = go (eqb d 10) (lines cs).ended (lines cs).left
  where
    go : (b : Bool) (ended : List (List ℕ)) (left : List ℕ) → (cond b (record { ended = [] ∷ ended; left = left }) (with_first d ended left)).ended ≡ (x ∷ r) ∷ more → x ≡ d
    go true ended left e = let z : ◌≡◌ {A = ℕ} 0 1 = cc in absurd (omega arith)
    go false [] left e = let z : ◌≡◌ {A = ℕ} 0 1 = cc in absurd (omega arith)
    go false (y ∷ ys) left e = cc

module _ (c d : ℕ) (cs : List ℕ) where
  pair-broken : eqb c 10 ≡ false → pair c d ≡ Err NoFrame → Broken (c ∷ d ∷ cs)
  pair-broken e p = front-broken c (d ∷ cs) e refused-line
    where
      refused-line : (first : List ℕ) (more : List (List ℕ)) → (lines (d ∷ cs)).ended ≡ first ∷ more → bytes_of (c ∷ first) ≡ Err NoFrame
      refused-line [] more a = one c
      refused-line (x ∷ r) more a = rw (head_is d x cs r more a) (second-foreign c d r p)

  later-broken : (b : ℕ) → pair c d ≡ Ok b → Broken cs → Broken (c ∷ d ∷ cs)
  unfolding lines bytes_of and_then
  later-broken b e (unended x xs a f) = unended c (d ∷ x ∷ xs) (rw (no_end c d b e, no_end_second c d b e, a)) (rw (no_end c d b e, no_end_second c d b e, a, f))
  later-broken b e (foreign_line first more a f) = foreign_line (c ∷ d ∷ first) more (rw (no_end c d b e, no_end_second c d b e, a)) (rw (e, f))

ends-here : (c d b : ℕ) → pair c d ≡ Ok b → Broken (c ∷ d ∷ [])
unfolding lines
ends-here c d b e = unended c (d ∷ []) (rw (no_end c d b e, no_end_second c d b e)) (rw (no_end c d b e, no_end_second c d b e))

-- ---- the two together
pub data ToldBy : List ℕ → Result (List ℕ) → Type 0 where
  broken : {l : List ℕ} → Broken l → ToldBy l (Err NoFrame)
  front : {l bs : List ℕ} → Front l bs → ToldBy l (Ok bs)

alone : (c : ℕ) (b : Bool) → eqb c 10 ≡ b → ToldBy (c ∷ []) (cond b (Ok []) (Err NoFrame))
unfolding lines
alone c true e = front (empty-front c [] e)
alone c false e = broken {l = c ∷ []} (unended c [] (rw e) (rw e))

paired : (c d : ℕ) (cs : List ℕ) (p : Result ℕ) → pair c d ≡ p → Below 256 p → (b : Bool) → eqb c 10 ≡ b → (o : Result (List ℕ)) → ((x : ℕ) (xs : List ℕ) → cs ≡ x ∷ xs → ToldBy cs o) → (cs ≡ [] → o ≡ Err NoFrame) →
    ToldBy (c ∷ d ∷ cs) (cond b (Ok []) (and_then p (λ v. and_then o (λ bs. Ok (v ∷ bs)))))
unfolding and_then
paired c d cs p e k true f o ih none = front (empty-front c (d ∷ cs) f)
paired c d cs (Err NoFrame) e foreign false f o ih none = broken (pair-broken c d cs f e)
paired c d cs (Err Misplaced) e k false f o ih none = elim k [ ]
paired c d cs (Err HeaderRange) e k false f o ih none = elim k [ ]
paired c d cs (Err ReferenceRange) e k false f o ih none = elim k [ ]
paired c d cs (Err Undeclared) e k false f o ih none = elim k [ ]
paired c d cs (Err WrongTerms) e k false f o ih none = elim k [ ]
paired c d cs (Err InitialBroken) e k false f o ih none = elim k [ ]
paired c d cs (Err InvariantBroken) e k false f o ih none = elim k [ ]
paired c d cs (Err EntryTooLarge) e k false f o ih none = elim k [ ]
paired c d cs (Err TooManyRows) e k false f o ih none = elim k [ ]
paired c d cs (Err NoRoom) e k false f o ih none = elim k [ ]
paired c d cs (Err BudgetUsed) e k false f o ih none = elim k [ ]
paired c d cs (Err ShortStore) e k false f o ih none = elim k [ ]
paired c d [] (Ok v) e (value k) false f o ih none = rw (none refl) (broken (ends-here c d v e))
paired c d (x ∷ xs) (Ok v) e (value k) false f o ih none = go o (ih x xs refl)
  where
    go : (o : Result (List ℕ)) → ToldBy (x ∷ xs) o → ToldBy (c ∷ d ∷ x ∷ xs) (and_then o (λ bs. Ok (v ∷ bs)))
    go o (broken h) = broken (later-broken c d (x ∷ xs) v e h)
    go o (front {bs = bs} h) = front (pair-front c d (x ∷ xs) v bs e h)

told : (c : ℕ) (l : List ℕ) → ToldBy (c ∷ l) (first_bytes (c ∷ l))
unfolding first_bytes
told c [] = alone c (eqb c 10) refl
told c (d ∷ []) = paired c d [] (pair c d) refl (pair-below c d) (eqb c 10) refl (Err NoFrame) (λ x xs e. nothing-there x xs e) (λ e. refl)
  where
    nothing-there : (x : ℕ) (xs : List ℕ) → [] ≡ x ∷ xs → ToldBy [] (Err NoFrame)
    nothing-there x xs e = let z : ◌≡◌ {A = ℕ} 0 1 = cc in absurd (omega arith)
told c (d ∷ x ∷ xs) = paired c d (x ∷ xs) (pair c d) refl (pair-below c d) (eqb c 10) refl (first_bytes (x ∷ xs)) (λ y ys e. told x xs) (λ e. something_there e)
  where
    something_there : x ∷ xs ≡ [] → first_bytes (x ∷ xs) ≡ Err NoFrame
    something_there e = let z : ◌≡◌ {A = ℕ} 0 1 = cc in absurd (omega arith)

-- ---- reading goes on behind the first line
broken-ends : (s : Seen) (l : List ℕ) → Broken l → remaining s l ≡ Err NoFrame
unfolding remaining all_lines line and_then
broken-ends s l (unended c cs a b) = rw (a, b)
broken-ends s l (foreign_line cs more a b) = rw (a, b)

front-goes-on : (s : Seen) (l bs : List ℕ) → Front l bs → remaining s l ≡ and_then (frame s bs) (λ t. remaining t (drop (length bs * 2 + 1) l))
unfolding remaining all_lines line and_then
front-goes-on s l bs g = rw (g.ended, g.left, g.bytes) (go (frame s bs))
  where
    go : (o : Result Seen) →
        and_then (and_then o (λ t. all_lines t (lines (drop (length bs * 2 + 1) l)).ended)) (at_end (lines (drop (length bs * 2 + 1) l)).left) ≡
        and_then o (λ t. and_then (all_lines t (lines (drop (length bs * 2 + 1) l)).ended) (at_end (lines (drop (length bs * 2 + 1) l)).left))
    go (Ok t) = refl
    go (Err q) = refl

next-line : (s : Seen) (l : List ℕ) (o : Result (List ℕ)) → ToldBy l o → remaining s l ≡ and_then o (λ bs. and_then (frame s bs) (λ t. remaining t (drop (length bs * 2 + 1) l)))
unfolding and_then
next-line s l o (broken h) = broken-ends s l h
next-line s l o (front {bs = bs} h) = front-goes-on s l bs h

pub goes_on : (s : Seen) (l : List ℕ) → 0 < length l → remaining s l ≡ and_then (first_bytes l) (λ bs. and_then (frame s bs) (λ t. remaining t (drop (length bs * 2 + 1) l)))
goes_on s [] h = absurd (omega arith)
goes_on s (c ∷ l) h = next-line s (c ∷ l) (first_bytes (c ∷ l)) (told c l)

-- how long the first line is
pub front_length : (l : List ℕ) (bs : List ℕ) → first_bytes l ≡ Ok bs → length bs * 2 + 1 ≤ length l
unfolding first_bytes and_then
front_length [] bs e = refused-not e
front_length (c ∷ []) bs e = go (eqb c 10) e
  where
    go : (b : Bool) → cond b (Ok []) (Err NoFrame) ≡ Ok bs → length bs * 2 + 1 ≤ 1
    go true e = rw (← found-same e) (omega arith)
    go false e = refused-not e
front_length (c ∷ d ∷ cs) bs e = go (eqb c 10) (pair c d) (first_bytes cs) refl e (front_length cs)
  where
    go : (b : Bool) (p : Result ℕ) (o : Result (List ℕ)) → first_bytes cs ≡ o → cond b (Ok []) (and_then p (λ v. and_then o (λ xs. Ok (v ∷ xs)))) ≡ Ok bs →
        ((xs : List ℕ) → first_bytes cs ≡ Ok xs → length xs * 2 + 1 ≤ length cs) → length bs * 2 + 1 ≤ suc (suc (length cs))
    go true p o f e ih = rw (← found-same e) (omega arith)
    go false (Err q) o f e ih = refused-not e
    go false (Ok v) (Err q) f e ih = refused-not e
    go false (Ok v) (Ok xs) f e ih = let k : v ∷ xs ≡ bs = found-same e in rw (← k) (omega (arith, ih xs f))

pub only_no_frame : (l : List ℕ) (q : Refusal) → first_bytes l ≡ Err q → q ≡ NoFrame
unfolding first_bytes
only_no_frame [] q e = cc
only_no_frame (c ∷ l) q e = go (first_bytes (c ∷ l)) e (told c l)
  where
    go : (o : Result (List ℕ)) → o ≡ Err q → ToldBy (c ∷ l) o → q ≡ NoFrame
    go o e (broken h) = cc
    go o e (front h) = refused-not (sym e)

-- a line whose first character is no digit is none
first-foreign : (c : ℕ) (cs : List ℕ) → digit c ≡ Err NoFrame → bytes_of (c ∷ cs) ≡ Err NoFrame
unfolding bytes_of pair and_then
first-foreign c [] e = refl
first-foreign c (d ∷ cs) e = rw e
