-- Steps on a set in a store: a row inserted, a settled row put, rows joined one by one; and what a step leaves for the next. Assumes nothing.
use mathlib.Core.Path.{◌≡◌, refl, sym, ap, ap₂, ◌∙◌}
use mathlib.Core.Bool.{Bool, true, false, cond}
use mathlib.Core.List.{List, [], ◌∷◌, ◌++◌, append_assoc, append-nil}
use Prim.Native.Nat.{ℕ, suc, ◌+◌, ◌-◌, ◌*◌, ◌≤◌, ◌<◌}
use native.Mathlib.Omega.{arith}
use native.Mathlib.Nat.{le_refl, le_trans, add-zero, sub-zero}
use borrow.Author.Tests.{le-leb, lt-leb, leb-true, leb-false}
use lib.Dec.{leb}
use lib.ListN.{length, take, drop, length-append, length-drop}
use lib.Seq.{length-take-le, take-take, append_snoc}
use lib.IntN.{ℤ}
use Rattle.integers.specs.Lists.{All, cons}
use Rattle.rows.specs.declared.Row.{Row}
use Rattle.rows.specs.declared.Fate.{Fate}
use Rattle.rows.specs.declared.Fate.TheVariants.{Kept, Gone, TooLarge}
use Rattle.rows.specs.Rows.{row_numbers, set_rows, set_numbers, Small, numbers, kept, divided_down, row_at, with_row}
use Rattle.rows.proofs.Dividing.{Wide, IfKept, divided_down-small, divided_down-wide}
use Rattle.sets.specs.declared.Refusal.{Refusal}
use Rattle.sets.specs.declared.Refusal.TheVariants.{EntryTooLarge, TooManyRows}
use Rattle.std.specs.declared.option.Option.TheVariants.{None, Some}
use Rattle.sets.specs.Outcomes.{Result, Ok, Err, and_then}
use Rattle.sets.specs.Stores.{Joined, numbers_of, rows_at, with_rows, set_in, HoldsSet, Touched, Left, next, progress, StandingBy, Ready, put_all}
use Rattle.sets.specs.Sets.{InOrder, insert, place_of, put, joined_all, within_limit, joined}
use Rattle.sets.proofs.Parts.{drop-take}
use Rattle.sets.proofs.Stores.{length-numbers_of, numbers_of-append, numbers_of-take, numbers_of-drop, length-rows_at, rows-with_rows, with_rows_itself, with_rows_twice, holds-with_rows, holds-wide, touched_none, touched_twice, touched-with_rows}
use Rattle.sets.proofs.Ordered.{insert-ordered}
use Rattle.sets.proofs.Canon.{insert_grows}
use Rattle.sets.proofs.Joining.{insert_all}
use Rattle.sets.proofs.Places.{insert-at, insert-standing, insert_last, place-within}
use Rattle.sets.proofs.Moving.{written-between}

-- ---- at most 128 rows, or 10
pub within-few : (t : List Row) → length t ≤ set_rows → within_limit t ≡ Ok t
unfolding within_limit
within-few t h = rw (le-leb (length t) set_rows h)

pub within_many : (t : List Row) → set_rows < length t → within_limit t ≡ Err TooManyRows
unfolding within_limit
within_many t h = rw (lt-leb (length t) set_rows h)

within-is : (t : List Row) → within_limit t ≡ cond (leb (length t) set_rows) (Ok t) (Err TooManyRows)
unfolding within_limit
within-is t = refl

-- ---- a row inserted
length-between : (r : Row) (l : List Row) (k : ℕ) → k ≤ length l → length (take k l ++ r ∷ drop k l) ≡ length l + 1
length-between r l k h = omega (arith, length-append (take k l) (r ∷ drop k l), length-take-le k l h, length-drop k l)

module _ (s : List ℤ) (n : ℕ) (r : Row) (holds : HoldsSet s n) where
  abbrev rows : List Row
  rows = set_in s n

  count : length rows ≡ n
  count = length-rows_at s 0 n

  -- it stands there: nothing changes
  pub left-standing : None ≡ place_of r rows → Left (within_limit (insert r rows)) s s (Ok n)
  left-standing e =
      rw (insert-standing r rows e, within-few rows (rw count holds.few))
      (record { answer = rw count refl; store = sym (with_rows_itself s n holds.stands) })

  module _ (k : ℕ) (place : Some k ≡ place_of r rows) where
    within : k ≤ n
    within = rw count at (place-within r rows k place)

    grown : length (insert r rows) ≡ n + 1
    grown = rw (insert-at r rows k place, length-between r rows k (place-within r rows k place), count)

    -- it would be the 129th
    pub left_full : n ≡ set_rows → Left (within_limit (insert r rows)) s s (Err TooManyRows)
    left_full e = rw (within_many (insert r rows) (omega (arith, grown))) (record { answer = refl; store = touched_none s })

    -- the rows behind it move up, and it is written between
    module _ (wide : Wide r) (few : n < set_rows) where
      below : numbers_of (take k rows) ≡ take (k * row_numbers) s
      below =
          sym (numbers_of-take rows (holds-wide holds) k (place-within r rows k place)) ∙
          ap (λ (l : List ℤ). take (k * row_numbers) l) (sym holds.stands.same) ∙ take-take (k * row_numbers) (n * row_numbers) s (omega (arith, within))

      above : numbers_of (drop k rows) ≡ take (n * row_numbers - k * row_numbers) (drop (k * row_numbers) s)
      above =
          let m : k * row_numbers + (n * row_numbers - k * row_numbers) ≡ n * row_numbers = omega (arith, within) in
          sym (numbers_of-drop rows (holds-wide holds) k (place-within r rows k place)) ∙
          ap (λ (l : List ℤ). drop (k * row_numbers) l) (sym holds.stands.same) ∙
          ap (λ (i : ℕ). drop (k * row_numbers) (take i s)) (sym m) ∙ drop-take (k * row_numbers) (n * row_numbers - k * row_numbers) s

      between : take k rows ++ r ∷ drop k rows ≡ insert r rows
      between = sym (insert-at r rows k place)

      inserted : numbers_of (insert r rows) ≡ take (k * row_numbers) s ++ (numbers r ++ take (n * row_numbers - k * row_numbers) (drop (k * row_numbers) s))
      unfolding numbers_of
      inserted =
          ap numbers_of (sym between) ∙ numbers_of-append (take k rows) (r ∷ drop k rows) ∙
          ap₂ {C = List ℤ} (λ x y. x ++ (numbers r ++ y)) below above

      length_inserted : length (numbers_of (insert r rows)) ≡ n * row_numbers + row_numbers
      length_inserted = omega (arith, length-numbers_of ((insert_all r rows).1 (wide, holds-wide holds)), grown)

      pub left_inserted : (t u : List ℤ) →
          t ≡ take (k * row_numbers + row_numbers) s ++ take (n * row_numbers - k * row_numbers) (drop (k * row_numbers) s) ++ drop (n * row_numbers + row_numbers) s →
          u ≡ with_row t (k * row_numbers) r → Left (within_limit (insert r rows)) s u (Ok (n + 1))
      unfolding with_rows
      left_inserted t u e f =
          let a = k * row_numbers in
          let b = n * row_numbers in
          let room : b + row_numbers ≤ length s = omega (arith, holds.long) in
          rw (within-few (insert r rows) (omega (arith, grown)))
          (record {
            answer = rw grown refl;
            store =
                f ∙ written-between s t r a b (omega (arith, within)) room e ∙
                rw (length_inserted, inserted) (simp append_assoc);
          })

-- ---- a settled row put
-- where nothing is put, all is as it was
standing-left : (s : List ℤ) (c : Joined) → StandingBy s c → Left (progress s c) s s c
standing-left s (Ok n) h = record { answer = rw length-rows_at refl; store = sym (with_rows_itself s n h.stands) }
standing-left s (Err q) h = record { answer = refl; store = touched_none s }

pub ready_left : (s : List ℤ) (c : Joined) → Ready s c → Left (progress s c) s s c
ready_left s c h = standing-left s c h.holds

-- by what became of the row, and by the outcome so far
module _ (s : List ℤ) (c : Joined) (r : Row) where
  pub put-gone : (f : Fate) → Ready s c → f ≡ Gone → Left (next f r (progress s c)) s s c
  put-gone f h e = rw e (ready_left s c h)

  pub put_large : (f : Fate) → f ≡ TooLarge → Left (next f r (progress s c)) s s (Err EntryTooLarge)
  put_large f e = rw e (record { answer = refl; store = touched_none s })

  pub put_refused : (q : Refusal) → c ≡ Err q → Left (next Kept r (progress s c)) s s (Err q)
  put_refused q d = rw d (record { answer = refl; store = touched_none s })

  pub put_inserted : (n : ℕ) → c ≡ Ok n → (s' : List ℤ) (x : Joined) → Left (within_limit (insert r (set_in s n))) s s' x → Left (next Kept r (progress s c)) s s' x
  put_inserted n d s' x h = rw d h

pub ready_start : {s : List ℤ} {n : ℕ} → HoldsSet s n → Ready s (Ok n)
ready_start h = record { long = h.long; holds = h }

pub ready_holds : (s : List ℤ) (c : Joined) (n : ℕ) → Ready s c → c ≡ Ok n → HoldsSet s n
ready_holds s c n h e = rw e at h.holds

-- ---- what a step leaves for the next: a set that may stand in a store, or a refusal
abbrev pub IsSet : List Row → Type 0
IsSet t = InOrder t × All (λ r. Small r.entries) t × All Wide t × (length t ≤ set_rows)

abbrev pub Proper : Result (List Row) → Type 0
Proper (Ok t) = IsSet t
Proper (Err q) = Unit {0}

pub set_in-store : {s : List ℤ} {n : ℕ} → HoldsSet s n → IsSet (set_in s n)
set_in-store {s} {n} h = (h.ordered, h.small, holds-wide h, rw length-rows_at h.few)

standing_proper : (s : List ℤ) (c : Joined) → StandingBy s c → Proper (progress s c)
standing_proper s (Ok n) h = set_in-store h
standing_proper s (Err q) h = tt

pub ready_proper : (s : List ℤ) (c : Joined) → Ready s c → Proper (progress s c)
ready_proper s c h = standing_proper s c h.holds

-- the answer and the store of a step say its result
pub left-progress : (x : Result (List Row)) (s s' : List ℤ) (c : Joined) → Proper x → Left x s s' c → progress s' c ≡ x
left-progress (Ok t) s s' c g h =
    rw (h.answer, h.store) (ap {B = Result (List Row)} Ok (rows-with_rows t s g.2))
left-progress (Err q) s s' c g h = rw h.answer refl

pub left-touched : (x : Result (List Row)) (s s' : List ℤ) (c : Joined) → Proper x → set_numbers ≤ length s → Left x s s' c → Touched s s'
left-touched (Ok t) s s' c g l h = rw h.store (touched-with_rows t s g.2 g.3 l)
left-touched (Err q) s s' c g l h = h.store

pub left_ready : (x : Result (List Row)) (s s' : List ℤ) (c : Joined) → Proper x → set_numbers ≤ length s → Left x s s' c → Ready s' c
left_ready (Ok t) s s' c g l h =
    record {
      long = rw (left-touched (Ok t) s s' c g l h).long l;
      holds = rw (h.answer, h.store) (holds-with_rows t s g.0 g.1 g.2 g.3 l);
    }
left_ready (Err q) s s' c g l h = record { long = rw h.store.long l; holds = rw h.answer tt }

-- two steps one after the other: a set that is found has at least the rows that were there
abbrev pub Grows : Result (List Row) → Result (List Row) → Type 0
Grows x (Err q) = Unit {0}
Grows (Ok t) (Ok u) = length t ≤ length u
Grows (Err q) (Ok u) = ⊥

pub left_twice : (x y : Result (List Row)) (s s' s'' : List ℤ) (c d : Joined) → Proper x → Proper y → Grows x y → set_numbers ≤ length s → Left x s s' c → Left y s' s'' d → Left y s s'' d
left_twice (Ok t) (Ok u) s s' s'' c d f g m l h k =
    let e : length (numbers_of t) ≤ length (numbers_of u) = omega (arith, length-numbers_of f.2, length-numbers_of g.2) in
    record { answer = k.answer; store = k.store ∙ ap (with_rows u) h.store ∙ with_rows_twice t u s e }
left_twice (Err q) (Ok u) s s' s'' c d f g m l h k = absurd m
left_twice (Ok t) (Err p) s s' s'' c d f g m l h k = record { answer = k.answer; store = touched_twice (left-touched (Ok t) s s' c f l h) k.store }
left_twice (Err q) (Err p) s s' s'' c d f g m l h k = record { answer = k.answer; store = touched_twice h.store k.store }

-- ---- one row more
within_proper : (t : List Row) → InOrder t → All (λ r. Small r.entries) t → All Wide t → Proper (within_limit t)
unfolding within_limit
within_proper t o m w = go (leb (length t) set_rows) refl
  where
    go : (b : Bool) → leb (length t) set_rows ≡ b → Proper (cond b (Ok t) (Err TooManyRows))
    go true e = (o, m, w, leb-true (length t) set_rows e)
    go false e = tt

within_grows : (t u : List Row) → length t ≤ length u → Grows (Ok t) (within_limit u)
unfolding within_limit
within_grows t u h = go (leb (length u) set_rows)
  where
    go : (b : Bool) → Grows (Ok t) (cond b (Ok u) (Err TooManyRows))
    go true = h
    go false = tt

pub next_proper : (f : Fate) (r : Row) (x : Result (List Row)) → IfKept (λ q. Small q.entries) f r → IfKept Wide f r → Proper x → Proper (next f r x)
next_proper Kept r (Ok t) m w g = within_proper (insert r t) (insert-ordered r t g.0) ((insert_all r t).1 (m, g.1)) ((insert_all r t).1 (w, g.2))
next_proper Kept r (Err q) m w g = tt
next_proper Gone r x m w g = g
next_proper TooLarge r x m w g = tt

grows_itself : (x : Result (List Row)) → Grows x x
grows_itself (Ok t) = le_refl (length t)
grows_itself (Err q) = tt

next_grows : (f : Fate) (r : Row) (x : Result (List Row)) → Grows x (next f r x)
next_grows Kept r (Ok t) = within_grows t (insert r t) (insert_grows r t)
next_grows Kept r (Err q) = tt
next_grows Gone r x = grows_itself x
next_grows TooLarge r x = tt

-- after a row was put: what the answer says, that a further row may be put, and what has become of the store since the first step
module _ (f : Fate) (r : Row) (small : IfKept (λ q. Small q.entries) f r) (wide : IfKept Wide f r) (s s' : List ℤ) (c c' : Joined) (ready : Ready s c)
    (put : Left (next f r (progress s c)) s s' c') where
  proper : Proper (next f r (progress s c))
  proper = next_proper f r (progress s c) small wide (ready_proper s c ready)

  pub put-progress : progress s' c' ≡ next f r (progress s c)
  put-progress = left-progress (next f r (progress s c)) s s' c' proper put

  pub put_ready : Ready s' c'
  put_ready = left_ready (next f r (progress s c)) s s' c' proper ready.long put

  pub put-left : (s₀ : List ℤ) → set_numbers ≤ length s₀ → Left (progress s c) s₀ s c → Left (progress s' c') s₀ s' c'
  put-left s₀ l h =
      rw put-progress
      (left_twice (progress s c) (next f r (progress s c)) s₀ s s' c c' (ready_proper s c ready) proper (next_grows f r (progress s c)) l h put)

-- 9 stays, whatever comes
pub put_all_large : (rs : List Row) → put_all rs (Err EntryTooLarge) ≡ Err EntryTooLarge
unfolding put_all
put_all_large [] = refl
put_all_large (r ∷ rs) = go (divided_down r).fate (put_all_large rs)
  where
    go : (f : Fate) → put_all rs (Err EntryTooLarge) ≡ Err EntryTooLarge → put_all rs (next f (divided_down r).row (Err EntryTooLarge)) ≡ Err EntryTooLarge
    go Kept e = e
    go Gone e = e
    go TooLarge e = e

-- too many rows stay too many, unless 9 comes
pub put_all_many : (rs t : List Row) → set_rows < length t → put_all rs (Err TooManyRows) ≡ joined rs t
unfolding put_all joined joined_all and_then
put_all_many [] t h = sym (within_many t h)
put_all_many (r ∷ rs) t h = go (divided_down r).fate (divided_down r).row (put_all_many rs)
  where
    go : (f : Fate) (q : Row) → ((u : List Row) → set_rows < length u → put_all rs (Err TooManyRows) ≡ joined rs u) →
        put_all rs (next f q (Err TooManyRows)) ≡ and_then (and_then (put f q t) (λ u. joined_all rs u)) within_limit
    go Kept q ih = ih (insert q t) (omega (arith, insert_grows q t))
    go Gone q ih = ih t h
    go TooLarge q ih = put_all_large rs

pub joined-put_all : (rs t : List Row) → length t ≤ set_rows → put_all rs (Ok t) ≡ joined rs t
unfolding put_all joined joined_all and_then
joined-put_all [] t h = sym (within-few t h)
joined-put_all (r ∷ rs) t h = go (divided_down r).fate (divided_down r).row (joined-put_all rs)
  where
    more : (u : List Row) (b : Bool) → leb (length u) set_rows ≡ b → ((u : List Row) → length u ≤ set_rows → put_all rs (Ok u) ≡ joined rs u) →
        put_all rs (cond b (Ok u) (Err TooManyRows)) ≡ joined rs u
    more u true e ih = ih u (leb-true (length u) set_rows e)
    more u false e ih = put_all_many rs u (leb-false (length u) set_rows e)

    go : (f : Fate) (q : Row) → ((u : List Row) → length u ≤ set_rows → put_all rs (Ok u) ≡ joined rs u) →
        put_all rs (next f q (Ok t)) ≡ and_then (and_then (put f q t) (λ u. joined_all rs u)) within_limit
    go Kept q ih = ap (put_all rs) (within-is (insert q t)) ∙ more (insert q t) (leb (length (insert q t)) set_rows) refl ih
    go Gone q ih = ih t h
    go TooLarge q ih = put_all_large rs

-- so what joining finds may stand in a store, and has at least the rows that were there
pub put_all_proper : (rs : List Row) (x : Result (List Row)) → All Wide rs → Proper x → Proper (put_all rs x)
unfolding put_all
put_all_proper [] x w g = g
put_all_proper (r ∷ rs) x (cons h w) g =
    put_all_proper rs (next (divided_down r).fate (divided_down r).row x) w
    (next_proper (divided_down r).fate (divided_down r).row x (divided_down-small r) (divided_down-wide r h) g)

pub joined_proper : (rs t : List Row) → All Wide rs → IsSet t → Proper (joined rs t)
joined_proper rs t w g = rw (← joined-put_all rs t g.3) (put_all_proper rs (Ok t) w g)

grows_twice : (x y z : Result (List Row)) → Grows x y → Grows y z → Grows x z
grows_twice x y (Err q) h k = tt
grows_twice (Ok t) (Ok u) (Ok v) h k = le_trans h k
grows_twice (Err p) (Ok u) (Ok v) h k = h
grows_twice x (Err q) (Ok v) h k = absurd k

pub put_all_grows : (rs : List Row) (x : Result (List Row)) → Grows x (put_all rs x)
unfolding put_all
put_all_grows [] x = grows_itself x
put_all_grows (r ∷ rs) x =
    let y = next (divided_down r).fate (divided_down r).row x in
    grows_twice x y (put_all rs y) (next_grows (divided_down r).fate (divided_down r).row x) (put_all_grows rs y)

-- after rows were joined: what the answer says, that a further row may be put, and what has become of the store since the first step
module _ (rs : List Row) (wide : All Wide rs) (s s' : List ℤ) (c c' : Joined) (ready : Ready s c) (left : Left (put_all rs (progress s c)) s s' c') where
  all_proper : Proper (put_all rs (progress s c))
  all_proper = put_all_proper rs (progress s c) wide (ready_proper s c ready)

  pub put_all-progress : progress s' c' ≡ put_all rs (progress s c)
  put_all-progress = left-progress (put_all rs (progress s c)) s s' c' all_proper left

  pub put_all_ready : Ready s' c'
  put_all_ready = left_ready (put_all rs (progress s c)) s s' c' all_proper ready.long left

  pub put_all-left : (s₀ : List ℤ) → set_numbers ≤ length s₀ → Left (progress s c) s₀ s c → Left (progress s' c') s₀ s' c'
  put_all-left s₀ l h =
      rw put_all-progress
      (left_twice (progress s c) (put_all rs (progress s c)) s₀ s s' c c' (ready_proper s c ready) all_proper (put_all_grows rs (progress s c)) l h left)

-- ---- rows joined in two parts
pub put_all-append : (l m : List Row) (x : Result (List Row)) → put_all (l ++ m) x ≡ put_all m (put_all l x)
unfolding put_all
put_all-append [] m x = refl
put_all-append (r ∷ l) m x = put_all-append l m (next (divided_down r).fate (divided_down r).row x)

-- ---- a set whose rows are divided down joins the empty one as it stands: each row is put behind the others
joined-behind : (s l : List Row) → InOrder (s ++ l) → All (λ r. divided_down r ≡ kept r) l → joined_all l s ≡ Ok (s ++ l)
unfolding joined_all and_then
joined-behind s [] h a = ap {B = Result (List Row)} Ok (sym (append-nil s))
joined-behind s (r ∷ l) h (cons e a) =
    rw (e, insert_last s r l h)
    (joined-behind (s ++ r ∷ []) l (rw (append_snoc s r l) h) a ∙ ap {B = Result (List Row)} Ok (append_snoc s r l))

pub joined_itself : (l : List Row) → InOrder l → All (λ r. divided_down r ≡ kept r) l → length l ≤ set_rows → joined l [] ≡ Ok l
unfolding joined and_then
joined_itself l o a h = rw (joined-behind [] l o a) (within-few l h)

-- ---- the rows of a store, the next one being row i
module _ (from : List ℤ) (at m i : ℕ) where
  pub rows_left : i < m → rows_at from (at + i * row_numbers) (m - i) ≡ row_at from (at + i * row_numbers) ∷ rows_at from (at + (i + 1) * row_numbers) (m - (i + 1))
  unfolding rows_at
  rows_left h =
      let e : m - i ≡ suc (m - (i + 1)) = omega arith in
      let f : at + (i + 1) * row_numbers ≡ at + i * row_numbers + row_numbers = omega arith in
      rw (e, f)

  pub rows-done : m ≤ i → rows_at from (at + i * row_numbers) (m - i) ≡ []
  unfolding rows_at
  rows-done h = let e : m - i ≡ 0 = omega arith in rw e

  pub put_all-row : i < m → (x y : Result (List Row)) → y ≡ next (divided_down (row_at from (at + i * row_numbers))).fate (divided_down (row_at from (at + i * row_numbers))).row x →
      put_all (rows_at from (at + (i + 1) * row_numbers) (m - (i + 1))) y ≡ put_all (rows_at from (at + i * row_numbers) (m - i)) x
  unfolding put_all
  put_all-row h x y e = rw (rows_left h, e)

  pub put_all-done : m ≤ i → (x : Result (List Row)) → put_all (rows_at from (at + i * row_numbers) (m - i)) x ≡ x
  unfolding put_all
  put_all-done h x = rw (rows-done h)

pub put_all-start : (from : List ℤ) (at m : ℕ) (t : List Row) → length t ≤ set_rows → put_all (rows_at from (at + 0 * row_numbers) (m - 0)) (Ok t) ≡ joined (rows_at from at m) t
put_all-start from at m t h = rw (add-zero, sub-zero) (joined-put_all (rows_at from at m) t h)
