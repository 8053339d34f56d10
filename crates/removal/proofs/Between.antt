-- A set in one of two stores: what may stand there, what a step that wrote one of them leaves, steps one after the other, and the stores
-- once they are cleared. Assumes nothing.
use mathlib.Core.Path.{◌≡◌, refl, sym, ap, ◌∙◌}
use mathlib.Core.Bool.{Bool, true, false, not}
use mathlib.Core.List.{List, [], ◌∷◌, ◌++◌}
use Prim.Native.Nat.{ℕ, ◌*◌, ◌≤◌, zero-le}
use native.Mathlib.Omega.{arith}
use lib.ListN.{length, take}
use lib.IntN.{ℤ}
use Rattle.integers.specs.Lists.{All, nil}
use Rattle.integers.proofs.Tests.{not-both}
use Rattle.rows.specs.declared.Row.{Row}
use Rattle.rows.specs.Rows.{entry_count, row_numbers, set_numbers, kept, divided_down}
use Rattle.rows.proofs.Dividing.{Wide}
use Rattle.rows.proofs.Pairing.{paired-wide}
use Rattle.sets.specs.declared.Refusal.{Refusal}
use Rattle.sets.specs.Outcomes.{Ok, Err, Result, and_then}
use Rattle.sets.specs.Stores.{Joined, with_rows, set_in, HoldsSet, answer_of, Touched, Left}
use Rattle.sets.specs.Sets.{none, joined}
use Rattle.sets.proofs.Stores.{length-numbers_of, length-rows_at, rows_back, stands_back, take-with_rows, touched_none, touched_twice, zeroed-touched}
use Rattle.sets.proofs.Joining.{joined_settled}
use Rattle.sets.proofs.Steps.{IsSet, Proper, set_in-store, left-touched, joined_proper}
use Rattle.removal.specs.declared.Placed.{Placed}
use Rattle.removal.specs.Removal.{remaining, removed, all_removed}
use Rattle.removal.specs.Alone.{pick, side_after, placed, placed_as, side, rows_placed, standing, Standing, Between, Front, Moved, store_after, tidied, Tidied}
use Rattle.removal.proofs.Kept.{remaining-keeps}

-- ---- a set of rows that are divided down, or a refusal
abbrev pub MayStand : Result (List Row) → Type 0
MayStand (Ok t) = IsSet t × All (λ r. divided_down r ≡ kept r) t
MayStand (Err q) = Unit {0}

proper_of : (x : Result (List Row)) → MayStand x → Proper x
proper_of (Ok t) g = g.0
proper_of (Err q) g = tt

-- rows that join such a set
pub more_may_stand : (rs t : List Row) → All Wide rs → MayStand (Ok t) → MayStand (joined rs t)
more_may_stand rs t w h = go (joined rs t) refl (joined_proper rs t w h.0)
  where
    go : (x : Result (List Row)) → joined rs t ≡ x → Proper x → MayStand x
    go (Ok u) e g = (g, joined_settled rs t u e h.1)
    go (Err q) e g = tt

pub joined_may_stand : (rs : List Row) → All Wide rs → MayStand (joined rs [])
joined_may_stand rs w = more_may_stand rs [] w ((none, nil, nil, zero-le), nil)

pub removed_may_stand : (v : ℕ) (s : List Row) → All Wide s → MayStand (removed v s)
unfolding removed
removed_may_stand v s w = joined_may_stand (remaining v s) (remaining-keeps Wide v (λ r s h k. paired-wide v entry_count r s h k) s w)

-- ---- one variable more at the end
pub then_itself : {A : Type 0} (x : Result A) → and_then x Ok ≡ x
unfolding and_then
then_itself (Ok t) = refl
then_itself (Err q) = refl

pub none-removed : (x : Result (List Row)) → and_then x (all_removed []) ≡ x
unfolding all_removed
none-removed x = then_itself x

pub all_removed-more : (vs : List ℕ) (v : ℕ) (x : Result (List Row)) → and_then x (all_removed (vs ++ v ∷ [])) ≡ and_then (and_then x (all_removed vs)) (removed v)
unfolding and_then all_removed
all_removed-more [] v (Ok t) = then_itself (removed v t)
all_removed-more [] v (Err q) = refl
all_removed-more (u ∷ vs) v x = go x (all_removed-more vs v)
  where
    go : (x : Result (List Row)) → ((y : Result (List Row)) → and_then y (all_removed (vs ++ v ∷ [])) ≡ and_then (and_then y (all_removed vs)) (removed v)) →
        and_then x (all_removed (u ∷ vs ++ v ∷ [])) ≡ and_then (and_then x (all_removed (u ∷ vs))) (removed v)
    go (Ok t) ih = ih (removed u t)
    go (Err q) ih = refl

pub side_more : (second : Bool) (vs : List ℕ) (v : ℕ) → side_after second (vs ++ v ∷ []) ≡ not (side_after second vs)
side_more second [] v = refl
side_more second (u ∷ vs) v = side_more (not second) vs v

pub all_may_stand : (vs : List ℕ) (x : Result (List Row)) → MayStand x → MayStand (and_then x (all_removed vs))
unfolding and_then all_removed
all_may_stand [] x g = rw (then_itself x) g
all_may_stand (v ∷ vs) x g = go x g (all_may_stand vs)
  where
    go : (x : Result (List Row)) → MayStand x → ((y : Result (List Row)) → MayStand y → MayStand (and_then y (all_removed vs))) → MayStand (and_then x (all_removed (v ∷ vs)))
    go (Ok t) g ih = ih (removed v t) (removed_may_stand v t g.0.2)
    go (Err q) g ih = tt

-- ---- a step that wrote one of the stores
placed-answer : (second : Bool) (x : Result (List Row)) (c : Joined) → c ≡ answer_of x → placed_as second c ≡ placed second x
placed-answer second (Ok t) c e = ap (placed_as second) e
placed-answer second (Err q) c e = ap (placed_as second) e

left-front : (x : Result (List Row)) (s s' : List ℤ) (c : Joined) → MayStand x → Left x s s' c → Front x s'
left-front (Ok t) s s' c g h = rw h.store (take-with_rows t s g.0.2)
left-front (Err q) s s' c g h = tt

module _ (x : Result (List Row)) (a b : List ℤ) (c : Joined) (g : MayStand x) where
  pub left-first : (a' : List ℤ) → set_numbers ≤ length a → Left x a a' c → Moved false x a b a' b (placed_as false c)
  left-first a' l h =
      record {
        answer = placed-answer false x c h.answer;
        front = left-front x a a' c g h;
        first_touched = left-touched x a a' c (proper_of x g) l h;
        second_touched = touched_none b;
      }

  pub left-second : (b' : List ℤ) → set_numbers ≤ length b → Left x b b' c → Moved true x a b a b' (placed_as true c)
  left-second b' l h =
      record {
        answer = placed-answer true x c h.answer;
        front = left-front x b b' c g h;
        first_touched = touched_none a;
        second_touched = left-touched x b b' c (proper_of x g) l h;
      }

-- a refusal is handed on
pub moved-refused : (second : Bool) (q : Refusal) (a b : List ℤ) → Moved second (Err q) a b a b (Err q)
moved-refused second q a b = record { answer = refl; front = tt; first_touched = touched_none a; second_touched = touched_none b }

-- ---- where nothing was done yet
pub between-stands : (a b : List ℤ) (s : Result Placed) → Between a b s → MayStand (standing a b s)
between-stands a b (Ok s) h = (set_in-store h.stands.holds, h.stands.divided)
between-stands a b (Err q) h = tt

pub between-moved : (a b : List ℤ) (s : Result Placed) → Between a b s → Moved (side s) (standing a b s) a b a b s
between-moved a b (Ok s) h =
    let store = pick s.second a b in
    let n : s.rows ≡ length (set_in store s.rows) = sym (length-rows_at store 0 s.rows) in
    record {
      answer = ap (λ (k : ℕ). Ok (record { rows = k; second = s.second })) n;
      front = ap (λ (k : ℕ). take (k * row_numbers) store) (length-rows_at store 0 s.rows) ∙ h.stands.holds.stands.same;
      first_touched = touched_none a;
      second_touched = touched_none b;
    }
between-moved a b (Err q) h = record { answer = refl; front = tt; first_touched = touched_none a; second_touched = touched_none b }

-- ---- what was left stands there for the next step
pick-long : (second : Bool) (a b : List ℤ) → set_numbers ≤ length a → set_numbers ≤ length b → set_numbers ≤ length (pick second a b)
pick-long true a b l m = m
pick-long false a b l m = l

front-holds : (t : List Row) (s : List ℤ) → IsSet t → set_numbers ≤ length s → Front (Ok t) s → HoldsSet s (length t)
front-holds t s g l e =
    let b = rows_back t s 0 g.2 e in
    record { long = l; few = g.3; stands = stands_back t s 0 g.2 (omega (arith, g.3)) e; ordered = rw b g.0; small = rw b g.1 }

module _ (second : Bool) (a b a' b' : List ℤ) (r : Result Placed) where
  pub moved-standing : (x : Result (List Row)) → MayStand x → Moved second x a b a' b' r → standing a' b' r ≡ x
  moved-standing (Ok t) g h = rw h.answer (ap {B = Result (List Row)} Ok (rows_back t (pick second a' b') 0 g.0.2 h.front))
  moved-standing (Err q) g h = rw h.answer refl

  pub moved-between : (x : Result (List Row)) → MayStand x → set_numbers ≤ length a → set_numbers ≤ length b → Moved second x a b a' b' r → Between a' b' r
  moved-between x g l m h =
      let l' : set_numbers ≤ length a' = rw h.first_touched.long l in
      let m' : set_numbers ≤ length b' = rw h.second_touched.long m in
      record { first_long = l'; second_long = m'; stands = rw h.answer (go x g h.front (pick-long second a' b' l' m')) }
    where
      go : (x : Result (List Row)) → MayStand x → Front x (pick second a' b') → set_numbers ≤ length (pick second a' b') → Standing a' b' (placed second x)
      go (Ok t) g e k = record { holds = front-holds t (pick second a' b') g.0 k e; divided = rw (rows_back t (pick second a' b') 0 g.0.2 e) g.1 }
      go (Err q) g e k = tt

-- a further step: `next` says where its set stands, from where it stood
module _ (next : Bool → Bool) (f : List Row → Result (List Row)) (second : Bool) (a b a' b' a'' b'' : List ℤ) (r r' : Result Placed) where
  pub moved-again : (x : Result (List Row)) → MayStand x → Moved second x a b a' b' r →
      Moved (next (side r)) (and_then (standing a' b' r) f) a' b' a'' b'' r' → Moved (next second) (and_then x f) a b a'' b'' r'
  unfolding and_then
  moved-again x g h k = go x h (rw (moved-standing second a b a' b' r x g h) at k)
    where
      go : (x : Result (List Row)) → Moved second x a b a' b' r → Moved (next (side r)) (and_then x f) a' b' a'' b'' r' → Moved (next second) (and_then x f) a b a'' b'' r'
      go (Ok t) h k =
          let e : side r ≡ second = ap side h.answer in
          let m : Moved (next second) (f t) a' b' a'' b'' r' = rw e at k in
          record { answer = m.answer; front = m.front; first_touched = touched_twice h.first_touched m.first_touched; second_touched = touched_twice h.second_touched m.second_touched }
      go (Err q) h k =
          record { answer = k.answer; front = tt; first_touched = touched_twice h.first_touched k.first_touched; second_touched = touched_twice h.second_touched k.second_touched }

-- ---- the stores cleared behind it
pub tidied-store : (here : Bool) (t : List Row) (s s' : List ℤ) → IsSet t → set_numbers ≤ length s → Touched s s' → (here ≡ true → Front (Ok t) s') →
    tidied here (length t) s' ≡ store_after here (Ok t) s
unfolding with_rows
tidied-store true t s s' g l e f = rw (f refl, zeroed-touched l e, length-numbers_of g.2)
tidied-store false t s s' g l e f = zeroed-touched l e

tidied-none : (here : Bool) (q : Refusal) (s s' : List ℤ) → set_numbers ≤ length s → Touched s s' → tidied here 0 s' ≡ store_after here (Err q) s
tidied-none true q s s' l e = zeroed-touched l e
tidied-none false q s s' l e = zeroed-touched l e

refused_store : (here there : Bool) (q : Refusal) (s : List ℤ) → store_after here (Err q) s ≡ store_after there (Err q) s
refused_store true true q s = refl
refused_store true false q s = refl
refused_store false true q s = refl
refused_store false false q s = refl

module _ (second : Bool) (a b a' b' : List ℤ) (r : Result Placed) (l : set_numbers ≤ length a) (m : set_numbers ≤ length b) where
  -- the rows that an answer speaks of are in its store
  pub moved-room : (x : Result (List Row)) → MayStand x → Moved second x a b a' b' r → rows_placed r * row_numbers ≤ length (pick (side r) a' b')
  moved-room (Ok t) g h =
      let k = pick-long second a' b' (rw h.first_touched.long l) (rw h.second_touched.long m) in
      rw h.answer (omega (arith, g.0.3))
  moved-room (Err q) g h = rw h.answer zero-le

  pub moved-tidied : (x : Result (List Row)) → MayStand x → Moved second x a b a' b' r → (a'' b'' : List ℤ) → Tidied r a' b' a'' b'' →
      (a'' ≡ store_after (not second) x a) × (b'' ≡ store_after second x b)
  moved-tidied x g h a'' b'' t = go x g h (rw h.answer at t.first) (rw h.answer at t.second)
    where
      in_first : (d : Bool) (t : List Row) → Front (Ok t) (pick d a' b') → not d ≡ true → Front (Ok t) a'
      in_first true t f e = not-both e
      in_first false t f e = f

      in_second : (d : Bool) (t : List Row) → Front (Ok t) (pick d a' b') → d ≡ true → Front (Ok t) b'
      in_second true t f e = f
      in_second false t f e = not-both e

      go : (x : Result (List Row)) → MayStand x → Moved second x a b a' b' r →
          a'' ≡ tidied (not (side (placed second x))) (rows_placed (placed second x)) a' →
          b'' ≡ tidied (side (placed second x)) (rows_placed (placed second x)) b' →
          (a'' ≡ store_after (not second) x a) × (b'' ≡ store_after second x b)
      go (Ok t) g h e f = (
        e ∙ tidied-store (not second) t a a' g.0 l h.first_touched (in_first second t h.front),
        f ∙ tidied-store second t b b' g.0 m h.second_touched (in_second second t h.front),
      )
      go (Err q) g h e f = (
        e ∙ tidied-none true q a a' l h.first_touched ∙ refused_store true (not second) q a,
        f ∙ tidied-none false q b b' m h.second_touched ∙ refused_store false second q b,
      )
