-- Sets are in order: insertion, joining and leaving rows out keep it, and in an ordered list no row stands twice. Assumes nothing.
use mathlib.Core.Path.{◌≡◌, refl}
use mathlib.Core.Bool.{Bool, true, false, cond}
use mathlib.Core.List.{List, [], ◌∷◌, ◌++◌}
use Rattle.integers.specs.Lists.{All, nil, cons, In, filter}
use Rattle.integers.proofs.Lists.{all_map, all_of, all_in, all_filter}
use Rattle.rows.specs.declared.Row.{Row}
use Rattle.std.specs.declared.cmp.Ordering.{Ordering}
use Rattle.std.specs.declared.cmp.Ordering.TheVariants.{Less, Equal, Greater}
use Rattle.rows.specs.Rows.{divided_down, row_order}
use Rattle.rows.proofs.Ordering.{after-before, row-trans, before_differs}
use Rattle.rows.proofs.Dividing.{if_all}
use Rattle.sets.specs.Outcomes.{Ok}
use Rattle.sets.specs.Sets.{InOrder, none, one, more, place, insert, joined_all, joined}
use Rattle.sets.proofs.Joining.{joined-found, joined_all_carries}

pub order_tail : {r : Row} {l : List Row} → InOrder (r ∷ l) → InOrder l
order_tail one = none
order_tail (more e h) = h

pub order_head : {r s : Row} {l : List Row} → InOrder (r ∷ s ∷ l) → row_order r s ≡ Less
order_head (more e h) = e

-- what stands first after an insertion behind s is behind s
insert-behind : (s r : Row) (l : List Row) → row_order s r ≡ Less → InOrder (s ∷ l) → InOrder (insert r l) → InOrder (s ∷ insert r l)
unfolding insert
insert-behind s r [] e h k = more e one
insert-behind s r (u ∷ l) e h k = go (row_order r u) k
  where
    go : (o : Ordering) → InOrder (place o r u l (insert r l)) → InOrder (s ∷ place o r u l (insert r l))
    go Less k = more e k
    go Equal k = more (order_head h) k
    go Greater k = more (order_head h) k

place-ordered : (r s : Row) (l : List Row) → InOrder (s ∷ l) → InOrder (insert r l) → (o : Ordering) → row_order r s ≡ o → InOrder (place o r s l (insert r l))
place-ordered r s l h ih Less e = more e h
place-ordered r s l h ih Equal e = h
place-ordered r s l h ih Greater e = insert-behind s r l (after-before r s e) h ih

pub insert-ordered : (r : Row) (l : List Row) → InOrder l → InOrder (insert r l)
unfolding insert
insert-ordered r [] h = one
insert-ordered r (s ∷ l) h = place-ordered r s l h (insert-ordered r l (order_tail h)) (row_order r s) refl

pub joined_all-ordered : (rs s t : List Row) → joined_all rs s ≡ Ok t → InOrder s → InOrder t
joined_all-ordered rs s t e =
    joined_all_carries (λ r. Unit {0}) InOrder
    (λ r s u h. if_all (λ q. InOrder (insert q s)) (λ q. insert-ordered q s h) (divided_down r).fate (divided_down r).row)
    rs s t e (all_of rs (λ r. tt))

pub joined-ordered : (rs s t : List Row) → joined rs s ≡ Ok t → InOrder s → InOrder t
joined-ordered rs s t e = joined_all-ordered rs s t (joined-found rs s t e).0

-- ---- the first row is before every other
pub first-before : {r : Row} {l : List Row} → InOrder (r ∷ l) → All (λ s. row_order r s ≡ Less) l
first-before one = nil
first-before {r = r} (more {s = s} e h) = cons e (all_map (λ t f. row-trans r s t e f) (first-before h))

-- so no row stands twice
pub no_twice : (k : List Row) (r : Row) (l : List Row) → InOrder (k ++ r ∷ l) → ¬ In r l
no_twice [] r l h i = before_differs r r (all_in (first-before h) i) refl
no_twice (s ∷ k) r l h i = no_twice k r l (order_tail h) i

-- ---- some rows of a set are in order too
pub order_cons : {r : Row} {l : List Row} → All (λ s. row_order r s ≡ Less) l → InOrder l → InOrder (r ∷ l)
order_cons nil h = one
order_cons (cons e a) h = more e h

pub filter-ordered : (f : Row → Bool) (l : List Row) → InOrder l → InOrder (filter f l)
unfolding filter
filter-ordered f [] h = none
filter-ordered f (r ∷ l) h = go (f r) (filter-ordered f l (order_tail h)) ((all_filter f l).1 (all_map (λ s e t. e) (first-before h)))
  where
    go : (b : Bool) → InOrder (filter f l) → All (λ s. row_order r s ≡ Less) (filter f l) → InOrder (cond b (r ∷ filter f l) (filter f l))
    go true o a = order_cons a o
    go false o a = o
