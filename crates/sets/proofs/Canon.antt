-- A set is determined by its members: so the order in which rows are joined, and repeats, do not matter. Assumes nothing.
use mathlib.Core.Path.{◌≡◌, refl, sym, ◌∙◌, ap, ap₂, subst}
use mathlib.Core.Logic.Iff
use mathlib.Core.Logic.{◌↔◌, ◌≢◌, ◌⊎◌, inl, inr, ⊎_elim}
use mathlib.Core.List.{List, [], ◌∷◌, ◌++◌}
use Prim.Native.Nat.{◌≤◌}
use native.Mathlib.Nat.{le_refl, le_trans}
use native.Mathlib.Omega.{arith}
use lib.ListN.{length}
use Rattle.integers.specs.Lists.{All, nil, cons}
use Rattle.integers.proofs.Lists.{all_head, all_tail, all_map, all_of, all-zip}
use Rattle.rows.specs.declared.Row.{Row}
use Rattle.rows.specs.declared.Fate.{Fate}
use Rattle.rows.specs.declared.Fate.TheVariants.{Kept, Gone, TooLarge}
use Rattle.std.specs.declared.cmp.Ordering.{Ordering}
use Rattle.std.specs.declared.cmp.Ordering.TheVariants.{Less, Equal, Greater}
use Rattle.rows.specs.Rows.{divided_down, row_order}
use Rattle.rows.proofs.Ordering.{row_same, row-trans, after-before, before_differs}
use Rattle.rows.proofs.Dividing.{if_all}
use Rattle.sets.specs.Outcomes.{Result, Ok, Err, and_then}
use Rattle.sets.specs.Sets.{InOrder, place, insert, put, put_settled, joined_all, joined}
use Rattle.sets.proofs.Joining.{insert_all, joined_all_carries}
use Rattle.sets.proofs.Ordered.{order_tail, insert-ordered, first-before}

-- ---- the same members, the same set
abbrev pub SameMembers : List Row → List Row → Type 1
SameMembers l k = (P : Row → Type 0) → All P l ↔ All P k

none-some : {l : List Row} {x : Row} → SameMembers [] (x ∷ l) → ⊥
none-some m = all_head ((m (λ x. ⊥)).0 nil)

not_first : {x y : Row} {l k : List Row} → InOrder (y ∷ k) → SameMembers (x ∷ l) (y ∷ k) → row_order x y ≡ Less → ⊥
not_first {x} {y} {l} {k} hk m e =
    all_head ((m (λ z. z ≢ x)).1 (cons (before_differs x y e) (all_map (λ z f. before_differs x z (row-trans x y z e f)) (first-before hk)))) refl

members_sym : {l k : List Row} → SameMembers l k → SameMembers k l
members_sym m P = Iff.symm (m P)

tail_members : {x : Row} {l k : List Row} → InOrder (x ∷ l) → InOrder (x ∷ k) → SameMembers (x ∷ l) (x ∷ k) → SameMembers l k
tail_members {x} {l} {k} hl hk m P = (half hk m, half hl (members_sym m))
  where
    half : {l k : List Row} → InOrder (x ∷ k) → SameMembers (x ∷ l) (x ∷ k) → All P l → All P k
    half hk m a =
        let b = all_tail ((m (λ z. (z ≡ x) ⊎ P z)).0 (cons (inl refl) (all_map (λ z h. inr h) a))) in
        all_map (λ z c. ⊎_elim (λ e. absurd (before_differs x z c.0 e)) (λ h. h) c.1) (all-zip (first-before hk) b)

pub same_set : (l k : List Row) → InOrder l → InOrder k → SameMembers l k → l ≡ k
same_set [] [] hl hk m = refl
same_set [] (y ∷ k) hl hk m = absurd (none-some m)
same_set (x ∷ l) [] hl hk m = absurd (none-some (members_sym m))
same_set (x ∷ l) (y ∷ k) hl hk m = go (row_order x y) refl (λ h n. same_set l k (order_tail hl) h n)
  where
    go : (o : Ordering) → row_order x y ≡ o → (InOrder k → SameMembers l k → l ≡ k) → ◌≡◌ {A = List Row} (x ∷ l) (y ∷ k)
    go Less e ih = absurd (not_first hk m e)
    go Equal e ih =
        let f = row_same x y e in
        let h : InOrder (x ∷ k) = subst (λ (u : Row). InOrder (u ∷ k)) (sym f) hk in
        let n : SameMembers (x ∷ l) (x ∷ k) = subst (λ (u : Row). SameMembers (x ∷ l) (u ∷ k)) (sym f) m in
        ap₂ {C = List Row} (λ a b. a ∷ b) f (ih (order_tail hk) (tail_members hl h n))
    go Greater e ih = absurd (not_first hl (members_sym m) (after-before x y e))

-- ---- inserting in another order, or twice
pub insert-swap : (a b : Row) (s : List Row) → InOrder s → insert a (insert b s) ≡ insert b (insert a s)
insert-swap a b s h = same_set _ _ (insert-ordered a (insert b s) (insert-ordered b s h)) (insert-ordered b (insert a s) (insert-ordered a s h)) (λ P. (
  λ x. let y = (insert_all a (insert b s)).0 x in let z = (insert_all b s).0 y.1 in (insert_all b (insert a s)).1 (z.0, (insert_all a s).1 (y.0, z.1)),
  λ x. let y = (insert_all b (insert a s)).0 x in let z = (insert_all a s).0 y.1 in (insert_all a (insert b s)).1 (z.0, (insert_all b s).1 (y.0, z.1)),
))

pub insert_twice : (a : Row) (s : List Row) → InOrder s → insert a (insert a s) ≡ insert a s
insert_twice a s h = same_set _ _ (insert-ordered a (insert a s) (insert-ordered a s h)) (insert-ordered a s h) (λ P.
    (λ x. ((insert_all a (insert a s)).0 x).1, λ x. (insert_all a (insert a s)).1 (((insert_all a s).0 x).0, x)))

-- ---- joining in another order
pub data Shuffled : List Row → List Row → Type 0 where
  alike : {l : List Row} → Shuffled l l
  skip : {r : Row} {l k : List Row} → Shuffled l k → Shuffled (r ∷ l) (r ∷ k)
  swap : {r s : Row} {l : List Row} → Shuffled (r ∷ s ∷ l) (s ∷ r ∷ l)
  trans : {l k j : List Row} → Shuffled l k → Shuffled k j → Shuffled l j

swap-put : (g : List Row → Result (List Row)) (e f : Fate) (a b : Row) (s : List Row) → InOrder s →
    and_then (put e a s) (λ t. and_then (put f b t) g) ≡ and_then (put f b s) (λ t. and_then (put e a t) g)
unfolding and_then
swap-put g Kept Kept a b s h = ap g (insert-swap b a s h)
swap-put g Kept Gone a b s h = refl
swap-put g Kept TooLarge a b s h = refl
swap-put g Gone Kept a b s h = refl
swap-put g Gone Gone a b s h = refl
swap-put g Gone TooLarge a b s h = refl
swap-put g TooLarge Kept a b s h = refl
swap-put g TooLarge Gone a b s h = refl
swap-put g TooLarge TooLarge a b s h = refl

put-alike : (g k : List Row → Result (List Row)) (f : Fate) (a : Row) (s : List Row) → InOrder s → ((t : List Row) → InOrder t → g t ≡ k t) → and_then (put f a s) g ≡ and_then (put f a s) k
unfolding and_then
put-alike g k Kept a s h e = e (insert a s) (insert-ordered a s h)
put-alike g k Gone a s h e = e s h
put-alike g k TooLarge a s h e = refl

shuffled_all : {l k : List Row} → Shuffled l k → (s : List Row) → InOrder s → joined_all l s ≡ joined_all k s
unfolding joined_all
shuffled_all alike s h = refl
shuffled_all (skip {r = r} {l = l} {k = k} x) s h = put-alike (λ t. joined_all l t) (λ t. joined_all k t) (divided_down r).fate (divided_down r).row s h (shuffled_all x)
shuffled_all (swap {r = r} {s = u} {l = l}) s h = swap-put (λ t. joined_all l t) (divided_down r).fate (divided_down u).fate (divided_down r).row (divided_down u).row s h
shuffled_all (trans x y) s h = shuffled_all x s h ∙ shuffled_all y s h

pub joined_shuffled : {l k : List Row} → Shuffled l k → (s : List Row) → InOrder s → joined l s ≡ joined k s
unfolding joined
joined_shuffled x s h = rw (shuffled_all x s h) refl

-- ---- for loops: a list joined in two parts; and a set never shrinks, so what is past 128 stays past it
pub joined_parts : (l k s : List Row) → joined_all (l ++ k) s ≡ and_then (joined_all l s) (λ t. joined_all k t)
unfolding joined_all and_then
joined_parts [] k s = refl
joined_parts (r ∷ l) k s = go (put_settled (divided_down r) s) (joined_parts l k)
  where
    go : (o : Result (List Row)) → ((t : List Row) → joined_all (l ++ k) t ≡ and_then (joined_all l t) (λ t. joined_all k t)) →
        and_then o (λ t. joined_all (l ++ k) t) ≡ and_then (and_then o (λ t. joined_all l t)) (λ t. joined_all k t)
    go (Ok t) f = f t
    go (Err n) f = refl

place_grows : (o : Ordering) (r s : Row) (l behind : List Row) → length l ≤ length behind → length (s ∷ l) ≤ length (place o r s l behind)
place_grows Less r s l behind h = omega arith
place_grows Equal r s l behind h = omega arith
place_grows Greater r s l behind h = omega arith

pub insert_grows : (r : Row) (s : List Row) → length s ≤ length (insert r s)
unfolding insert
insert_grows r [] = omega arith
insert_grows r (s ∷ l) = place_grows (row_order r s) r s l (insert r l) (insert_grows r l)

pub joined_grows : (rs s t : List Row) → joined_all rs s ≡ Ok t → length s ≤ length t
joined_grows rs s t e =
    joined_all_carries (λ r. Unit {0}) (λ l. length s ≤ length l)
    (λ r l u h. if_all (λ q. length s ≤ length (insert q l)) (λ q. le_trans h (insert_grows q l)) (divided_down r).fate (divided_down r).row)
    rs s t e (all_of rs (λ r. tt)) (le_refl (length s))
