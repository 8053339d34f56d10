-- Joining rows to a set is conjunction: what is found holds exactly where the rows and the set hold. And what joining keeps of rows
-- and of sets. Assumes nothing.
use mathlib.Core.Path.{◌≡◌, refl, sym, ◌∙◌, ap, subst}
use mathlib.Core.Logic.{◌↔◌}
use mathlib.Core.List.{List, [], ◌∷◌}
use Prim.Native.Nat.{ℕ, ◌≤◌, ◌<◌}
use borrow.Author.Tests.{leb-true}
use lib.Dec.{leb}
use lib.ListN.{length}
use lib.IntN.{ℤ, pos}
use lib.Signed.{◌<ℤ◌}
use Rattle.integers.specs.Lists.{All, nil, cons}
use Rattle.integers.proofs.Tests.{split}
use Rattle.integers.proofs.Lists.{all_head, all_tail, all_of}
use Rattle.rows.specs.declared.Row.{Row}
use Rattle.rows.specs.declared.Fate.{Fate}
use Rattle.rows.specs.declared.Fate.TheVariants.{Kept, Gone, TooLarge}
use Rattle.std.specs.declared.cmp.Ordering.{Ordering}
use Rattle.std.specs.declared.cmp.Ordering.TheVariants.{Less, Equal, Greater}
use Rattle.rows.specs.Rows.{set_rows, at, Holds, Small, kept, divided_down, row_order}
use Rattle.rows.proofs.Ordering.{row_same}
use Rattle.rows.proofs.Dividing.{Sound, divided_down-sound, IfKept, if_map, divided_down-small, Wide, divided_down-wide, Blind, divided_down_blind}
use Rattle.rows.proofs.Again.{divided_down-again}
use Rattle.sets.specs.Outcomes.{Result, Ok, Err}
use Rattle.sets.specs.Sets.{place, insert, put, put_settled, joined_all, within_limit, joined}
use Rattle.sets.proofs.Results.{then_found, found-same, refused-not}

-- ---- insertion: the row and the set, whatever the order
module _ {P : Row → Type 0} where
  place-all : (r s : Row) (l behind : List Row) → All P behind ↔ (P r × All P l) → (o : Ordering) → row_order r s ≡ o → All P (place o r s l behind) ↔ (P r × All P (s ∷ l))
  place-all r s l behind ih Less e = (λ a. (all_head a, all_tail a), λ a. cons a.0 a.1)
  place-all r s l behind ih Equal e = (λ a. (subst P (sym (row_same r s e)) (all_head a), a), λ a. a.1)
  place-all r s l behind ih Greater e = (λ a. let b = ih.0 (all_tail a) in (b.0, cons (all_head a) b.1), λ a. cons (all_head a.1) (ih.1 (a.0, all_tail a.1)))

  pub insert_all : (r : Row) (l : List Row) → All P (insert r l) ↔ (P r × All P l)
  unfolding insert
  insert_all r [] = (λ a. (all_head a, nil), λ a. cons a.0 nil)
  insert_all r (s ∷ l) = place-all r s l (insert r l) (insert_all r l) (row_order r s) refl

-- ---- what a found set is: all were put in, and it has at most 128 rows
within-found : (s t : List Row) → within_limit s ≡ Ok t → (s ≡ t) × (length t ≤ set_rows)
unfolding within_limit
within-found s t e = split (leb (length s) set_rows) (Ok s) (Err _) (Ok t) e
    (λ b f. let g = found-same f in (g, subst (λ (u : List Row). length u ≤ set_rows) g (leb-true (length s) set_rows b)))
    (λ b f. refused-not f)

pub joined-found : (rs s t : List Row) → joined rs s ≡ Ok t → (joined_all rs s ≡ Ok t) × (length t ≤ set_rows)
unfolding joined
joined-found rs s t e =
    let x = then_found (joined_all rs s) within_limit t e in
    let y = within-found x.mid t x.second in
    (x.first ∙ ap {B = Result (List Row)} Ok y.0, y.1)

-- ---- where it holds
put_exact : (p : List ℤ) (r : Row) (f : Fate) (q : Row) → Sound p r f q → (s t : List Row) → put f q s ≡ Ok t → All (Holds p) t ↔ (Holds p r × All (Holds p) s)
put_exact p r Kept q h s t e = subst (λ u. All (Holds p) u ↔ (Holds p r × All (Holds p) s)) (found-same e)
    (let i = insert_all q s in (λ a. let b = i.0 a in (h.0 b.0, b.1), λ a. i.1 (h.1 a.0, a.1)))
put_exact p r Gone q h s t e = subst (λ u. All (Holds p) u ↔ (Holds p r × All (Holds p) s)) (found-same e) (λ a. (h, a), λ a. a.1)
put_exact p r TooLarge q h s t e = refused-not e

all_exact : (p : List ℤ) → pos 0 <ℤ at p 0 → (rs s t : List Row) → joined_all rs s ≡ Ok t → All (Holds p) t ↔ (All (Holds p) rs × All (Holds p) s)
unfolding joined_all
all_exact p h [] s t e = subst (λ u. All (Holds p) u ↔ (All (Holds p) [] × All (Holds p) s)) (found-same e) (λ a. (nil, a), λ a. a.1)
all_exact p h (r ∷ rs) s t e =
    let x = then_found (put_settled (divided_down r) s) (λ u. joined_all rs u) t e in
    let one = put_exact p r (divided_down r).fate (divided_down r).row (divided_down-sound p h r) s x.mid x.first in
    let ih = all_exact p h rs x.mid t x.second in
    (λ a. let b = ih.0 a in let c = one.0 b.1 in (cons c.0 b.0, c.1), λ a. ih.1 (all_tail a.0, one.1 (all_head a.0, a.1)))

pub joined_exact : (p : List ℤ) → pos 0 <ℤ at p 0 → (rs s t : List Row) → joined rs s ≡ Ok t → All (Holds p) t ↔ (All (Holds p) rs × All (Holds p) s)
joined_exact p h rs s t e = all_exact p h rs s t (joined-found rs s t e).0

-- ---- what is true of a set, where every insertion of a kept row keeps it; of the joined rows each may be asked something
put_carries : (Q : List Row → Type 0) (f : Fate) (q : Row) (s t : List Row) → put f q s ≡ Ok t → IfKept (λ u. Q (insert u s)) f q → Q s → Q t
put_carries Q Kept q s t e h a = subst Q (found-same e) h
put_carries Q Gone q s t e h a = subst Q (found-same e) a
put_carries Q TooLarge q s t e h a = refused-not e

pub joined_all_carries : (P : Row → Type 0) (Q : List Row → Type 0) →
    ((r : Row) (s : List Row) → P r → Q s → IfKept (λ u. Q (insert u s)) (divided_down r).fate (divided_down r).row) →
    (rs s t : List Row) → joined_all rs s ≡ Ok t → All P rs → Q s → Q t
unfolding joined_all
joined_all_carries P Q step [] s t e a b = subst Q (found-same e) b
joined_all_carries P Q step (r ∷ rs) s t e a b =
    let x = then_found (put_settled (divided_down r) s) (λ u. joined_all rs u) t e in
    joined_all_carries P Q step rs x.mid t x.second (all_tail a)
    (put_carries Q (divided_down r).fate (divided_down r).row s x.mid x.first (step r s (all_head a) b) b)

-- ---- what is true of every row, where dividing down keeps it
pub joined_keeps : (P Q : Row → Type 0) → ((r : Row) → P r → IfKept Q (divided_down r).fate (divided_down r).row) →
    (rs s t : List Row) → joined rs s ≡ Ok t → All P rs → All Q s → All Q t
joined_keeps P Q keeps rs s t e =
    joined_all_carries P (λ l. All Q l)
    (λ r s h a. if_map Q (λ u. All Q (insert u s)) (λ u k. (insert_all u s).1 (k, a)) (divided_down r).fate (divided_down r).row (keeps r h))
    rs s t (joined-found rs s t e).0

-- no entry of a set is beyond the limit, whatever is joined to it
pub joined_small : (rs s t : List Row) → joined rs s ≡ Ok t → All (λ r. Small r.entries) s → All (λ r. Small r.entries) t
joined_small rs s t e = joined_keeps (λ r. Unit {0}) (λ r. Small r.entries) (λ r h. divided_down-small r) rs s t e (all_of rs (λ r. tt))

-- every row of a set is divided down already, so it may be joined to another set as it is
pub joined_settled : (rs s t : List Row) → joined rs s ≡ Ok t → All (λ r. divided_down r ≡ kept r) s → All (λ r. divided_down r ≡ kept r) t
joined_settled rs s t e = joined_keeps (λ r. Unit {0}) (λ r. divided_down r ≡ kept r) (λ r h. divided_down-again r) rs s t e (all_of rs (λ r. tt))

-- the width
pub joined-wide : (rs s t : List Row) → joined rs s ≡ Ok t → All Wide rs → All Wide s → All Wide t
joined-wide = joined_keeps Wide Wide divided_down-wide

-- a variable that no row names
pub joined_blind : (u : ℕ) → 0 < u → (rs s t : List Row) → joined rs s ≡ Ok t → All (Blind u) rs → All (Blind u) s → All (Blind u) t
joined_blind u h = joined_keeps (Blind u) (Blind u) (divided_down_blind u h)

-- at most 128 rows
pub joined-few : (rs s t : List Row) → joined rs s ≡ Ok t → length t ≤ set_rows
joined-few rs s t e = (joined-found rs s t e).1
