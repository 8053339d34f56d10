-- What removal keeps of the rows: their width, which variables they do not name; and what it makes of any rows: small entries, order,
-- at most 128 rows, the removed variable not named. Assumes nothing.
use mathlib.Core.Path.{◌≡◌, sym, ◌∙◌, ap₂, subst}
use mathlib.Core.List.{List, [], ◌∷◌}
use Prim.Native.Nat.{ℕ, ◌<◌, ◌≤◌}
use lib.ListN.{length}
use lib.IntN.{ℤ, pos, neg_ℤ, ◌+ℤ◌, ◌*ℤ◌, *ℤ-zero}
use Rattle.integers.specs.Lists.{All, nil, In, here, there}
use Rattle.integers.proofs.Lists.{all_map, all_of, all_append, all_pairs}
use Rattle.rows.specs.declared.Row.{Row}
use Rattle.rows.specs.Rows.{entry_count, set_rows, Small, paired}
use Rattle.rows.proofs.Pairing.{paired_at, paired_blind, paired-wide}
use Rattle.rows.proofs.Dividing.{Wide, Blind}
use Rattle.sets.specs.Outcomes.{Ok}
use Rattle.sets.specs.Sets.{InOrder, none}
use Rattle.sets.proofs.Results.{then_found, found-same}
use Rattle.sets.proofs.Joining.{joined_small, joined-wide, joined_blind, joined-few}
use Rattle.sets.proofs.Ordered.{joined-ordered}
use Rattle.removal.specs.Removal.{entry, untouched, uppers, lowers, remaining, removed, all_removed}
use Rattle.removal.proofs.Exact.{apart, untouched-zero}

-- ---- what is true of every row, where pairing keeps it
pub remaining-keeps : (P : Row → Type 0) (v : ℕ) → ((r s : Row) → P r → P s → P (paired v r s)) → (rows : List Row) → All P rows → All P (remaining v rows)
unfolding remaining
remaining-keeps P v f rows a =
    let p = apart v rows a in
    (all_append (untouched v rows) _).1 (p.zeros, (all_pairs (paired v) (uppers v rows) (lowers v rows)).1 (all_map (λ r h. all_map (λ s k. f r s h k) p.downs) p.ups))

-- and of steps in a row
pub all_removed-keeps : (Q : List Row → Type 0) (vs : List ℕ) → ((v : ℕ) (s t : List Row) → removed v s ≡ Ok t → Q s → Q t) →
    (s t : List Row) → all_removed vs s ≡ Ok t → Q s → Q t
unfolding all_removed
all_removed-keeps Q [] f s t e a = subst Q (found-same e) a
all_removed-keeps Q (v ∷ vs) f s t e a =
    let x = then_found (removed v s) (λ y. all_removed vs y) t e in
    all_removed-keeps Q vs f x.mid t x.second (f v s x.mid x.first a)

-- ---- the form of what is found
pub removed-small : (v : ℕ) (s t : List Row) → removed v s ≡ Ok t → All (λ r. Small r.entries) t
unfolding removed
removed-small v s t e = joined_small (remaining v s) [] t e nil

pub removed-ordered : (v : ℕ) (s t : List Row) → removed v s ≡ Ok t → InOrder t
unfolding removed
removed-ordered v s t e = joined-ordered (remaining v s) [] t e none

pub removed-few : (v : ℕ) (s t : List Row) → removed v s ≡ Ok t → length t ≤ set_rows
unfolding removed
removed-few v s t e = joined-few (remaining v s) [] t e

pub removed-wide : (v : ℕ) (s t : List Row) → removed v s ≡ Ok t → All Wide s → All Wide t
unfolding removed
removed-wide v s t e a =
    joined-wide (remaining v s) [] t e (remaining-keeps Wide v (λ r s h k. paired-wide v entry_count r s h k) s a) nil

-- ---- which variables it does not name
zero-sum : (a b x y : ℤ) → x ≡ pos 0 → y ≡ pos 0 → a *ℤ x +ℤ b *ℤ y ≡ pos 0
zero-sum a b x y e f = rw (e, f) (ap₂ (λ (s t : ℤ). s +ℤ t) (*ℤ-zero a) (*ℤ-zero b))

paired_other : (u v : ℕ) (r s : Row) → Blind u r → Blind u s → Blind u (paired v r s)
paired_other u v r s e f = paired_at v r s u ∙ zero-sum (neg_ℤ (entry v s)) (entry v r) (entry u r) (entry u s) e f

remaining_self : (v : ℕ) (rows : List Row) → All (Blind v) (remaining v rows)
unfolding remaining
remaining_self v rows =
    (all_append (untouched v rows) _).1 (
      untouched-zero v rows,
      (all_pairs (paired v) (uppers v rows) (lowers v rows)).1 (all_of (uppers v rows) (λ r. all_of (lowers v rows) (λ s. paired_blind v r s))),
    )

pub removed_other : (u : ℕ) → 0 < u → (v : ℕ) (s t : List Row) → removed v s ≡ Ok t → All (Blind u) s → All (Blind u) t
unfolding removed
removed_other u h v s t e a = joined_blind u h (remaining v s) [] t e (remaining-keeps (Blind u) v (λ r s k m. paired_other u v r s k m) s a) nil

pub removed_self : (v : ℕ) → 0 < v → (s t : List Row) → removed v s ≡ Ok t → All (Blind v) t
unfolding removed
removed_self v h s t e = joined_blind v h (remaining v s) [] t e (remaining_self v s) nil

pub all_removed_other : (u : ℕ) → 0 < u → (vs : List ℕ) (s t : List Row) → all_removed vs s ≡ Ok t → All (Blind u) s → All (Blind u) t
all_removed_other u h vs = all_removed-keeps (All (Blind u)) vs (removed_other u h)

-- each of the removed variables is gone
pub all_removed_self : (vs : List ℕ) (u : ℕ) → 0 < u → In u vs → (s t : List Row) → all_removed vs s ≡ Ok t → All (Blind u) t
unfolding all_removed
all_removed_self [] u h i s t e = elim i [ ]
all_removed_self (v ∷ vs) u h (here f) s t e =
    let x = then_found (removed v s) (λ y. all_removed vs y) t e in
    all_removed_other u h vs x.mid t x.second (removed_self u h s x.mid (subst (λ (k : ℕ). removed k s ≡ Ok x.mid) (sym f) x.first))
all_removed_self (v ∷ vs) u h (there i) s t e =
    let x = then_found (removed v s) (λ y. all_removed vs y) t e in
    all_removed_self vs u h i x.mid t x.second

pub all_removed-wide : (vs : List ℕ) (s t : List Row) → all_removed vs s ≡ Ok t → All Wide s → All Wide t
all_removed-wide vs = all_removed-keeps (All Wide) vs removed-wide

pub all_removed-small : (vs : List ℕ) (s t : List Row) → all_removed vs s ≡ Ok t → All (λ r. Small r.entries) s → All (λ r. Small r.entries) t
all_removed-small vs = all_removed-keeps (λ l. All (λ r. Small r.entries) l) vs (λ v s t e a. removed-small v s t e)

pub all_removed-ordered : (vs : List ℕ) (s t : List Row) → all_removed vs s ≡ Ok t → InOrder s → InOrder t
all_removed-ordered vs = all_removed-keeps InOrder vs (λ v s t e a. removed-ordered v s t e)

pub all_removed-few : (vs : List ℕ) (s t : List Row) → all_removed vs s ≡ Ok t → length s ≤ set_rows → length t ≤ set_rows
all_removed-few vs = all_removed-keeps (λ l. length l ≤ set_rows) vs (λ v s t e a. removed-few v s t e)
