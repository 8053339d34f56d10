-- Removal as a step on a set is exact: dividing down and making a set of what remains change nothing of where it holds. Assumes nothing.
use mathlib.Core.Path.{◌≡◌, subst}
use mathlib.Core.Logic.Iff
use mathlib.Core.Logic.{◌↔◌, ◌≢◌}
use mathlib.Core.List.{List, [], ◌∷◌}
use Prim.Native.Nat.{ℕ, ◌<◌}
use lib.IntN.{ℤ, pos}
use lib.Signed.{◌<ℤ◌}
use Rattle.integers.specs.Lists.{All, nil}
use Rattle.integers.proofs.Lists.{all_head, all_tail}
use Rattle.rows.specs.declared.Row.{Row}
use Rattle.rows.specs.Rows.{at}
use Rattle.sets.specs.Outcomes.{Ok}
use Rattle.sets.proofs.Results.{then_found, found-same}
use Rattle.sets.proofs.Joining.{joined_exact}
use Rattle.removal.specs.Removal.{remaining, removed, all_removed}
use Rattle.removal.specs.Exact.{Point, Meets, Values}
use Rattle.removal.proofs.Exact.{Moved, remaining_exact, remaining-moved}
use Rattle.removal.proofs.Several.{values_none, values_map, values_more}

pub removed-remaining : (v : ℕ) (s t : List Row) → removed v s ≡ Ok t → (p : List ℤ) → pos 0 <ℤ at p 0 → Meets p t ↔ Meets p (remaining v s)
unfolding removed
removed-remaining v s t e p h = let x = joined_exact p h (remaining v s) [] t e in (λ a. (x.0 a).0, λ a. x.1 (a, nil))

pub removed_exact : (v : ℕ) (s t : List Row) → removed v s ≡ Ok t → (w : ℕ) (p : List ℤ) → Point w p → v ≢ 0 → v < w → Meets p t ↔ Values s w (v ∷ []) p
removed_exact v s t e w p hp nz lt = Iff.trans (removed-remaining v s t e p hp.positive) (remaining_exact s w v p hp nz lt)

-- with the value written out
pub removed-moved : (v : ℕ) (s t : List Row) → removed v s ≡ Ok t → (w : ℕ) (p : List ℤ) → Point w p → v ≢ 0 → v < w → Meets p t ↔ Moved s v p
removed-moved v s t e w p hp nz lt = Iff.trans (removed-remaining v s t e p hp.positive) (remaining-moved s w v p hp nz lt)

pub all_removed_exact : (vs : List ℕ) (s t : List Row) → all_removed vs s ≡ Ok t → (w : ℕ) (p : List ℤ) → Point w p → All (λ v. (v ≢ 0) × (v < w)) vs → Meets p t ↔ Values s w vs p
unfolding all_removed
all_removed_exact [] s t e w p hp ok = subst (λ u. Meets p u ↔ Values s w [] p) (found-same e) (values_none s w p hp)
all_removed_exact (v ∷ vs) s t e w p hp ok =
    let x = then_found (removed v s) (λ y. all_removed vs y) t e in
    let o = all_head ok in
    let ih = all_removed_exact vs x.mid t x.second w p hp (all_tail ok) in
    let r = removed-remaining v s x.mid x.first in
    let m = values_more s w v vs p hp o.0 o.1 in
    (λ a. m.0 (values_map (λ q hq. (r q hq.positive).0) (ih.0 a)), λ a. ih.1 (values_map (λ q hq. (r q hq.positive).1) (m.1 a)))
