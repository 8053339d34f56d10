-- A row of one variable with the entry 1 or −1: it is divided down already. Assumes nothing.
use mathlib.Core.Path.{◌≡◌, refl, ap, ap₂, ◌∙◌}
use mathlib.Core.Bool.{Bool, true, not, cond, ◌&&◌}
use Prim.Native.Nat.{ℕ, zero, suc, ◌<◌}
use native.Mathlib.Omega.{arith}
use lib.Dec.{eqb}
use lib.ListN.{replicate}
use lib.IntN.{ℤ, pos, nat_abs}
use Rattle.rows.specs.Rows.{entry_count, with_entry, single, all_small, has_unit, has_one, kept, too_large, limited, divided_down}
use Rattle.rows.proofs.Dividing.{single_blind}
use Rattle.rows.proofs.Adding.{has_one-limited}

-- its one entry is the unit, and no entry is large
with_unit : (v n : ℕ) (z : ℤ) → nat_abs z ≡ 1 → has_unit (with_entry v z (replicate n (pos 0))) ≡ true
unfolding has_unit with_entry
with_unit zero zero z e = rw e
with_unit zero (suc n) z e = rw e
with_unit (suc v) zero z e = with_unit v zero z e
with_unit (suc v) (suc n) z e = with_unit v n z e

zeros-small : (n : ℕ) → all_small (replicate n (pos 0)) ≡ true
unfolding all_small
zeros-small zero = refl
zeros-small (suc n) = zeros-small n

with-small : (v n : ℕ) (z : ℤ) → nat_abs z ≡ 1 → all_small (with_entry v z (replicate n (pos 0))) ≡ true
unfolding all_small with_entry
with-small zero zero z e = rw e
with-small zero (suc n) z e = rw e (zeros-small n)
with-small (suc v) zero z e = with-small v zero z e
with-small (suc v) (suc n) z e = with-small v n z e

single-one : (v : ℕ) (z : ℤ) → 0 < v → nat_abs z ≡ 1 → has_one (single v z) ≡ true
unfolding has_one
single-one v z h e =
    ap₂ {C = Bool} (λ a b. a && b) (with_unit v entry_count z e) (ap (λ (x : ℤ). not (eqb (nat_abs x) 1)) (single_blind 0 v z (λ f. omega arith)))

pub unit-stays : (v : ℕ) (z : ℤ) → 0 < v → v < entry_count → nat_abs z ≡ 1 → divided_down (single v z) ≡ kept (single v z)
unfolding limited
unit-stays v z h k e =
    has_one-limited (single v z) (single-one v z h e)
    ∙ ap (λ (b : Bool). cond b (kept (single v z)) too_large) (with-small v entry_count z e)
