-- Dividing a row, and dividing it down: where it holds after, how large and how wide it is then. Assumes nothing.
use mathlib.Core.Path.{◌≡◌, refl, sym, ◌∙◌, ap, ap₂, subst}
use mathlib.Core.Bool.{Bool, true, false, cond}
use mathlib.Core.Logic.{◌↔◌, ◌≢◌}
use mathlib.Core.List.{List, [], ◌∷◌, map}
use Prim.Native.Nat.{ℕ, zero, suc, ◌<◌, ◌∣◌}
use native.Mathlib.Nat.{zero-div, lt_irrefl}
use lib.ListN.{length, drop, length-map, replicate}
use lib.IntN.{ℤ, pos, nat_abs, ◌*ℤ◌, +ℤ_idr, *ℤ_comm, *ℤ-zero, zero-*ℤ}
use lib.Signed.{quot_z, ◌<ℤ◌, clash_ℤ}
use Rattle.integers.specs.Lists.{All}
use Rattle.integers.proofs.Lists.{all_head, all_tail}
use Rattle.integers.proofs.Whole.{IsPos, is_pos, pos_of, one-*ℤ}
use Rattle.integers.proofs.Euclid.{quot_exact}
use Rattle.rows.specs.declared.Row.{Row}
use Rattle.rows.specs.declared.Fate.{Fate}
use Rattle.rows.specs.declared.Fate.TheVariants.{Kept, Gone, TooLarge}
use Rattle.rows.specs.declared.Settled.{Settled}
use Rattle.rows.specs.Rows.{entry_count, at, with_entry, single, false_row, dot, times, under, Holds, Small, divisor, divided, kept, gone, too_large, all_small, all_zero, limited, constant, divided_down}
use Rattle.entries.proofs.Sums.{at-with_other, length-with}
use Rattle.rows.proofs.Sign.{under_scale, under_unscale, under-yes, under_no}
use Rattle.rows.proofs.Meaning.{dot-times, dot-zero, single-holds}
use Rattle.entries.proofs.Common.{divisor-pos, divisor_divides}
use Rattle.entries.proofs.Fits.{small_of}

-- ---- dividing is exact
times_quot : {g : ℕ} → IsPos (pos g) → (l : List ℤ) → All (λ z. g ∣ nat_abs z) l → times (pos g) (map (λ z. quot_z z (pos g)) l) ≡ l
unfolding times
times_quot h [] a = refl
times_quot h (z ∷ l) a = ap₂ {C = List ℤ} (λ x m. x ∷ m) (quot_exact h z (all_head a)) (times_quot h l (all_tail a))

pub divided_exact : (r : Row) → times (pos (divisor r.entries)) (divided r).entries ≡ r.entries
unfolding divided
divided_exact r = times_quot (divisor-pos r.entries) r.entries (divisor_divides r.entries)

-- and changes nothing of where the row holds
pub divided-holds : (r : Row) (p : List ℤ) → Holds p (divided r) ↔ Holds p r
unfolding divided
divided-holds r p = (λ a. rw z (under_scale h r.strict _ a), λ a. under_unscale h r.strict _ (rw z at a))
  where
    h : IsPos (pos (divisor r.entries))
    h = divisor-pos r.entries

    z : dot r.entries p ≡ pos (divisor r.entries) *ℤ dot (divided r).entries p
    z = ap (λ (l : List ℤ). dot l p) (sym (divided_exact r)) ∙ dot-times (pos (divisor r.entries)) (divided r).entries p

-- ---- a row without variables
constant-dot : (l p : List ℤ) → all_zero (drop 1 l) ≡ true → dot l p ≡ at p 0 *ℤ at l 0
unfolding dot
constant-dot [] p e = sym (*ℤ-zero (at p 0))
constant-dot (a ∷ l) [] e = sym (zero-*ℤ a)
constant-dot (a ∷ l) (x ∷ p) e = rw (dot-zero l p e) (+ℤ_idr (a *ℤ x) ∙ *ℤ_comm a x)

-- 1 ≤ 0 holds nowhere
pub never : (p : List ℤ) → pos 0 <ℤ at p 0 → ¬ Holds p false_row
never p h k = clash_ℤ h (rw one-*ℤ at ((single-holds 0 (pos 1) p).0 k))

-- ---- dividing down keeps what a row says: a kept row holds where the row does, a row that is gone holds at every point
abbrev pub Sound : List ℤ → Row → Fate → Row → Type 0
Sound p r Kept t = Holds p t ↔ Holds p r
Sound p r Gone t = Holds p r
Sound p r TooLarge t = Unit {0}

constant-sound : (p : List ℤ) → pos 0 <ℤ at p 0 → (r : Row) → all_zero (drop 1 r.entries) ≡ true → Sound p r (constant r).fate (constant r).row
unfolding constant
constant-sound p h r e = go (under r.strict (at r.entries 0)) refl
  where
    k : dot r.entries p ≡ at p 0 *ℤ at r.entries 0
    k = constant-dot r.entries p e

    go : (b : Bool) → under r.strict (at r.entries 0) ≡ b → Sound p r (cond b gone (kept false_row)).fate (cond b gone (kept false_row)).row
    go true f = rw k (under_scale (pos_of h) r.strict _ (under-yes r.strict _ f))
    go false f = (λ a. absurd (never p h a), λ a. absurd (under_no r.strict _ f (under_unscale (pos_of h) r.strict _ (rw k at a))))

limited-sound : (p : List ℤ) (r t : Row) → Holds p t ↔ Holds p r → Sound p r (limited t).fate (limited t).row
unfolding limited
limited-sound p r t e = go (all_small t.entries)
  where
    go : (b : Bool) → Sound p r (cond b (kept t) too_large).fate (cond b (kept t) too_large).row
    go true = e
    go false = tt

pub divided_down-sound : (p : List ℤ) → pos 0 <ℤ at p 0 → (r : Row) → Sound p r (divided_down r).fate (divided_down r).row
unfolding divided_down
divided_down-sound p h r = go (all_zero (drop 1 r.entries)) refl
  where
    go : (b : Bool) → all_zero (drop 1 r.entries) ≡ b →
        Sound p r (cond b (constant r) (limited (divided r))).fate (cond b (constant r) (limited (divided r))).row
    go true e = constant-sound p h r e
    go false e = limited-sound p r (divided r) (divided-holds r p)

-- ---- what is true of every kept row: it is 1 ≤ 0, or the row divided and with no large entry
abbrev pub IfKept : (Row → Type 0) → Fate → Row → Type 0
IfKept P Kept t = P t
IfKept P Gone t = Unit {0}
IfKept P TooLarge t = Unit {0}

pub if_all : (P : Row → Type 0) → ((t : Row) → P t) → (f : Fate) (t : Row) → IfKept P f t
if_all P g Kept t = g t
if_all P g Gone t = tt
if_all P g TooLarge t = tt

pub if_map : (P Q : Row → Type 0) → ((t : Row) → P t → Q t) → (f : Fate) (t : Row) → IfKept P f t → IfKept Q f t
if_map P Q g Kept t h = g t h
if_map P Q g Gone t h = tt
if_map P Q g TooLarge t h = tt

pub if_kept : (P : Row → Type 0) (r : Row) → P false_row → (all_zero (drop 1 r.entries) ≡ false → all_small (divided r).entries ≡ true → P (divided r)) →
    IfKept P (divided_down r).fate (divided_down r).row
unfolding divided_down constant limited
if_kept P r f d = go (all_zero (drop 1 r.entries)) (under r.strict (at r.entries 0)) (all_small (divided r).entries) d
  where
    go : (a b c : Bool) → (a ≡ false → c ≡ true → P (divided r)) →
        IfKept P (cond a (cond b gone (kept false_row)) (cond c (kept (divided r)) too_large)).fate (cond a (cond b gone (kept false_row)) (cond c (kept (divided r)) too_large)).row
    go true true c d = tt
    go true false c d = f
    go false b true d = d refl refl
    go false b false d = tt

pub of-kept : (P : Row → Type 0) (x : Settled) (t : Row) → x ≡ kept t → IfKept P x.fate x.row → P t
of-kept P x t e h = subst (λ (y : Settled). IfKept P y.fate y.row) e h

false-small : all_small false_row.entries ≡ true
unfolding all_small with_entry
false-small = refl

pub divided_down-small : (r : Row) → IfKept (λ t. Small t.entries) (divided_down r).fate (divided_down r).row
divided_down-small r = if_kept (λ t. Small t.entries) r (small_of false_row.entries false-small) (λ z e. small_of (divided r).entries e)

-- 1 ≤ 0 is written with 16 entries, so the width is kept where it is 16
abbrev pub Wide : Row → Type 0
Wide r = length r.entries ≡ entry_count

false-wide : Wide false_row
unfolding with_entry
false-wide = refl

pub single-wide : (v : ℕ) (z : ℤ) → v < entry_count → Wide (single v z)
single-wide v z h = length-with v z (replicate entry_count (pos 0)) h

divided-wide : (r : Row) → length (divided r).entries ≡ length r.entries
unfolding divided
divided-wide r = length-map r.entries _

pub divided_down-wide : (r : Row) → Wide r → IfKept Wide (divided_down r).fate (divided_down r).row
divided_down-wide r h = if_kept Wide r false-wide (λ z e. divided-wide r ∙ h)

-- the row that comes of it is as wide also where it is gone or too large
pub settled_wide : (r : Row) → Wide r → Wide (divided_down r).row
unfolding divided_down constant limited
settled_wide r h = go (all_zero (drop 1 r.entries)) (under r.strict (at r.entries 0)) (all_small (divided r).entries)
  where
    go : (a b c : Bool) → Wide (cond a (cond b gone (kept false_row)) (cond c (kept (divided r)) too_large)).row
    go true true c = refl
    go true false c = false-wide
    go false b true = divided-wide r ∙ h
    go false b false = refl

-- ---- a variable that the row does not name is not named after
abbrev pub Blind : ℕ → Row → Type 0
Blind u r = at r.entries u ≡ pos 0

at-zeros : (n i : ℕ) → at (replicate n (pos 0)) i ≡ pos 0
at-zeros zero i = refl
at-zeros (suc n) zero = refl
at-zeros (suc n) (suc i) = at-zeros n i

-- a row of one variable names no other
pub single_blind : (u v : ℕ) (z : ℤ) → u ≢ v → Blind u (single v z)
single_blind u v z f = at-with_other v u z (replicate entry_count (pos 0)) f ∙ at-zeros entry_count u

quot_zero : {d : ℤ} → IsPos d → quot_z (pos 0) d ≡ pos 0
quot_zero (is_pos n) = ap pos (zero-div (suc n))

at_quot : {d : ℤ} → IsPos d → (l : List ℤ) (u : ℕ) → at l u ≡ pos 0 → at (map (λ z. quot_z z d) l) u ≡ pos 0
at_quot h [] u e = refl
at_quot h (z ∷ l) zero e = rw e (quot_zero h)
at_quot h (z ∷ l) (suc u) e = at_quot h l u e

divided_blind : (u : ℕ) (r : Row) → Blind u r → Blind u (divided r)
unfolding divided
divided_blind u r e = at_quot (divisor-pos r.entries) r.entries u e

pub divided_down_blind : (u : ℕ) → 0 < u → (r : Row) → Blind u r → IfKept (Blind u) (divided_down r).fate (divided_down r).row
divided_down_blind u h r e = if_kept (Blind u) r
    (at-with_other 0 u (pos 1) (replicate entry_count (pos 0)) (λ (f : u ≡ 0). lt_irrefl 0 (rw f at h)) ∙ at-zeros entry_count u)
    (λ z f. divided_blind u r e)
