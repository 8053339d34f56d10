-- The short way to a pair: where its two multipliers are equal it is a multiple of the plain sum, which is divided down to the same row;
-- and a row that names a variable and has an entry 1 or −1 is divided down already. Assumes nothing.
use mathlib.Core.Path.{◌≡◌, refl, sym, ap, ap₂, ◌∙◌, subst}
use mathlib.Core.Bool.{Bool, true, false, not, cond, ◌&&◌}
use mathlib.Core.Logic.{⊎_elim}
use mathlib.Core.List.{List, [], ◌∷◌, map}
use Prim.Native.Nat.{ℕ, suc, ◌*◌, ◌<◌, ◌∣◌}
use native.Mathlib.Nat.{eq-one_of_dvd-one, mul-zero, mul-dvd-mul_left}
use native.Mathlib.Omega.{arith}
use borrow.Author.Tests.{eqb-true, not-true}
use lib.Dec.{eqb}
use lib.ListN.{drop}
use lib.IntN.{ℤ, pos, neg_ℤ, nat_abs, ◌+ℤ◌, ◌*ℤ◌, *ℤ-zero, neg_ℤ-neg_ℤ}
use lib.Signed.{quot_z}
use Rattle.integers.specs.Gcd.{gcd}
use Rattle.integers.specs.Lists.{All, every}
use Rattle.integers.specs.Signs.{is_zero}
use Rattle.integers.proofs.Bounds.{nat_abs_mul}
use Rattle.integers.proofs.Euclid.{gcd_scale, quot_exact}
use Rattle.integers.proofs.Lists.{all_head, all_tail}
use Rattle.integers.proofs.Tests.{and_left, and_right, or_true, not-both, zero_of, false_of, from_difference}
use Rattle.integers.proofs.Whole.{IsPos, is_pos, pos-*, *ℤ-+ℤ, *ℤ-assoc, eq_unscale}
use Rattle.rows.specs.declared.Row.{Row}
use Rattle.rows.specs.Rows.{at, under, gcd_from, divisor, divided, all_zero, gone, kept, false_row, limited, constant, divided_down, plus, times, paired, added, has_unit, has_one, all_small, too_large}
use Rattle.entries.proofs.Sums.{at-times}
use Rattle.rows.proofs.Sign.{under_scale, under_unscale, under-yes, under_no}
use Rattle.entries.proofs.Common.{divisor_divides, divisor-pos, divisor-gcd}
use Rattle.entries.proofs.Nonzero.{unit_variable}
use Rattle.rows.proofs.Again.{undivided}

-- ---- multiples
times-plus : (k : ℤ) (l m : List ℤ) → times k (plus l m) ≡ plus (times k l) (times k m)
unfolding times plus
times-plus k [] m = refl
times-plus k (a ∷ l) [] = refl
times-plus k (a ∷ l) (b ∷ m) = ap₂ {C = List ℤ} (λ z n. z ∷ n) (*ℤ-+ℤ k a b) (times-plus k l m)

gcd_from-times : (c g : ℕ) (l : List ℤ) → 0 < c → gcd_from (c * g) (times (pos c) l) ≡ c * gcd_from g l
unfolding times
gcd_from-times c g [] h = refl
gcd_from-times c g (z ∷ l) h =
    ap (λ (n : ℕ). gcd_from n (times (pos c) l)) (ap (gcd (c * g)) (nat_abs_mul (pos c) z) ∙ gcd_scale c g (nat_abs z) h) ∙ gcd_from-times c (gcd g (nat_abs z)) l h

zero-times : {k : ℤ} → IsPos k → (z : ℤ) → is_zero (k *ℤ z) ≡ is_zero z
zero-times {k} h z = go (is_zero z) refl
  where
    go : (b : Bool) → is_zero z ≡ b → is_zero (k *ℤ z) ≡ b
    go true e = rw (zero_of z e, *ℤ-zero k)
    go false e = false_of (is_zero (k *ℤ z))
        (λ f. not-both (sym e ∙ ap is_zero (eq_unscale h z (pos 0) (zero_of (k *ℤ z) f ∙ sym (*ℤ-zero k)))))

all_zero-times : {k : ℤ} → IsPos k → (l : List ℤ) → all_zero (times k l) ≡ all_zero l
unfolding all_zero times
all_zero-times h [] = refl
all_zero-times h (z ∷ l) = ap₂ {C = Bool} (λ a b. a && b) (zero-times h z) (all_zero-times h l)

drop-times : (k : ℤ) (l : List ℤ) → drop 1 (times k l) ≡ times k (drop 1 l)
unfolding times
drop-times k [] = refl
drop-times k (a ∷ l) = refl

under-times : {k : ℤ} → IsPos k → (s : Bool) (z : ℤ) → under s (k *ℤ z) ≡ under s z
under-times {k} h s z = go (under s z) (under s (k *ℤ z)) refl refl
  where
    go : (a b : Bool) → under s z ≡ a → under s (k *ℤ z) ≡ b → b ≡ a
    go true true e f = refl
    go true false e f = absurd (under_no s (k *ℤ z) f (under_scale h s z (under-yes s z e)))
    go false true e f = absurd (under_no s z e (under_unscale h s z (under-yes s (k *ℤ z) f)))
    go false false e f = refl

-- ---- a multiple is divided down to the same row
quot_times : {c d : ℕ} → IsPos (pos c) → IsPos (pos d) → (z : ℤ) → d ∣ nat_abs z → quot_z (pos c *ℤ z) (pos (c * d)) ≡ quot_z z (pos d)
quot_times {c} {d} h k z e =
    eq_unscale (pos-* h k) _ _
    (quot_exact (pos-* h k) (pos c *ℤ z) (rw nat_abs_mul (mul-dvd-mul_left d c e)) ∙ sym (*ℤ-assoc (pos c) (pos d) (quot_z z (pos d)) ∙ ap (λ (t : ℤ). pos c *ℤ t) (quot_exact k z e)))

quots_times : {c d : ℕ} → IsPos (pos c) → IsPos (pos d) → (l : List ℤ) → All (λ z. d ∣ nat_abs z) l → map (λ z. quot_z z (pos (c * d))) (times (pos c) l) ≡ map (λ z. quot_z z (pos d)) l
unfolding times
quots_times h k [] a = refl
quots_times h k (z ∷ l) a = ap₂ {C = List ℤ} (λ x m. x ∷ m) (quot_times h k z (all_head a)) (quots_times h k l (all_tail a))

above : {c : ℕ} → IsPos (pos c) → 0 < c
above (is_pos n) = omega arith

divisor-times : {c : ℕ} → IsPos (pos c) → (l : List ℤ) → all_zero l ≡ false → divisor (times (pos c) l) ≡ c * divisor l
divisor-times {c} h l e =
    divisor-gcd (times (pos c) l) (all_zero-times h l ∙ e)
    ∙ ap (λ (g : ℕ). gcd_from g (times (pos c) l)) (sym (mul-zero c))
    ∙ gcd_from-times c 0 l (above h)
    ∙ ap (λ (g : ℕ). c * g) (sym (divisor-gcd l e))

zero_rest : (l : List ℤ) → all_zero l ≡ true → all_zero (drop 1 l) ≡ true
unfolding all_zero
zero_rest [] f = refl
zero_rest (z ∷ l) f = and_right (is_zero z) (every is_zero l) f

pub some-entry : (l : List ℤ) → all_zero (drop 1 l) ≡ false → all_zero l ≡ false
some-entry l e = false_of (all_zero l) (λ f. not-both (sym e ∙ zero_rest l f))

module _ {c : ℕ} (h : IsPos (pos c)) (r : Row) where
  abbrev multiple : Row
  multiple = record { entries = times (pos c) r.entries; strict = r.strict }

  divided-times : all_zero r.entries ≡ false → divided multiple ≡ divided r
  unfolding divided
  divided-times e =
      let q : map (λ z. quot_z z (pos (divisor (times (pos c) r.entries)))) (times (pos c) r.entries) ≡ map (λ z. quot_z z (pos (divisor r.entries))) r.entries
      = rw (divisor-times h r.entries e) (quots_times h (divisor-pos r.entries) r.entries (divisor_divides r.entries)) in
      ap (λ (l : List ℤ). record { entries = l; strict = r.strict }) q

  constant-times : constant multiple ≡ constant r
  unfolding constant
  constant-times = ap (λ (b : Bool). cond b gone (kept false_row)) (ap (under r.strict) (at-times (pos c) r.entries 0) ∙ under-times h r.strict (at r.entries 0))

  pub divided_down-times : divided_down multiple ≡ divided_down r
  unfolding divided_down
  divided_down-times =
      ap (λ (b : Bool). cond b (constant multiple) (limited (divided multiple))) (ap all_zero (drop-times (pos c) r.entries) ∙ all_zero-times h (drop 1 r.entries))
      ∙ go (all_zero (drop 1 r.entries)) refl
    where
      go : (b : Bool) → all_zero (drop 1 r.entries) ≡ b → cond b (constant multiple) (limited (divided multiple)) ≡ cond b (constant r) (limited (divided r))
      go true e = constant-times
      go false e = ap limited (divided-times (some-entry r.entries e))

-- ---- a pair with equal multipliers
times-added : (k : ℤ) → IsPos k → (r s : Row) → divided_down (record { entries = plus (times k r.entries) (times k s.entries); strict = (added r s).strict }) ≡ divided_down (added r s)
times-added k (is_pos n) r s =
    ap (λ (l : List ℤ). divided_down (record { entries = l; strict = (added r s).strict })) (sym (times-plus (pos (suc n)) r.entries s.entries))
    ∙ divided_down-times (is_pos n) (added r s)

pub paired-added : (v : ℕ) (r s : Row) → IsPos (at r.entries v) → at r.entries v +ℤ at s.entries v ≡ pos 0 → divided_down (paired v r s) ≡ divided_down (added r s)
paired-added v r s h e =
    let a = at r.entries v in
    let b = at s.entries v in
    let f : neg_ℤ b ≡ a = sym (from_difference a (neg_ℤ b) (ap (λ (t : ℤ). a +ℤ t) (neg_ℤ-neg_ℤ b) ∙ e)) in
    ap (λ (t : ℤ). divided_down (record { entries = plus (times t r.entries) (times a s.entries); strict = (added r s).strict })) f ∙ times-added a h r s

-- ---- a row with an entry 1 or −1
unit-divisor : (d : ℕ) (l : List ℤ) → has_unit l ≡ true → All (λ z. d ∣ nat_abs z) l → d ≡ 1
unfolding has_unit
unit-divisor d [] e a = not-both e
unit-divisor d (z ∷ l) e a =
    ⊎_elim
    (λ f. eq-one_of_dvd-one (subst (λ (n : ℕ). d ∣ n) (eqb-true (nat_abs z) 1 f) (all_head a)))
    (λ f. unit-divisor d l f (all_tail a))
    (or_true (eqb (nat_abs z) 1) (has_unit l) e)

-- the divisor is 1: where a variable is named, only the limit is left to test
pub unit-limited : (r : Row) → has_unit r.entries ≡ true → all_zero (drop 1 r.entries) ≡ false → divided_down r ≡ limited r
unfolding divided_down
unit-limited r unit some =
    let l = r.entries in
    rw some (ap limited (undivided r (unit-divisor (divisor l) l unit (divisor_divides l))))

pub has_one-limited : (r : Row) → has_one r ≡ true → divided_down r ≡ limited r
unfolding has_one
has_one-limited r e =
    let l = r.entries in
    let c = eqb (nat_abs (at l 0)) 1 in
    let unit = and_left (has_unit l) (not c) e in
    unit-limited r unit (unit_variable l unit (not-true c (and_right (has_unit l) (not c) e)))

-- within the limit the row stays as it is; else it is too large
pub limited-kept : (r : Row) → all_small r.entries ≡ true → limited r ≡ kept r
unfolding limited
limited-kept r e = rw e

pub limited_large : (r : Row) → all_small r.entries ≡ false → limited r ≡ too_large
unfolding limited
limited_large r e = rw e
