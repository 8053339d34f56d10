-- The order of rows is a total order: rows that are `Equal` are one, turning a comparison turns its outcome, `Less` is transitive.
-- Lists are ordered by their fronts, then by their rests.
-- Assumes nothing.
use mathlib.Core.Path.{◌≡◌, refl, sym, ◌∙◌, ap, ap₂, subst}
use mathlib.Core.Bool.{Bool, true, false, cond, beq}
use mathlib.Core.Logic.{◌≢◌, ◌⊎◌, inl, inr}
use mathlib.Core.List.{List, [], ◌∷◌, ◌++◌}
use Prim.Native.Nat.{◌<◌}
use native.Mathlib.Nat.{not-suc-le-zero}
use native.Mathlib.Omega.{arith}
use lib.Dec.{T}
use lib.ListN.{length}
use lib.IntN.{ℤ}
use lib.Signed.{◌≤ℤ◌, ◌<ℤ◌, lt_z, lt_z_yes, lt_z_no}
use Rattle.integers.proofs.Tests.{T_of, not-both}
use Rattle.integers.proofs.Whole.{zed}
use Rattle.rows.specs.declared.Row.{Row}
use Rattle.std.specs.declared.cmp.Ordering.{Ordering}
use Rattle.std.specs.declared.cmp.Ordering.TheVariants.{Less, Equal, Greater}
use Rattle.rows.specs.Rows.{at, then_by, number_order, entry_order, flag_order, row_order, is_same, same_row}

-- ---- the three outcomes differ
abbrev is_before : Ordering → Type 0
is_before Less = Unit {0}
is_before Equal = ⊥
is_before Greater = ⊥

before-not-same : {G : Type 0} → Less ≡ Equal → G
before-not-same e = not-both (ap is_same e)

after-not-same : {G : Type 0} → Greater ≡ Equal → G
after-not-same e = not-both (ap is_same e)

same-not-before : {G : Type 0} → Equal ≡ Less → G
same-not-before e = absurd (subst is_before (sym e) tt)

after-not-before : {G : Type 0} → Greater ≡ Less → G
after-not-before e = absurd (subst is_before (sym e) tt)

-- ---- `Equal` is equality
then-left : (o q : Ordering) → then_by o q ≡ Equal → o ≡ Equal
then-left Less q e = e
then-left Equal q e = refl
then-left Greater q e = e

then-right : (o q : Ordering) → then_by o q ≡ Equal → q ≡ Equal
then-right Less q e = before-not-same e
then-right Equal q e = e
then-right Greater q e = after-not-same e

pub number_same : (x y : ℤ) → number_order x y ≡ Equal → x ≡ y
number_same x y = go (lt_z x y) (lt_z y x) refl refl
  where
    go : (b c : Bool) → lt_z x y ≡ b → lt_z y x ≡ c → cond b Less (cond c Greater Equal) ≡ Equal → x ≡ y
    go true c f g e = before-not-same e
    go false true f g e = after-not-same e
    go false false f g e = let a : y ≤ℤ x = lt_z_no (rw f tt) in let b : x ≤ℤ y = lt_z_no (rw g tt) in omega zed

pub entries_same : (l m : List ℤ) → entry_order l m ≡ Equal → l ≡ m
unfolding entry_order
entries_same [] [] e = refl
entries_same [] (y ∷ m) e = before-not-same e
entries_same (x ∷ l) [] e = after-not-same e
entries_same (x ∷ l) (y ∷ m) e =
    ap₂ {C = List ℤ} (λ a k. a ∷ k) (number_same x y (then-left (number_order x y) (entry_order l m) e)) (entries_same l m (then-right (number_order x y) (entry_order l m) e))

flags-same : (a b : Bool) → flag_order a b ≡ Equal → a ≡ b
flags-same false false e = refl
flags-same false true e = before-not-same e
flags-same true false e = after-not-same e
flags-same true true e = refl

pub row_same : (r s : Row) → row_order r s ≡ Equal → r ≡ s
unfolding row_order
row_same r s e =
    let a = entries_same r.entries s.entries (then-left (entry_order r.entries s.entries) (flag_order r.strict s.strict) e) in
    let b = flags-same r.strict s.strict (then-right (entry_order r.entries s.entries) (flag_order r.strict s.strict) e) in
    λ i. record { entries = a i; strict = b i }

pub number_itself : (x : ℤ) → number_order x x ≡ Equal
number_itself x = go (lt_z x x) refl
  where
    go : (b : Bool) → lt_z x x ≡ b → cond b Less (cond b Greater Equal) ≡ Equal
    go true e = let h : x <ℤ x = lt_z_yes (T_of e) in absurd (omega zed)
    go false e = refl

pub entries_itself : (l : List ℤ) → entry_order l l ≡ Equal
unfolding entry_order
entries_itself [] = refl
entries_itself (x ∷ l) = ap₂ {C = Ordering} then_by (number_itself x) (entries_itself l)

flag_itself : (a : Bool) → flag_order a a ≡ Equal
flag_itself true = refl
flag_itself false = refl

pub row_itself : (r : Row) → row_order r r ≡ Equal
unfolding row_order
row_itself r = ap₂ {C = Ordering} then_by (entries_itself r.entries) (flag_itself r.strict)

-- ---- the test for it
pub order_same : (o : Ordering) → is_same o ≡ true → o ≡ Equal
order_same Less e = not-both e
order_same Equal e = refl
order_same Greater e = not-both e

pub same_row-is : (r s : Row) → same_row r s ≡ true → r ≡ s
unfolding same_row
same_row-is r s e = row_same r s (order_same (row_order r s) e)

pub same_row_itself : (r : Row) → same_row r r ≡ true
unfolding same_row
same_row_itself r = rw (row_itself r) refl

pub flags-alike : (a b : Bool) → beq a b ≡ is_same (flag_order a b)
flags-alike false false = refl
flags-alike false true = refl
flags-alike true false = refl
flags-alike true true = refl

-- ---- the comparison turned
abbrev pub turned : Ordering → Ordering
turned Less = Greater
turned Equal = Equal
turned Greater = Less

turned_then : (o q : Ordering) → turned (then_by o q) ≡ then_by (turned o) (turned q)
turned_then Less q = refl
turned_then Equal q = refl
turned_then Greater q = refl

turned-number : (x y : ℤ) → turned (number_order x y) ≡ number_order y x
turned-number x y = go (lt_z x y) (lt_z y x) refl refl
  where
    go : (b c : Bool) → lt_z x y ≡ b → lt_z y x ≡ c → turned (cond b Less (cond c Greater Equal)) ≡ cond c Less (cond b Greater Equal)
    go true true e f = let h : x <ℤ y = lt_z_yes (T_of e) in let k : y <ℤ x = lt_z_yes (T_of f) in absurd (omega zed)
    go true false e f = refl
    go false true e f = refl
    go false false e f = refl

turned_entries : (l m : List ℤ) → turned (entry_order l m) ≡ entry_order m l
unfolding entry_order
turned_entries [] [] = refl
turned_entries [] (y ∷ m) = refl
turned_entries (x ∷ l) [] = refl
turned_entries (x ∷ l) (y ∷ m) = turned_then (number_order x y) (entry_order l m) ∙ ap₂ {C = Ordering} then_by (turned-number x y) (turned_entries l m)

turned-flags : (a b : Bool) → turned (flag_order a b) ≡ flag_order b a
turned-flags false false = refl
turned-flags false true = refl
turned-flags true false = refl
turned-flags true true = refl

pub row-turned : (r s : Row) → turned (row_order r s) ≡ row_order s r
unfolding row_order
row-turned r s = turned_then (entry_order r.entries s.entries) (flag_order r.strict s.strict)
    ∙ ap₂ {C = Ordering} then_by (turned_entries r.entries s.entries) (turned-flags r.strict s.strict)

pub after-before : (r s : Row) → row_order r s ≡ Greater → row_order s r ≡ Less
after-before r s e = sym (row-turned r s) ∙ ap turned e

-- ---- `Less` is transitive
then_cases : (o q : Ordering) → then_by o q ≡ Less → (o ≡ Less) ⊎ ((o ≡ Equal) × (q ≡ Less))
then_cases Less q e = inl refl
then_cases Equal q e = inr (refl, e)
then_cases Greater q e = after-not-before e

then-first : {o : Ordering} (q : Ordering) → o ≡ Less → then_by o q ≡ Less
then-first q e = rw e refl

then-second : {o q : Ordering} → o ≡ Equal → q ≡ Less → then_by o q ≡ Less
then-second e f = rw e f

number_lt : (x y : ℤ) → number_order x y ≡ Less → x <ℤ y
number_lt x y = go (lt_z x y) (lt_z y x) refl
  where
    go : (b c : Bool) → lt_z x y ≡ b → cond b Less (cond c Greater Equal) ≡ Less → x <ℤ y
    go true c e f = lt_z_yes (T_of e)
    go false true e f = after-not-before f
    go false false e f = same-not-before f

lt_number : (x y : ℤ) → x <ℤ y → number_order x y ≡ Less
lt_number x y h = go (lt_z x y) refl
  where
    go : (b : Bool) → lt_z x y ≡ b → cond b Less (cond (lt_z y x) Greater Equal) ≡ Less
    go true e = refl
    go false e = absurd (subst T e h.lt)

number-trans : (x y z : ℤ) → number_order x y ≡ Less → number_order y z ≡ Less → number_order x z ≡ Less
number-trans x y z e f = let a = number_lt x y e in let b = number_lt y z f in lt_number x z (omega zed)

entry-step : (x y z : ℤ) (p q o : Ordering) → (number_order x y ≡ Less) ⊎ ((number_order x y ≡ Equal) × (p ≡ Less)) →
    (number_order y z ≡ Less) ⊎ ((number_order y z ≡ Equal) × (q ≡ Less)) → (p ≡ Less → q ≡ Less → o ≡ Less) → then_by (number_order x z) o ≡ Less
entry-step x y z p q o (inl a) (inl b) ih = then-first o (number-trans x y z a b)
entry-step x y z p q o (inl a) (inr b) ih = then-first o (subst (λ (t : ℤ). number_order x t ≡ Less) (number_same y z b.0) a)
entry-step x y z p q o (inr a) (inl b) ih = then-first o (subst (λ (t : ℤ). number_order t z ≡ Less) (sym (number_same x y a.0)) b)
entry-step x y z p q o (inr a) (inr b) ih = then-second (subst (λ (t : ℤ). number_order t z ≡ Equal) (sym (number_same x y a.0)) b.0) (ih a.1 b.1)

entry-trans : (l m k : List ℤ) → entry_order l m ≡ Less → entry_order m k ≡ Less → entry_order l k ≡ Less
unfolding entry_order
entry-trans [] [] k e f = same-not-before e
entry-trans [] (y ∷ m) [] e f = after-not-before f
entry-trans [] (y ∷ m) (z ∷ k) e f = refl
entry-trans (x ∷ l) [] k e f = after-not-before e
entry-trans (x ∷ l) (y ∷ m) [] e f = after-not-before f
entry-trans (x ∷ l) (y ∷ m) (z ∷ k) e f =
    entry-step x y z (entry_order l m) (entry_order m k) (entry_order l k)
    (then_cases (number_order x y) (entry_order l m) e) (then_cases (number_order y z) (entry_order m k) f) (entry-trans l m k)

-- among flags only non-strict is before strict
flag_clash : {G : Type 0} (a b c : Bool) → flag_order a b ≡ Less → flag_order b c ≡ Less → G
flag_clash false false c e f = same-not-before e
flag_clash false true false e f = after-not-before f
flag_clash false true true e f = same-not-before f
flag_clash true false c e f = after-not-before e
flag_clash true true c e f = same-not-before e

row_step : (r s t : Row) → (entry_order r.entries s.entries ≡ Less) ⊎ ((entry_order r.entries s.entries ≡ Equal) × (flag_order r.strict s.strict ≡ Less)) →
    (entry_order s.entries t.entries ≡ Less) ⊎ ((entry_order s.entries t.entries ≡ Equal) × (flag_order s.strict t.strict ≡ Less)) →
    then_by (entry_order r.entries t.entries) (flag_order r.strict t.strict) ≡ Less
row_step r s t (inl a) (inl b) = then-first _ (entry-trans r.entries s.entries t.entries a b)
row_step r s t (inl a) (inr b) = then-first _ (subst (λ (u : List ℤ). entry_order r.entries u ≡ Less) (entries_same s.entries t.entries b.0) a)
row_step r s t (inr a) (inl b) = then-first _ (subst (λ (u : List ℤ). entry_order u t.entries ≡ Less) (sym (entries_same r.entries s.entries a.0)) b)
row_step r s t (inr a) (inr b) = flag_clash r.strict s.strict t.strict a.1 b.1

pub row-trans : (r s t : Row) → row_order r s ≡ Less → row_order s t ≡ Less → row_order r t ≡ Less
unfolding row_order
row-trans r s t e f = row_step r s t
    (then_cases (entry_order r.entries s.entries) (flag_order r.strict s.strict) e)
    (then_cases (entry_order s.entries t.entries) (flag_order s.strict t.strict) f)

pub before_differs : (r s : Row) → row_order r s ≡ Less → s ≢ r
before_differs r s e f = same-not-before (sym (row_itself r) ∙ subst (λ (u : Row). row_order r u ≡ Less) f e)

-- ---- a row with the larger constant stands behind
first-after : (l m : List ℤ) → 0 < length l → at m 0 <ℤ at l 0 → entry_order l m ≡ Greater
unfolding entry_order
first-after [] m h k = absurd (not-suc-le-zero h)
first-after (x ∷ l) [] h k = refl
first-after (x ∷ l) (y ∷ m) h k = rw (sym (turned-number y x) ∙ ap turned (lt_number y x k)) refl

pub constant-after : (r s : Row) → 0 < length r.entries → at s.entries 0 <ℤ at r.entries 0 → row_order r s ≡ Greater
unfolding row_order
constant-after r s h k = rw (first-after r.entries s.entries h k) refl

-- ---- lists whose fronts are as long as each other: the order of the fronts, then that of the rests
then_assoc : (o p q : Ordering) → then_by (then_by o p) q ≡ then_by o (then_by p q)
then_assoc Less p q = refl
then_assoc Equal p q = refl
then_assoc Greater p q = refl

pub entries_joined : (p q l m : List ℤ) → length p ≡ length q → entry_order (p ++ l) (q ++ m) ≡ then_by (entry_order p q) (entry_order l m)
unfolding entry_order
entries_joined [] [] l m e = refl
entries_joined [] (y ∷ q) l m e = absurd (omega arith)
entries_joined (x ∷ p) [] l m e = absurd (omega arith)
entries_joined (x ∷ p) (y ∷ q) l m e =
    ap (then_by (number_order x y)) (entries_joined p q l m (omega arith)) ∙ sym (then_assoc (number_order x y) (entry_order p q) (entry_order l m))
