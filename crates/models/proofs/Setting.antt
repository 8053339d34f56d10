-- Entry numbers counted from a first one, the entries of the clocks that a transition resets, and the reference padded to a setting
-- of eight parameters. Assumes nothing.
use mathlib.Core.Path.{◌≡◌, refl, sym, ap, ap₂, ◌∙◌}
use mathlib.Core.Bool.{Bool, ◌&&◌}
use mathlib.Core.List.{List, [], ◌∷◌, ◌++◌, map}
use Prim.Native.Nat.{ℕ, zero, suc, ◌+◌, ◌-◌, ◌<◌, ◌≤◌, zero-le}
use native.Mathlib.Omega.{arith}
use lib.Seq.{ext_get_or, length-take-le, get_or-take}
use lib.ListN.{take, length, get_or, replicate, length-map, get_or-eq_default}
use lib.IntN.{ℤ, pos, ◌+ℤ◌, ◌*ℤ◌, *ℤ-zero}
use native.Mathlib.Decide.{ℕ_discrete}
use Rattle.integers.specs.Limits.{given_limit}
use Rattle.integers.specs.Lists.{All, nil, cons, In, here, there, every, from}
use Rattle.integers.proofs.Lists.{all_map, all_filter}
use Rattle.rows.specs.declared.Row.{Row}
use Rattle.rows.specs.Rows.{at, dot, under, holds_at, Within}
use Rattle.models.specs.declared.Model.{Model}
use Rattle.models.specs.Automaton.{bit, reset_entries, padded, given_reference, setting_of, rows_of}
use Rattle.models.specs.Acceptance.{reference_meets}

pub length_from : (a n : ℕ) → length (from a n) ≡ n
length_from a zero = refl
length_from a (suc n) = ap suc (length_from (suc a) n)

pub from_at : (a n i : ℕ) → i < n → get_or (from a n) i 0 ≡ a + i
from_at a zero i h = absurd (omega arith)
from_at a (suc n) zero h = omega arith
from_at a (suc n) (suc i) h = from_at (suc a) n i (omega arith) ∙ step a i
  where
    step : (a i : ℕ) → suc a + i ≡ a + suc i
    step a i = omega arith

pub from-within : (a n : ℕ) → All (λ c. (a ≤ c) × (c < a + n)) (from a n)
from-within a zero = nil
from-within a (suc n) =
    let first : (a ≤ a) × (a < a + suc n) = (omega arith, omega arith) in
    cons first (all_map (λ c h. later c h.0 h.1) (from-within (suc a) n))
  where
    later : (c : ℕ) → suc a ≤ c → c < suc a + n → (a ≤ c) × (c < a + suc n)
    later c h k = (omega arith, omega arith)

pub in_from : (a n i : ℕ) → a ≤ i → i < a + n → In i (from a n)
in_from a zero i h k = absurd (omega arith)
in_from a (suc n) i h k = go (ℕ_discrete i a) (λ q. in_from (suc a) n i q (omega arith))
  where
    go : Dec (i ≡ a) → (suc a ≤ i → In i (from (suc a) n)) → In i (a ∷ from (suc a) n)
    go (yes e) f = here e
    go (no g) f = there (f (omega arith))

-- only clocks are reset, and only those that there are
pub resets-within : (clocks resets : ℕ) → All (λ c. (8 < c) × (c ≤ 8 + clocks)) (reset_entries clocks resets)
unfolding reset_entries
resets-within clocks resets = (all_filter (λ e. bit resets (e - 9)) (from 9 clocks)).1 (all_map (λ c h t. within c h.0 h.1) (from-within 9 clocks))
  where
    within : (c : ℕ) → 9 ≤ c → c < 9 + clocks → (8 < c) × (c ≤ 8 + clocks)
    within c h k = (omega arith, omega arith)

-- ---- a table of numbers, counted
pub at-counted : (f : ℕ → ℤ) (a n i : ℕ) → i < n → at (map f (from a n)) i ≡ f (a + i)
at-counted f a zero i h = absurd (omega arith)
at-counted f a (suc n) zero h = ap f (omega arith)
at-counted f a (suc n) (suc i) h = at-counted f (suc a) n i (omega arith) ∙ ap f (omega arith)

-- those of another list
pub at-declared : (ns : List ℤ) (n i : ℕ) → i < n → at (map (λ j. at ns j) (from 0 n)) i ≡ at ns i
at-declared ns n i h = at-counted (λ j. at ns j) 0 n i h ∙ ap (at ns) (omega arith)

pub length-counted : (f : ℕ → ℤ) (a n : ℕ) → length (map f (from a n)) ≡ n
length-counted f a n = length-map (from a n) f ∙ length_from a n

-- which are the first n of it
pub declared_numerators : (ns : List ℤ) (n : ℕ) → n ≤ length ns → map (λ j. at ns j) (from 0 n) ≡ take n ns
declared_numerators ns n h =
    ext_get_or (pos 0) (map (λ j. at ns j) (from 0 n)) (take n ns) (length-counted (λ j. at ns j) 0 n ∙ sym (length-take-le n ns h))
    (λ i k. let k₁ : i < n = omega (arith, length-counted (λ j. at ns j) 0 n) in at-declared ns n i k₁ ∙ sym (get_or-take n ns i (pos 0) k₁))

-- ---- numbers padded with zeros
pub length-padded : (n : ℕ) (l : List ℤ) → length (padded n (pos 0) l) ≡ n
unfolding padded
length-padded zero l = refl
length-padded (suc n) [] = ap suc (length-padded n [])
length-padded (suc n) (x ∷ l) = ap suc (length-padded n l)

pub at-padded : (n : ℕ) (l : List ℤ) (i : ℕ) → i < n → at (padded n (pos 0) l) i ≡ at l i
unfolding padded
at-padded zero l i h = absurd (omega arith)
at-padded (suc n) [] zero h = refl
at-padded (suc n) [] (suc i) h = at-padded n [] i (omega arith)
at-padded (suc n) (x ∷ l) zero h = refl
at-padded (suc n) (x ∷ l) (suc i) h = at-padded n l i (omega arith)

padded-none : (n : ℕ) → padded n (pos 0) [] ≡ replicate n (pos 0)
unfolding padded
padded-none zero = refl
padded-none (suc n) = ap (λ (k : List ℤ). pos 0 ∷ k) (padded-none n)

pub padded-behind : (n : ℕ) (l : List ℤ) → length l ≤ n → padded n (pos 0) l ≡ l ++ replicate (n - length l) (pos 0)
unfolding padded
padded-behind n [] h = let e : n - 0 ≡ n = omega arith in rw e (padded-none n)
padded-behind zero (x ∷ l) h = absurd (omega arith)
padded-behind (suc n) (x ∷ l) h =
    let e : suc n - suc (length l) ≡ n - length l = omega arith in
    rw e (ap (λ (k : List ℤ). x ∷ k) (padded-behind n l (omega arith)))

pub within-padded : (B n : ℕ) (l : List ℤ) → Within B l → Within B (padded n (pos 0) l)
unfolding padded
within-padded B zero l w i = zero-le
within-padded B (suc n) [] w zero = zero-le
within-padded B (suc n) [] w (suc i) = within-padded B n [] w i
within-padded B (suc n) (x ∷ l) w zero = w 0
within-padded B (suc n) (x ∷ l) w (suc i) = within-padded B n l (λ j. w (suc j)) i

-- no row sees the zeros
dot-zeros : (n : ℕ) (l : List ℤ) → dot l (padded n (pos 0) []) ≡ dot l []
unfolding dot padded
dot-zeros zero l = refl
dot-zeros (suc n) [] = refl
dot-zeros (suc n) (a ∷ l) = rw (*ℤ-zero a, dot-zeros n l) (none l)
  where
    none : (l : List ℤ) → pos 0 +ℤ dot l [] ≡ pos 0
    none [] = refl
    none (a ∷ l) = refl

pub dot-padded : (n : ℕ) (l p : List ℤ) → length p ≤ n → dot l (padded n (pos 0) p) ≡ dot l p
unfolding dot padded
dot-padded n l [] h = dot-zeros n l
dot-padded zero l (x ∷ p) h = absurd (omega arith)
dot-padded (suc n) [] (x ∷ p) h = refl
dot-padded (suc n) (a ∷ l) (x ∷ p) h = ap (λ (t : ℤ). a *ℤ x +ℤ t) (dot-padded n l p (omega arith))

-- ---- a reference: number i of it is numerator i − 1, and past the declared ones 0
pub numerator-at : (d : ℤ) (ns : List ℤ) (n i : ℕ) → 0 < i → i ≤ n → at (d ∷ map (λ j. at ns j) (from 0 n)) i ≡ at ns (i - 1)
numerator-at d ns n zero h k = absurd (omega arith)
numerator-at d ns n (suc i) h k = at-declared ns n i k ∙ ap (at ns) (omega arith)

pub reference-past : (d : ℤ) (ns : List ℤ) (n i : ℕ) → n < i → at (d ∷ map (λ j. at ns j) (from 0 n)) i ≡ pos 0
reference-past d ns n i h = get_or-eq_default (d ∷ map (λ j. at ns j) (from 0 n)) (pos 0) {n = i} (omega (arith, length-counted (λ j. at ns j) 0 n))

pub padded-meets : (n : ℕ) (p : List ℤ) (rows : List Row) → length p ≤ n → every (holds_at (padded n (pos 0) p)) rows ≡ every (holds_at p) rows
padded-meets n p [] h = refl
padded-meets n p (r ∷ rows) h = ap₂ {C = Bool} (λ (a b : Bool). a && b) (ap (under r.strict) (dot-padded n r.entries p h)) (padded-meets n p rows h)

-- the same of a model's reference
module _ (m : Model) where
  pub setting_met : (kind : ℕ) → m.header.parameters ≤ 8 → every (holds_at (setting_of m.reference m.header.parameters)) (rows_of m kind 0) ≡ reference_meets m (rows_of m kind 0)
  unfolding reference_meets
  setting_met kind h = padded-meets 9 (given_reference m) (rows_of m kind 0) (omega (arith, length-counted (at m.reference.numerators) 0 m.header.parameters))

  pub setting_within : Within given_limit (given_reference m) → Within given_limit (setting_of m.reference m.header.parameters)
  setting_within w = within-padded given_limit 9 (given_reference m) w
