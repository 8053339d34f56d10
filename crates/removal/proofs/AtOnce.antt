-- The refusals that change nothing: flags and variable numbers tested one after the other, and the refusals in their order. Assumes nothing.
use mathlib.Core.Path.{◌≡◌, refl, sym, ap}
use mathlib.Core.Bool.{Bool, true, false, ◌&&◌}
use mathlib.Core.List.{List}
use Prim.Native.Nat.{ℕ, zero, suc, ◌+◌, ◌*◌, ◌≤◌, ◌<◌}
use native.Mathlib.Numerals.{add-one}
use native.Mathlib.Omega.{arith}
use borrow.Author.Tests.{leb-true, ltb-true, ltb-false, le-leb, lt-leb, lt-ltb, le-ltb}
use lib.Dec.{leb, ltb}
use lib.ListN.{length, get_or}
use lib.IntN.{ℤ, pos}
use Rattle.std.specs.List.{list_all, range_with_len}
use Rattle.integers.specs.Lists.{every, from}
use Rattle.integers.proofs.Tests.{and_left, and_right, and_none, or-false, split}
use Rattle.rows.specs.Rows.{entry_count, row_numbers, set_rows, set_numbers}
use Rattle.sets.specs.Outcomes.{Outcome, Ok, Err}
use Rattle.sets.proofs.Results.{refused-not}
use Rattle.sets.specs.declared.Refusal.{Refusal}
use Rattle.sets.specs.declared.Refusal.TheVariants.{Undeclared, TooManyRows, ShortStore}
use Rattle.removal.specs.Alone.{short, is_flag, flags_fit, is_variable, refused_at_once}

-- ---- the flags of n rows, from row i on
abbrev pub flag_at : List ℤ → ℕ → Bool
flag_at s i = is_flag (get_or s (i * row_numbers + entry_count) (pos 0))

pub flags-each : (s : List ℤ) (n i : ℕ) → list_all (flag_at s) (range_with_len i n) ≡ every (flag_at s) (from i n)
flags-each s zero i = refl
flags-each s (suc n) i = rw (add-one i) (ap (λ (b : Bool). flag_at s i && b) (flags-each s n (suc i)))

-- ---- a variable number
pub variable_below : (v : ℕ) → v < 1 → is_variable v ≡ false
variable_below v h = rw (lt-leb 1 v h)

pub variable_above : (v : ℕ) → 15 < v → is_variable v ≡ false
variable_above v h = sym (and_none (leb 1 v) (ltb v entry_count) (le-ltb v entry_count (omega arith)))

pub variable_is : (v : ℕ) → 1 ≤ v → v ≤ 15 → is_variable v ≡ true
variable_is v h k = rw (le-leb 1 v h, lt-ltb v entry_count (omega arith))

pub variable_in : (v : ℕ) → is_variable v ≡ true → (0 < v) × (v < entry_count)
variable_in v e =
    let h = leb-true 1 v (and_left (leb 1 v) (ltb v entry_count) e) in
    (omega arith, ltb-true v entry_count (and_right (leb 1 v) (ltb v entry_count) e))

-- ---- in their order
module _ (count : ℕ) (vs : List ℕ) (a b : List ℤ) where
  pub first_short : length a < set_numbers → Err ShortStore ≡ refused_at_once count vs a b
  unfolding refused_at_once
  first_short h = rw (lt-ltb (length a) set_numbers h)

  module _ (l : set_numbers ≤ length a) where
    pub second_short : length b < set_numbers → Err ShortStore ≡ refused_at_once count vs a b
    unfolding refused_at_once
    second_short h = rw (le-ltb (length a) set_numbers l, lt-ltb (length b) set_numbers h)

    module _ (m : set_numbers ≤ length b) where
      pub too_many : set_rows < count → Err TooManyRows ≡ refused_at_once count vs a b
      unfolding refused_at_once
      too_many h = rw (le-ltb (length a) set_numbers l, le-ltb (length b) set_numbers m, lt-ltb set_rows count h)

      module _ (k : count ≤ set_rows) where
        pub flag_wrong : flags_fit a count ≡ false → Err Undeclared ≡ refused_at_once count vs a b
        unfolding refused_at_once
        flag_wrong e = rw (le-ltb (length a) set_numbers l, le-ltb (length b) set_numbers m, le-ltb set_rows count k, e)

        pub variable_wrong : flags_fit a count ≡ true → every is_variable vs ≡ false → Err Undeclared ≡ refused_at_once count vs a b
        unfolding refused_at_once
        variable_wrong e f = rw (le-ltb (length a) set_numbers l, le-ltb (length b) set_numbers m, le-ltb set_rows count k, e, f)

        pub none_wrong : flags_fit a count ≡ true → every is_variable vs ≡ true → (Ok tt) ≡ refused_at_once count vs a b
        unfolding refused_at_once
        none_wrong e f = rw (le-ltb (length a) set_numbers l, le-ltb (length b) set_numbers m, le-ltb set_rows count k, e, f)

-- ---- where none applies
pub record Accepted (count : ℕ) (vs : List ℕ) (a b : List ℤ) : Type 0 where
  pub first_long : set_numbers ≤ length a
  pub second_long : set_numbers ≤ length b
  pub few : count ≤ set_rows
  pub flags : flags_fit a count ≡ true
  pub variables : every is_variable vs ≡ true

not_found : {G : Type 0} {q : Refusal} → ◌≡◌ {A = Outcome} (Err q) (Ok tt) → G
not_found e = refused-not e

pub accepted : (count : ℕ) (vs : List ℕ) (a b : List ℤ) → refused_at_once count vs a b ≡ (Ok tt) → Accepted count vs a b
unfolding refused_at_once
accepted count vs a b e =
    split (short a b) _ _ _ e (λ h f. not_found f) (λ h f.
    split (ltb set_rows count) _ _ _ f (λ k g. not_found g) (λ k g.
    split (flags_fit a count && every is_variable vs) _ _ _ g
    (λ m o.
    let s = or-false (ltb (length a) set_numbers) (ltb (length b) set_numbers) h in
    record {
      first_long = ltb-false (length a) set_numbers s.0;
      second_long = ltb-false (length b) set_numbers s.1;
      few = ltb-false set_rows count k;
      flags = and_left (flags_fit a count) (every is_variable vs) m;
      variables = and_right (flags_fit a count) (every is_variable vs) m;
    })
    (λ m o. not_found o)))
