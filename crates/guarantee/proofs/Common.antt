-- Runs once more, over one common denominator: what the runs with fractions say, in whole numbers. `Bridge` shows that both have the same
-- traces. Assumes nothing.
use mathlib.Core.Path.{◌≡◌}
use mathlib.Core.List.{List, [], ◌∷◌, ◌++◌}
use Prim.Native.Nat.{ℕ, zero, suc}
use lib.ListN.{length, replicate, set}
use lib.IntN.{ℤ, pos}
use lib.Signed.{◌≤ℤ◌, ◌<ℤ◌}
use Rattle.integers.specs.Lists.{All, In}
use Rattle.rows.specs.Rows.{entry_count, at, plus, times}
use Rattle.removal.specs.Exact.{Meets}
use Rattle.models.specs.Automaton.{Automaton, Edge}
use Rattle.models.specs.Runs.{Event, event}
use Rattle.models.proofs.Shape.{Shaped}

-- A point is 16 whole numbers: entry 0 a denominator above zero, 1 to 8 the parameters, 9 to 14 the clocks (15 is not used). Variable i is
-- the rational number entry i over entry 0.
-- ---- settings, and what happens to a point
-- a denominator above zero, then a numerator not below zero for each parameter
pub record Setting (m : Automaton) (s : List ℤ) : Type 0 where
  pub size : length s ≡ suc m.parameters
  pub positive : pos 0 <ℤ at s 0
  pub not_negative : All (λ z. pos 0 ≤ℤ z) s

pub reference-is : {m : Automaton} → Shaped m → Setting m m.reference
reference-is ok = record { size = ok.size; positive = ok.positive; not_negative = ok.not_negative }

-- n numbers: those of s, then zeros
unfoldable pub padded : ℕ → List ℤ → List ℤ
padded zero s = []
padded (suc n) [] = pos 0 ∷ padded n []
padded (suc n) (x ∷ s) = x ∷ padded n s

-- the setting with every clock at 0
unfoldable pub at_zero : List ℤ → List ℤ
at_zero s = padded entry_count s

-- entries 9 to 14 are 1, the others 0
abbrev pub clock_rates : List ℤ
clock_rates = replicate 9 (pos 0) ++ replicate 6 (pos 1) ++ (pos 0 ∷ [])

-- a delay: the denominator is made k times as large (no value changes), and d is added to every clock; it is the rational d / (k · entry 0)
unfoldable pub waited : ℤ → ℤ → List ℤ → List ℤ
waited k d p = plus (times k p) (times d clock_rates)

-- the clocks of the list set to 0
unfoldable pub reset : List ℕ → List ℤ → List ℤ
reset [] p = p
reset (c ∷ cs) p = reset cs (set p c (pos 0))

-- ---- runs and traces
-- `Run m s tr l p`: a run of m at the setting s that has shown the trace tr and has just arrived in location l at the point p
pub data Run (m : Automaton) (s : List ℤ) : List Event → ℕ → List ℤ → Type 0 where
  begins : Meets (at_zero s) (m.invariant 0) → Run m s [] 0 (at_zero s)
  moves : {tr : List Event} {l : ℕ} {p : List ℤ} → Run m s tr l p →
      (t : Edge) → In t m.edges → t.source ≡ l →
      (k d : ℤ) → pos 0 <ℤ k → pos 0 ≤ℤ d →
      Meets (waited k d p) (m.invariant l) →
      Meets (waited k d p) t.guard →
      Meets (reset t.resets (waited k d p)) (m.invariant t.target) →
      Run m s (tr ++ (event t ∷ [])) t.target (reset t.resets (waited k d p))

pub record Trace (m : Automaton) (s : List ℤ) (tr : List Event) : Type 0 where
  pub location : ℕ
  pub point : List ℤ
  pub run : Run m s tr location point
