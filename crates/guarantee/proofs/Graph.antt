-- What stands when nothing is due: kept states that are closed under the transitions, and a region within all their shadows.
-- Assumes nothing.
use mathlib.Core.Path.{◌≡◌}
use mathlib.Core.Logic.{◌⊎◌}
use mathlib.Core.List.{List, [], ◌∷◌, ◌++◌}
use Prim.Native.Nat.{◌+◌}
use lib.IntN.{ℤ}
use Rattle.integers.specs.Lists.{All, In}
use Rattle.rows.specs.declared.Row.{Row}
use Rattle.sets.specs.Outcomes.{Ok}
use Rattle.removal.specs.Exact.{Point, Meets}
use Rattle.models.specs.Automaton.{Automaton, Edge}
use Rattle.models.specs.Runs.{Event, event}
use Rattle.models.proofs.Shape.{Names}
use Rattle.method.specs.Method.{State, start, successor, shadow}

-- a kept state: it names no clock beyond the last, and the region lies in its shadow
pub record Standing (m : Automaton) (region : List Row) (S : State) : Type 0 where
  pub named : All (Names (8 + m.clocks)) S.rows
  pub sh : List Row
  pub is_shadow : shadow m S.rows ≡ Ok sh
  pub within : (p : List ℤ) → Point 16 p → Meets p region → Meets p sh

-- a transition from a kept state: its successor has no point that meets K, or is a kept state
pub record Handled (m : Automaton) (K : List Row) (states : List State) (S : State) (t : Edge) : Type 0 where
  pub rows : List Row
  pub is_successor : successor m S.rows t ≡ Ok rows
  pub verdict : ((q : List ℤ) → Point 16 q → Meets q K → ¬ Meets q rows) ⊎ In (record { location = t.target; rows = rows }) states

-- the start state is kept
pub record Begun (m : Automaton) (K : List Row) (states : List State) : Type 0 where
  pub state : State
  pub location : state.location ≡ 0
  pub is_start : start m K ≡ Ok state.rows
  pub is_in : In state states

pub record Graph (m : Automaton) (K : List Row) (states : List State) (region : List Row) : Type 0 where
  pub K_names : All (Names 8) K
  pub begun : Begun m K states
  pub standing : (S : State) → In S states → Standing m region S
  pub closed : (S : State) → In S states → (t : Edge) → In t m.edges → t.source ≡ S.location → Handled m K states S t

-- ---- a path of kept states, and the trace along it
pub data Path (m : Automaton) (K : List Row) (states : List State) : List Event → State → Type 0 where
  begin : (S : State) → S.location ≡ 0 → start m K ≡ Ok S.rows → In S states → Path m K states [] S
  onward : {tr : List Event} {S : State} → Path m K states tr S → (t : Edge) → In t m.edges → t.source ≡ S.location →
      (S' : State) → S'.location ≡ t.target → successor m S.rows t ≡ Ok S'.rows → In S' states → Path m K states (tr ++ (event t ∷ [])) S'

pub path_in : {m : Automaton} {K : List Row} {states : List State} {tr : List Event} {S : State} → Path m K states tr S → In S states
path_in (begin S l e i) = i
path_in (onward p t h s S' l e i) = i

pub record SomePath (m : Automaton) (K : List Row) (states : List State) (tr : List Event) : Type 0 where
  pub state : State
  pub path : Path m K states tr state
