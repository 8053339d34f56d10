-- However far reading has come, the header and the counts fit the tables. Assumes nothing.
use mathlib.Core.Path.{subst}
use mathlib.Core.Bool.{Bool, true, false, cond}
use mathlib.Core.List.{List}
use Prim.Native.Nat.{ℕ, ◌≤◌}
use native.Mathlib.Omega.{arith}
use Rattle.std.specs.Prelude.{Some, None}
use Rattle.std.specs.Option.{unwrap_or}
use Rattle.rows.specs.Rows.{set_rows}
use Rattle.models.specs.declared.ModelRow.{ModelRow}
use Rattle.models.specs.declared.Transition.{Transition}
use Rattle.frames.specs.declared.Progress.{Progress}
use Rattle.frames.specs.Reading.{Seen, nothing, progress_of, declared}
use Rattle.frames.specs.Steps.{Sound}
use Rattle.frames.proofs.Reaching.{Reached}

-- before the header was met its numbers are zeros
declared-sound : (s : Seen) → Sound s.header → Sound (declared (progress_of s))
declared-sound s h = go s.has_header
  where
    go : (b : Bool) → Sound (unwrap_or (cond b (Some s.header) None) nothing.header)
    go true = h
    go false = record { clocks = omega arith; parameters = omega arith; transitions = omega arith }

module _ (input : List ℕ) (p : Progress) (ts : List Transition) (rs : List ModelRow) (rest : List ℕ) (r : Reached input p ts rs rest) where
  pub reached_few : Sound (declared p) × (p.transitions ≤ 64) × (p.rows ≤ set_rows)
  reached_few = subst (λ (q : Progress). Sound (declared q) × (q.transitions ≤ 64) × (q.rows ≤ set_rows)) r.counted (declared-sound r.seen r.few.sound, r.few.transitions, r.few.rows)
