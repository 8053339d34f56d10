-- Reading in steps, as the code has it: a line decoded, its kind, and what is taken from a frame.
use Rattle.std.specs.Prelude.{◌≡◌, cond, ◌&&◌, List, [], ◌∷◌, ◌++◌, ℕ, ◌+◌, ◌≤◌, eqb, length, take, Option, Some, None, is_some}
use Rattle.std.specs.Option.{unwrap_or}
use Rattle.sets.specs.Outcomes.{Result, Ok, Err}
use Rattle.sets.specs.declared.Refusal.TheVariants.{NoFrame, Misplaced}
use Rattle.models.specs.declared.Header.{Header}
use Rattle.models.specs.declared.Transition.{Transition}
use Rattle.models.specs.declared.ModelRow.{ModelRow}
use Rattle.models.specs.declared.Model.{Model}
use Rattle.frames.specs.declared.Progress.{Progress}
use Rattle.frames.specs.declared.Frame.{Frame}
use Rattle.frames.specs.declared.Frame.TheVariants as frame
use Rattle.frames.specs.declared.steps.Kind.{Kind}
use Rattle.frames.specs.declared.steps.Kind.TheVariants as kind
use Rattle.frames.specs.Reading.{Seen, progress_of, declared, reference_table}

-- the longest frame: a row of 255 terms
abbrev pub frame_limit : ℕ
frame_limit = 1280

-- the bytes of a line, and what the decoder leaves of them
abbrev pub Decoded : Result (List ℕ) → List ℕ → Option ℕ → Type 0
Decoded (Ok bs) to r = (r ≡ Some (length bs)) × (take (length bs) to ≡ take frame_limit bs)
Decoded (Err q) to r = r ≡ None

-- ---- a header that fits has no more clocks, parameters and transitions than the tables take
pub record Sound (h : Header) : Type 0 where
  pub clocks : h.clocks ≤ 6
  pub parameters : h.parameters ≤ 8
  pub transitions : h.transitions ≤ 64

-- ---- the kinds as the frames number them
abbrev pub kind_number : Kind → ℕ
kind_number kind.Header = 1
kind_number kind.Reference = 2
kind_number kind.Row = 3
kind_number kind.Transition = 4

abbrev pub known_kind : ℕ → Result Kind
known_kind n = cond (eqb n 1) (Ok kind.Header) (cond (eqb n 2) (Ok kind.Reference) (cond (eqb n 3) (Ok kind.Row) (cond (eqb n 4) (Ok kind.Transition) (Err NoFrame))))

-- ---- what has been read, counted, after a frame that was taken
abbrev pub after : Progress → Frame → Progress
after p (frame.Header h) = record { header = Some h; reference = p.reference; transitions = p.transitions; rows = p.rows }
after p (frame.Reference r) = record { header = p.header; reference = Some r; transitions = p.transitions; rows = p.rows }
after p (frame.Row r) = record { header = p.header; reference = p.reference; transitions = p.transitions; rows = p.rows + 1 }
after p (frame.Transition t) = record { header = p.header; reference = p.reference; transitions = p.transitions + 1; rows = p.rows }

-- the transition or the row that a frame has, behind those that were read
abbrev pub more_transitions : Frame → List Transition → List Transition
more_transitions (frame.Header h) ts = ts
more_transitions (frame.Reference r) ts = ts
more_transitions (frame.Row r) ts = ts
more_transitions (frame.Transition t) ts = ts ++ (t ∷ [])

abbrev pub more_rows : Frame → List ModelRow → List ModelRow
more_rows (frame.Header h) rs = rs
more_rows (frame.Reference r) rs = rs
more_rows (frame.Row r) rs = rs ++ (r ∷ [])
more_rows (frame.Transition t) rs = rs

-- the frame leads from s to t
pub record Met (f : Frame) (s t : Seen) : Type 0 where
  pub counted : after (progress_of s) f ≡ progress_of t
  pub transitions : t.transitions ≡ more_transitions f s.transitions
  pub rows : t.rows ≡ more_rows f s.rows

abbrev pub Told : Result Frame → Seen → Result Seen → Type 0
Told (Ok f) s (Ok t) = Met f s t
Told (Ok f) s (Err q) = ⊥
Told (Err r) s (Ok t) = ⊥
Told (Err r) s (Err q) = r ≡ q

-- at the end of the input: found, unless a frame is missing
abbrev pub finished : Progress → List Transition → List ModelRow → Result Model
finished p ts rs =
    cond (is_some p.reference && eqb p.transitions (declared p).transitions)
    (Ok (record { header = declared p; reference = unwrap_or p.reference (reference_table []); transitions = ts; rows = rs; count = p.rows }))
    (Err Misplaced)
