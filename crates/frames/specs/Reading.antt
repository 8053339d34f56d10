-- A model read from its frames (rules, "The hex exchange" and "Numbers of the outcomes"): line by line, in a line 1 to 6 in order,
-- missing frames at the end of input.
use Rattle.std.specs.Prelude.{Bool, true, false, not, cond, ◌&&◌, ◌||◌, List, [], ◌∷◌, ◌++◌, map, ℕ, suc, ◌+◌, ◌-◌, ◌*◌, leb, ltb, eqb, length, drop, get_or, replicate, ℤ, pos, nat_abs, Some, None, is_some, is_none}
use Rattle.std.specs.Option.{unwrap_or}
use Rattle.integers.specs.Limits.{given_limit}
use Rattle.integers.specs.Lists.{every, from}
use Rattle.integers.specs.Signs.{is_zero}
use Rattle.rows.specs.Rows.{entry_count, set_rows, with_entry}
use Rattle.sets.specs.Outcomes.{Outcome, Ok, Err, Result, and_then}
use Rattle.sets.specs.declared.Refusal.TheVariants.{NoFrame, Misplaced, HeaderRange, ReferenceRange, Undeclared, WrongTerms}
use Rattle.models.specs.declared.Header.{Header}
use Rattle.models.specs.declared.Transition.{Transition}
use Rattle.models.specs.declared.ModelRow.{ModelRow}
use Rattle.models.specs.declared.Reference.{Reference}
use Rattle.models.specs.declared.Model.{Model}
use Rattle.models.specs.Automaton.{padded}
use Rattle.models.specs.Acceptance.{between, header_fits, reference_fits, transition_declared, owner_declared, entry_declared}
use Rattle.frames.specs.declared.Progress.{Progress}
use Rattle.frames.specs.Hex.{bytes_of, byte, word, signed, lines}

-- ---- what has been read: the header and the reference once they were met, the transitions and the rows in order
pub record Seen : Type 0 where
  pub has_header : Bool
  pub header : Header
  pub has_reference : Bool
  pub reference : List ℤ
  pub transitions : List Transition
  pub rows : List ModelRow

abbrev pub nothing : Seen
nothing = record {
  has_header = false;
  header = record { clocks = 0; parameters = 0; locations = 0; transitions = 0 };
  has_reference = false;
  reference = [];
  transitions = [];
  rows = [];
}

-- the denominator, and eight numerators
abbrev pub reference_table : List ℤ → Reference
reference_table l = record { denominator = get_or l 0 (pos 0); numerators = padded 8 (pos 0) (drop 1 l) }

-- the same counted, as the code keeps it beside the tables
abbrev pub progress_of : Seen → Progress
progress_of s = record {
  header = cond s.has_header (Some s.header) None;
  reference = cond s.has_reference (Some (reference_table s.reference)) None;
  transitions = length s.transitions;
  rows = length s.rows;
}

-- the header; zeros before it was met
abbrev pub declared : Progress → Header
declared p = unwrap_or p.header nothing.header

-- ---- the frames, their kind taken off
abbrev pub header_of : List ℕ → Header
header_of b = record { clocks = byte b 0; parameters = byte b 1; locations = byte b 2; transitions = byte b 3 }

-- the denominator, then a numerator for each parameter
abbrev pub reference_of : Header → List ℕ → List ℤ
reference_of h b = map (λ i. signed (word b (i * 4))) (from 0 (suc h.parameters))

abbrev pub transition_of : List ℕ → Transition
transition_of b = record { source = byte b 0; action = byte b 1; target = byte b 2; resets = byte b 3 }

-- term i of a row frame: its entry number and its coefficient
abbrev pub term_count : List ℕ → ℕ
term_count b = byte b 3

abbrev pub term_entry : List ℕ → ℕ → ℕ
term_entry b i = byte b (4 + i * 5)

abbrev pub term_coefficient : List ℕ → ℕ → ℤ
term_coefficient b i = signed (word b (5 + i * 5))

-- the entries that terms give
unfoldable pub entries_of : List ℕ → List ℕ → List ℤ
entries_of b [] = replicate entry_count (pos 0)
entries_of b (i ∷ is) = with_entry (term_entry b i) (term_coefficient b i) (entries_of b is)

abbrev pub row_of : List ℕ → ModelRow
row_of b = record { kind = byte b 0; owner = byte b 1; strict = byte b 2; entries = entries_of b (from 0 (term_count b)) }

-- ---- 1: a known kind, and its length
abbrev pub is_known : ℕ → Bool
is_known kind = leb 1 kind && leb kind 4

-- how many bytes follow the kind; `terms` is the number of terms that a row frame counts
unfoldable pub due_length : Header → ℕ → ℕ → ℕ
due_length h kind terms = cond (eqb kind 2) (4 + h.parameters * 4) (cond (eqb kind 3) (4 + terms * 5) 4)

-- ---- 2: the kinds in their order 01, 02, 04, 03
unfoldable pub is_due : Progress → ℕ → Bool
is_due p kind =
    cond (eqb kind 1) (is_none p.header)
    (cond (eqb kind 2) (is_none p.reference)
    (cond (eqb kind 4) (is_some p.reference && ltb p.transitions (declared p).transitions)
    (is_some p.reference && (eqb p.transitions (declared p).transitions && ltb p.rows set_rows))))

-- ---- the place of a frame with so many bytes behind its kind: 1, but that before the header a known kind other than 01 is 2 at any
-- length; then 2
unfoldable pub placed : Progress → ℕ → ℕ → ℕ → Outcome
placed p kind count terms =
    cond (is_known kind)
    (cond (is_some p.header || eqb kind 1)
    (cond (eqb count (due_length (declared p) kind terms))
    (cond (is_due p kind) (Ok tt) (Err Misplaced))
    (Err NoFrame))
    (Err Misplaced))
    (Err NoFrame)

-- ---- 5 and 6 of a row frame: all terms counted are looked at for 5 first
unfoldable pub row_declared : Header → List ℕ → Bool
row_declared h b =
    owner_declared h (byte b 0) (byte b 1)
    && (leb (byte b 2) 1 && every (λ i. entry_declared h (byte b 0) (term_entry b i)) (from 0 (term_count b)))

abbrev pub coefficient_fits : ℤ → Bool
coefficient_fits z = not (is_zero z) && leb (nat_abs z) given_limit

-- each entry number but the last is below the next
unfoldable pub entries_rise : List ℕ → ℕ → Bool
entries_rise b count = every (λ i. ltb (term_entry b i) (term_entry b (suc i))) (from 0 (count - 1))

unfoldable pub terms_fit : List ℕ → Bool
terms_fit b =
    between 1 (term_count b) 15
    && (every (λ i. coefficient_fits (term_coefficient b i)) (from 0 (term_count b)) && entries_rise b (term_count b))

-- ---- what a frame holds, 3 to 6
abbrev pub with_header : Seen → Header → Seen
with_header s h = record { has_header = true; header = h; has_reference = s.has_reference; reference = s.reference; transitions = s.transitions; rows = s.rows }

abbrev pub with_reference : Seen → List ℤ → Seen
with_reference s r = record { has_header = s.has_header; header = s.header; has_reference = true; reference = r; transitions = s.transitions; rows = s.rows }

abbrev pub with_transition : Seen → Transition → Seen
with_transition s t = record { has_header = s.has_header; header = s.header; has_reference = s.has_reference; reference = s.reference; transitions = s.transitions ++ (t ∷ []); rows = s.rows }

abbrev pub with_row : Seen → ModelRow → Seen
with_row s r = record { has_header = s.has_header; header = s.header; has_reference = s.has_reference; reference = s.reference; transitions = s.transitions; rows = s.rows ++ (r ∷ []) }

unfoldable pub header_frame : Seen → List ℕ → Result Seen
header_frame s b = cond (header_fits (header_of b)) (Ok (with_header s (header_of b))) (Err HeaderRange)

unfoldable pub reference_frame : Seen → List ℕ → Result Seen
reference_frame s b = cond (reference_fits (reference_of s.header b)) (Ok (with_reference s (reference_of s.header b))) (Err ReferenceRange)

unfoldable pub transition_frame : Seen → List ℕ → Result Seen
transition_frame s b = cond (transition_declared s.header (transition_of b)) (Ok (with_transition s (transition_of b))) (Err Undeclared)

unfoldable pub row_frame : Seen → List ℕ → Result Seen
row_frame s b = cond (row_declared s.header b) (cond (terms_fit b) (Ok (with_row s (row_of b))) (Err WrongTerms)) (Err Undeclared)

unfoldable pub content : Seen → ℕ → List ℕ → Result Seen
content s kind b =
    cond (eqb kind 1) (header_frame s b)
    (cond (eqb kind 2) (reference_frame s b)
    (cond (eqb kind 4) (transition_frame s b) (row_frame s b)))

-- ---- a line: its place, then what it holds
abbrev pub passed : {A : Type 0} → Outcome → Result A → Result A
passed (Ok _) x = x
passed (Err q) x = Err q

unfoldable pub frame : Seen → List ℕ → Result Seen
frame s [] = Err NoFrame
frame s (kind ∷ b) = passed (placed (progress_of s) kind (length b) (term_count b)) (content s kind b)

unfoldable pub line : Seen → List ℕ → Result Seen
line s cs = and_then (bytes_of cs) (frame s)

unfoldable pub all_lines : Seen → List (List ℕ) → Result Seen
all_lines s [] = Ok s
all_lines s (l ∷ ls) = and_then (line s l) (λ t. all_lines t ls)

-- ---- the tables: what was read, filled up with zeros
abbrev pub zero_transition : Transition
zero_transition = record { source = 0; action = 0; target = 0; resets = 0 }

abbrev pub zero_row : ModelRow
zero_row = record { kind = 0; owner = 0; strict = 0; entries = replicate entry_count (pos 0) }

unfoldable pub tables : Seen → Model
tables s = record {
  header = s.header;
  reference = reference_table s.reference;
  transitions = padded 64 zero_transition s.transitions;
  rows = padded set_rows zero_row s.rows;
  count = length s.rows;
}

-- a last line without LF is 1; a frame missing is 2
abbrev pub is_complete : Seen → Bool
is_complete s = s.has_reference && eqb (length s.transitions) s.header.transitions

abbrev pub at_end : List ℕ → Seen → Result Model
at_end [] s = cond (is_complete s) (Ok (tables s)) (Err Misplaced)
at_end (c ∷ cs) s = Err NoFrame

-- the whole input counts before any line is looked at
abbrev pub input_limit : ℕ
input_limit = 65536

unfoldable pub read : List ℕ → Result Model
read input = cond (leb (length input) input_limit) (and_then (all_lines nothing (lines input).ended) (at_end (lines input).left)) (Err NoFrame)
