-- What accepting a model's tables means (rules, "The hex exchange" and "Numbers of the outcomes"): the refusals 2 to 8, the first that
-- applies, as if the tables were written in frames in the order of kinds and the rows in table order.
use Rattle.std.specs.Prelude.{Bool, true, false, cond, ◌&&◌, ◌||◌, not, List, [], ◌∷◌, ℕ, zero, suc, ◌+◌, ◌^◌, leb, ltb, eqb, ℤ, pos, nat_abs}
use Rattle.std.specs.Int.Signed.{le_z}
use Rattle.integers.specs.Limits.{given_limit}
use Rattle.integers.specs.Lists.{every}
use Rattle.integers.specs.Signs.{is_zero}
use Rattle.rows.specs.declared.Row.{Row}
use Rattle.rows.specs.Rows.{set_rows, holds_at}
use Rattle.sets.specs.declared.Refusal.{Refusal}
use Rattle.sets.specs.declared.Refusal.TheVariants.{Misplaced, HeaderRange, ReferenceRange, Undeclared, WrongTerms, InitialBroken, InvariantBroken}
use Rattle.sets.specs.Outcomes.{Outcome, Result, Ok, Err}
use Rattle.models.specs.declared.Header.{Header}
use Rattle.models.specs.declared.Kind.{Kind}
use Rattle.models.specs.declared.Kind.TheVariants.{Initial, Invariant, Guard}
use Rattle.models.specs.declared.Model.{Model}
use Rattle.models.specs.declared.ModelRow.{ModelRow}
use Rattle.models.specs.declared.Transition.{Transition}
use Rattle.models.specs.Automaton.{given_rows, given_transitions, given_reference, rows_of}

-- refused unless the test passes; else what comes after
abbrev pub unless : Bool → Refusal → Outcome → Outcome
unless ok r after = cond ok after (Err r)

abbrev pub between : ℕ → ℕ → ℕ → Bool
between low n high = leb low n && leb n high

-- ---- 3: 1 to 6 clocks, 1 to 8 parameters, 1 to 32 locations, 0 to 64 transitions
unfoldable pub header_fits : Header → Bool
header_fits h = between 1 h.clocks 6 && (between 1 h.parameters 8 && (between 1 h.locations 32 && between 0 h.transitions 64))

-- ---- 4: denominator 1 to 1,000,000, declared numerators 0 to 1,000,000
abbrev pub between_whole : ℕ → ℤ → ℕ → Bool
between_whole low z high = le_z (pos low) z && le_z z (pos high)

unfoldable pub reference_fits : List ℤ → Bool
reference_fits [] = false
reference_fits (d ∷ ns) = between_whole 1 d given_limit && every (λ n. between_whole 0 n given_limit) ns

-- ---- 5 of a transition: its locations and the clocks that it resets are declared
unfoldable pub transition_declared : Header → Transition → Bool
transition_declared h t = ltb t.source h.locations && (ltb t.target h.locations && ltb t.resets (2 ^ h.clocks))

-- ---- 5 of a row: its owner, its flag and the entries that it names are declared; the initial constraint names no clock
-- the kind of owner that a number says, if it says one
abbrev pub kind_of : ℕ → Result Kind
kind_of zero = Ok Initial
kind_of (suc zero) = Ok Invariant
kind_of (suc (suc zero)) = Ok Guard
kind_of (suc (suc (suc number))) = Err Undeclared

unfoldable pub owner_declared : Header → ℕ → ℕ → Bool
owner_declared h zero owner = eqb owner 0
owner_declared h (suc zero) owner = ltb owner h.locations
owner_declared h (suc (suc zero)) owner = ltb owner h.transitions
owner_declared h (suc (suc (suc kind))) owner = false

-- the constant and the declared parameters; but for the initial constraint the declared clocks too
unfoldable pub entry_declared : Header → ℕ → ℕ → Bool
entry_declared h kind i = leb i h.parameters || (not (eqb kind 0) && between 9 i (8 + h.clocks))

-- the entries from i on: each is 0 or declared
unfoldable pub entries_declared : Header → ℕ → ℕ → List ℤ → Bool
entries_declared h kind i [] = true
entries_declared h kind i (z ∷ l) = (is_zero z || entry_declared h kind i) && entries_declared h kind (suc i) l

unfoldable pub row_declared : Header → ModelRow → Bool
row_declared h r = owner_declared h r.kind r.owner && (leb r.strict 1 && entries_declared h r.kind 0 r.entries)

-- ---- 6 of a row: its terms are its nonzero entries, at least one, each within ±1,000,000
unfoldable pub terms_fit : List ℤ → Bool
terms_fit l = not (every is_zero l) && every (λ z. leb (nat_abs z) given_limit) l

-- ---- the rows in table order, then what comes after
unfoldable pub rows_accepted : Header → List ModelRow → Outcome → Outcome
rows_accepted h [] after = after
rows_accepted h (r ∷ rs) after =
    let rest = rows_accepted h rs after in
    unless (row_declared h r) Undeclared (unless (terms_fit r.entries) WrongTerms rest)

-- ---- 7 and 8: the reference, with every clock at 0, meets the rows
unfoldable pub reference_meets : Model → List Row → Bool
reference_meets m rows = every (holds_at (given_reference m)) rows

unfoldable pub reference_accepted : Model → Outcome
reference_accepted m =
    unless (reference_meets m (rows_of m 0 0)) InitialBroken
    (unless (reference_meets m (rows_of m 1 0)) InvariantBroken (Ok tt))

-- ---- all of it; a 129th row is met after the rows before it
unfoldable pub accepted : Model → Outcome
accepted m =
    unless (header_fits m.header) HeaderRange
    (unless (reference_fits (given_reference m)) ReferenceRange
    (unless (every (transition_declared m.header) (given_transitions m)) Undeclared
    (rows_accepted m.header (given_rows m)
    (unless (leb m.count set_rows) Misplaced
    (reference_accepted m)))))
