-- The numbers of the outcomes (rules, "Numbers of the outcomes"), and steps that may be refused.
use Rattle.std.specs.Prelude.{ℕ, ⊤}
use Rattle.std.specs.declared.result.Result as result
pub use Rattle.std.specs.declared.result.Result.TheVariants.{Ok, Err}
use Rattle.sets.specs.declared.Refusal.{Refusal}
use Rattle.sets.specs.declared.Refusal.TheVariants.{NoFrame, Misplaced, HeaderRange, ReferenceRange, Undeclared, WrongTerms, InitialBroken, InvariantBroken, EntryTooLarge, TooManyRows, NoRoom, BudgetUsed, ShortStore}

abbrev pub refusal_number : Refusal → ℕ
refusal_number NoFrame = 1  -- input too long, or a line that is no frame
refusal_number Misplaced = 2  -- a frame missing, repeated or out of order; a 129th row
refusal_number HeaderRange = 3  -- a header number outside its range
refusal_number ReferenceRange = 4  -- a reference number outside its range
refusal_number Undeclared = 5  -- a location, owner, entry, reset bit or flag not declared; an initial row naming a clock
refusal_number WrongTerms = 6  -- term count, coefficient or order of entries wrong
refusal_number InitialBroken = 7  -- the reference breaks the initial constraint
refusal_number InvariantBroken = 8  -- the reference breaks the invariant of location 0 with all clocks 0
refusal_number EntryTooLarge = 9  -- an entry too large
refusal_number TooManyRows = 10  -- a set, K or the region would exceed 128 rows
refusal_number NoRoom = 11  -- row store or roll cannot take the next kept state
refusal_number BudgetUsed = 12  -- a successor is due and the budget is used
refusal_number ShortStore = 13  -- a work store or the result store is below 2,176 numbers

-- found, or the refusal
abbrev pub Outcome : Type 0
Outcome = result.Result ⊤ Refusal

abbrev pub outcome_number : Outcome → ℕ
outcome_number (Ok _) = 0
outcome_number (Err r) = refusal_number r

-- ---- a step finds something or is refused; a refusal ends what follows
abbrev pub Result : Type 0 → Type 0
Result A = result.Result A Refusal

unfoldable pub and_then : {A B : Type 0} → Result A → (A → Result B) → Result B
and_then (Ok a) f = f a
and_then (Err r) f = Err r
