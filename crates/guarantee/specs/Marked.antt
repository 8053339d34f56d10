-- The marked examples M1 to M10 and the further ones (rules, "Marked examples"), as one claim about the definitions.
use Rattle.std.specs.Prelude.{◌≡◌, true, false, List, [], ◌∷◌, ◌++◌, ℕ, ◌*◌, replicate, ℤ, pos, neg_ℤ}
use Rattle.rows.specs.declared.Row.{Row}
use Rattle.rows.specs.Rows.{entry_count, row_numbers, set_numbers, with_entry, false_row, negated, kept, gone, too_large, divided_down}
use Rattle.sets.specs.declared.Refusal.TheVariants.{Misplaced, EntryTooLarge, BudgetUsed}
use Rattle.sets.specs.Outcomes.{Ok, Err}
use Rattle.removal.specs.Removal.{removed}
use Rattle.models.specs.declared.Transition.{Transition}
use Rattle.models.specs.declared.ModelRow.{ModelRow}
use Rattle.models.specs.declared.Model.{Model}
use Rattle.method.specs.Method.{Ending}
use Rattle.frames.specs.Hex.{line_of}
use Rattle.frames.specs.Writing.{answer_lines}
use Rattle.method.specs.Entry.{Stores, empty_record, run, run_hex}

-- ---- rows of a few terms: entries 0 the constant, 1 to 3 the parameters p1 to p3, 9 and 10 the clocks x1 and x2
abbrev pub none : List ℤ
none = replicate entry_count (pos 0)

abbrev pub add : ℕ → ℕ → List ℤ → List ℤ
add n v l = with_entry v (pos n) l

abbrev pub sub : ℕ → ℕ → List ℤ → List ℤ
sub n v l = with_entry v (neg_ℤ (pos n)) l

abbrev pub loose : List ℤ → Row
loose l = record { entries = l; strict = false }

abbrev pub strictly : List ℤ → Row
strictly l = record { entries = l; strict = true }

-- ---- models
abbrev pub from_to : ℕ → ℕ → ℕ → ℕ → Transition
from_to source action target resets = record { source = source; action = action; target = target; resets = resets }

abbrev pub loose_of : ℕ → ℕ → List ℤ → ModelRow
loose_of kind owner l = record { kind = kind; owner = owner; strict = 0; entries = l }

-- M9: x1 ≤ p1 in location 0; p2 ≤ x2 on action 10 to location 1, which resets x1; p3 ≤ x1 on action 11 to location 2
abbrev pub toy : ℕ → List ℤ → ℕ → Model
toy denominator numerators transitions = record {
  header = record { clocks = 2; parameters = 3; locations = 3; transitions = transitions };
  reference = record { denominator = pos denominator; numerators = numerators };
  transitions = from_to 0 10 1 1 ∷ from_to 0 11 2 0 ∷ [];
  rows =
      loose_of 1 0 (sub 1 1 (add 1 9 none)) ∷
      loose_of 2 0 (add 1 2 (sub 1 10 none)) ∷
      loose_of 2 1 (add 1 3 (sub 1 9 none)) ∷ [];
  count = 3;
}

-- M9 without its transitions, and so without their guards
abbrev pub still : Model
still = record {
  header = record { clocks = 2; parameters = 3; locations = 3; transitions = 0 };
  reference = record { denominator = pos 1; numerators = pos 4 ∷ pos 2 ∷ pos 6 ∷ [] };
  transitions = [];
  rows = loose_of 1 0 (sub 1 1 (add 1 9 none)) ∷ [];
  count = 1;
}

-- M10: a guard that contradicts itself
abbrev pub contradiction : Model
contradiction = record {
  header = record { clocks = 1; parameters = 2; locations = 2; transitions = 1 };
  reference = record { denominator = pos 1; numerators = pos 0 ∷ pos 0 ∷ [] };
  transitions = from_to 0 0 1 0 ∷ [];
  rows =
      loose_of 2 0 (add 1 0 (add 1 2 (sub 1 1 none))) ∷
      loose_of 2 0 (add 1 0 (add 1 1 (sub 1 2 none))) ∷ [];
  count = 2;
}

-- p2 ≤ p1 < p3, all ≥ 0
abbrev pub toy_region : List Row
toy_region =
    loose (sub 1 1 none) ∷
    loose (sub 1 1 (add 1 2 none)) ∷
    loose (sub 1 2 none) ∷
    loose (sub 1 3 none) ∷
    strictly (add 1 1 (sub 1 3 none)) ∷ []

abbrev pub found_with : ℕ → ℕ → ℕ → List Row → Ending
found_with states attempts formed region = record { outcome = Ok tt; states = states; attempts = attempts; formed = formed; region = region }

-- what the program lends: work stores and result store of one set, 900 rows and 256 records
abbrev pub lent : Stores
lent = record {
  first = replicate set_numbers (pos 0);
  second = replicate set_numbers (pos 0);
  rows = replicate (900 * row_numbers) (pos 0);
  result = replicate set_numbers (pos 0);
  roll = replicate 256 empty_record;
}

abbrev pub answer : ℕ → Model → Ending
answer budget m = (run budget m lent).ending

-- M9 as the program reads it, and its whole output: one line a frame, its bytes in hexadecimal
abbrev pub toy_input : List ℕ
toy_input =
    line_of (0x01 ∷ 0x02 ∷ 0x03 ∷ 0x03 ∷ 0x02 ∷ [])
    ++ line_of (0x02 ∷ 0x00 ∷ 0x00 ∷ 0x00 ∷ 0x01 ∷ 0x00 ∷ 0x00 ∷ 0x00 ∷ 0x04 ∷ 0x00 ∷ 0x00 ∷ 0x00 ∷ 0x02 ∷ 0x00 ∷ 0x00 ∷ 0x00 ∷ 0x06 ∷ [])
    ++ line_of (0x04 ∷ 0x00 ∷ 0x0A ∷ 0x01 ∷ 0x01 ∷ [])
    ++ line_of (0x04 ∷ 0x00 ∷ 0x0B ∷ 0x02 ∷ 0x00 ∷ [])
    ++ line_of (0x03 ∷ 0x01 ∷ 0x00 ∷ 0x00 ∷ 0x02 ∷ 0x01 ∷ 0xFF ∷ 0xFF ∷ 0xFF ∷ 0xFF ∷ 0x09 ∷ 0x00 ∷ 0x00 ∷ 0x00 ∷ 0x01 ∷ [])
    ++ line_of (0x03 ∷ 0x02 ∷ 0x00 ∷ 0x00 ∷ 0x02 ∷ 0x02 ∷ 0x00 ∷ 0x00 ∷ 0x00 ∷ 0x01 ∷ 0x0A ∷ 0xFF ∷ 0xFF ∷ 0xFF ∷ 0xFF ∷ [])
    ++ line_of (0x03 ∷ 0x02 ∷ 0x01 ∷ 0x00 ∷ 0x02 ∷ 0x03 ∷ 0x00 ∷ 0x00 ∷ 0x00 ∷ 0x01 ∷ 0x09 ∷ 0xFF ∷ 0xFF ∷ 0xFF ∷ 0xFF ∷ [])

abbrev pub toy_output : List ℕ
toy_output =
    line_of (0x05 ∷ 0x00 ∷ 0x00 ∷ 0x02 ∷ 0x00 ∷ 0x01 ∷ 0x00 ∷ 0x00 ∷ 0x00 ∷ 0x04 ∷ 0x05 ∷ [])
    ++ line_of (0x03 ∷ 0x00 ∷ 0x00 ∷ 0x00 ∷ 0x01 ∷ 0x01 ∷ 0xFF ∷ 0xFF ∷ 0xFF ∷ 0xFF ∷ [])
    ++ line_of (0x03 ∷ 0x00 ∷ 0x00 ∷ 0x00 ∷ 0x02 ∷ 0x01 ∷ 0xFF ∷ 0xFF ∷ 0xFF ∷ 0xFF ∷ 0x02 ∷ 0x00 ∷ 0x00 ∷ 0x00 ∷ 0x01 ∷ [])
    ++ line_of (0x03 ∷ 0x00 ∷ 0x00 ∷ 0x00 ∷ 0x01 ∷ 0x02 ∷ 0xFF ∷ 0xFF ∷ 0xFF ∷ 0xFF ∷ [])
    ++ line_of (0x03 ∷ 0x00 ∷ 0x00 ∷ 0x00 ∷ 0x01 ∷ 0x03 ∷ 0xFF ∷ 0xFF ∷ 0xFF ∷ 0xFF ∷ [])
    ++ line_of (0x03 ∷ 0x00 ∷ 0x00 ∷ 0x01 ∷ 0x02 ∷ 0x01 ∷ 0x00 ∷ 0x00 ∷ 0x00 ∷ 0x01 ∷ 0x03 ∷ 0xFF ∷ 0xFF ∷ 0xFF ∷ 0xFF ∷ [])

abbrev pub written : Ending → List ℕ
written e = answer_lines e.outcome e.states e.attempts e.formed e.region

-- what the program prints for an input
abbrev pub printed : List ℕ → List ℕ
printed input = written (run_hex 100000 input lent).ending

-- ---- the claim
pub record Marked : Type 0 where
  -- M1, M6, M7: x1 removed
  pub m1 : removed 9 (loose (add 1 9 (sub 1 1 none)) ∷ strictly (add 1 2 (sub 1 9 none)) ∷ []) ≡ Ok (strictly (add 1 2 (sub 1 1 none)) ∷ [])
  pub m6 : removed 9 (loose (add 2 9 (sub 1 1 none)) ∷ loose (add 1 2 (sub 3 9 none)) ∷ []) ≡ Ok (loose (add 2 2 (sub 3 1 none)) ∷ [])
  pub m7 : removed 9 (loose (add 999999 9 (sub 999983 1 none)) ∷ loose (add 999979 2 (sub 1000000 9 none)) ∷ []) ≡ Err EntryTooLarge
  -- M2, M3, M4, M8: divided down
  pub m2 : divided_down (loose (add 4 1 (sub 6 2 none))) ≡ kept (loose (add 2 1 (sub 3 2 none)))
  pub m3 : divided_down (strictly none) ≡ kept false_row
  pub m4 : divided_down (loose (sub 3 0 none)) ≡ gone
  pub m8_taken : divided_down (loose (add 1 1 (sub 1000000000 0 none))) ≡ kept (loose (add 1 1 (sub 1000000000 0 none)))
  pub m8_large : divided_down (loose (add 1 1 (sub 1000000001 0 none))) ≡ too_large
  -- M5: negated
  pub m5 : negated (loose (add 1 3 (sub 1 1 none))) ≡ strictly (add 1 1 (sub 1 3 none))
  -- M9, M10: the whole answer
  pub m9 : answer 100000 (toy 1 (pos 4 ∷ pos 2 ∷ pos 6 ∷ []) 2) ≡ found_with 2 1 4 toy_region
  pub m10 : answer 100000 contradiction ≡ found_with 1 1 2 (strictly (sub 1 0 (add 1 1 (sub 1 2 none))) ∷ loose (sub 1 1 none) ∷ loose (sub 1 2 none) ∷ [])
  pub m9_hex : printed toy_input ≡ toy_output
  -- empty input; no transitions with budget 0; M9 with budgets 3 and 4; the reference 8, 4, 12 over 2
  pub empty_input : (run_hex 100000 [] lent).ending.outcome ≡ Err Misplaced
  pub budget_0 : answer 0 still ≡ found_with 1 0 0 (loose (sub 1 1 none) ∷ loose (sub 1 2 none) ∷ loose (sub 1 3 none) ∷ [])
  pub budget_3 : answer 3 (toy 1 (pos 4 ∷ pos 2 ∷ pos 6 ∷ []) 2) ≡ record { outcome = Err BudgetUsed; states = 2; attempts = 1; formed = 3; region = [] }
  pub budget_4 : answer 4 (toy 1 (pos 4 ∷ pos 2 ∷ pos 6 ∷ []) 2) ≡ found_with 2 1 4 toy_region
  pub over_2 : answer 100000 (toy 2 (pos 8 ∷ pos 4 ∷ pos 12 ∷ []) 2) ≡ found_with 2 1 4 toy_region
