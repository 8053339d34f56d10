-- Limits of numbers (rules, "Rows and sets" and "The hex exchange").
use Rattle.std.specs.Prelude.{ℕ}

-- of an entry of a row, above and below zero
abbrev pub entry_limit : ℕ
entry_limit = 1000000000

-- of a number that a model gives: a denominator, a numerator, a coefficient
abbrev pub given_limit : ℕ
given_limit = 1000000
