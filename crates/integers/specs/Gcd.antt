-- The greatest common divisor of two numbers (rules, "Rows and sets": rows are divided down by it).
use Rattle.std.specs.Prelude.{ℕ, zero, suc, ◌%◌}
use Rattle.std.specs.Int.{◌∣◌}

-- Euclid's steps, at most k of them, so that it computes
abbrev pub euclid : ℕ → ℕ → ℕ → ℕ
euclid zero a b = a
euclid (suc k) a zero = a
euclid (suc k) a (suc b) = euclid k (suc b) (a % suc b)

-- b steps are enough, since the second number falls at each
unfoldable pub gcd : ℕ → ℕ → ℕ
gcd a b = euclid (suc b) a b

-- what a greatest common divisor is: it divides both, and whatever divides both divides it.
-- `gcd a b` is one (proofs/Euclid, gcd-is) and there is no other (only).
pub record Greatest (a b g : ℕ) : Type 0 where
  pub left : g ∣ a
  pub right : g ∣ b
  pub most : (d : ℕ) → d ∣ a → d ∣ b → d ∣ g
