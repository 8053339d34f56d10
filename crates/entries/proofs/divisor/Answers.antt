use Rattle.std.proofs.Common.{◌≡◌, refl, ◌∙◌, ap, ℕ, zero, suc, max, arith}
use Rattle.entries.specs.Entries.{or_one, divisor}
use Rattle.entries.proofs.divisor.Goals as goal

one-max : (g : ℕ) → max g 1 ≡ or_one g
one-max zero = refl
one-max (suc g) = omega arith

pub returns : goal.returns
unfolding divisor
returns c = c.max.ensures ∙ one-max c.gcd_of_all.result ∙ ap or_one c.gcd_of_all.ensures
