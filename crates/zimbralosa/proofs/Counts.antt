-- The numbers that the exported functions put down at the front of a store that takes them, and nothing in a shorter one. Assumes nothing.
use mathlib.Core.Path.{◌≡◌, refl}
use mathlib.Core.List.{List, [], ◌∷◌}
use Prim.Native.Nat.{ℕ, ◌≤◌, ◌<◌}
use native.Mathlib.Omega.{arith}
use borrow.Author.Tests.{le-leb, lt-leb}
use lib.ListN.{length, set}
use Rattle.sets.specs.Outcomes.{Result}
use Rattle.removal.specs.declared.Placed.{Placed}
use Rattle.removal.specs.Alone.{side, rows_placed}
use Rattle.attempts.specs.declared.Answer.{Answer}
use Rattle.zimbralosa.specs.Exports.{counts_after, bit, placed_after}

pub counts-put : (a : Answer) (c : List ℕ) → 4 ≤ length c → set (set (set (set c 0 a.states) 1 a.attempts) 2 a.formed) 3 a.rows ≡ counts_after a c
unfolding counts_after
counts-put a [] h = absurd (omega (arith, h))
counts-put a (x ∷ []) h = absurd (omega (arith, h))
counts-put a (x ∷ y ∷ []) h = absurd (omega (arith, h))
counts-put a (x ∷ y ∷ z ∷ []) h = absurd (omega (arith, h))
counts-put a (x ∷ y ∷ z ∷ w ∷ c) h = rw (le-leb _ _ h) refl

pub counts-kept : (a : Answer) (c : List ℕ) → length c < 4 → c ≡ counts_after a c
unfolding counts_after
counts-kept a c h = rw (lt-leb _ _ h) refl

pub placed-put : (p : Result Placed) (c : List ℕ) (n : ℕ) → n ≡ bit (side p) → 2 ≤ length c → set (set c 0 n) 1 (rows_placed p) ≡ placed_after p c
unfolding placed_after
placed-put p [] n e h = absurd (omega (arith, h))
placed-put p (x ∷ []) n e h = absurd (omega (arith, h))
placed-put p (x ∷ y ∷ c) n e h = rw (le-leb _ _ h, e) refl

pub placed-kept : (p : Result Placed) (c : List ℕ) → length c < 2 → c ≡ placed_after p c
unfolding placed_after
placed-kept p c h = rw (lt-leb _ _ h) refl
