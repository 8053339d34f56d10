-- Characters written one part behind the other, and the parts of the counts. Assumes nothing.
use mathlib.Core.Path.{◌≡◌, refl, ap, ◌∙◌}
use mathlib.Core.List.{List, [], ◌∷◌, ◌++◌}
use Prim.Native.Nat.{ℕ, ◌+◌, ◌≤◌}
use native.Mathlib.Omega.{arith}
use lib.ListN.{length, take, set, length-append, length-drop, length-set}
use lib.Seq.{length-take-le}
use Rattle.frames.specs.Hex.{digits_of, big_endian}
use Rattle.frames.specs.Writing.{over, Wrote, count_bytes}
use Rattle.frames.proofs.Overwriting.{over_two, over-one, digits_then}

pub over-length : (cs : List ℕ) (at : ℕ) (to : List ℕ) → at + length cs ≤ length to → length (over cs at to) ≡ length to
over-length cs at to room = rw (length-append (take at to ++ cs), length-append (take at to), length-take-le at to (omega arith), length-drop) (omega arith)

pub wrote_then : (cs ds : List ℕ) (at n m : ℕ) (to to' to'' : List ℕ) → at + length cs ≤ length to → Wrote cs at to to' n → Wrote ds n to' to'' m → Wrote (cs ++ ds) at to to'' m
wrote_then cs ds at n m to to' to'' room a b = record {
  place = b.place ∙ (rw (a.place, length-append cs ds) (plus at (length cs) (length ds)));
  long = b.long ∙ a.long;
  store = b.store ∙ (rw (a.place, a.store) (over_two cs at to room ds));
}
  where
    plus : (a b c : ℕ) → a + b + c ≡ a + (b + c)
    plus a b c = omega arith

pub wrote_one : (at : ℕ) (to : List ℕ) (x : ℕ) → at + 1 ≤ length to → Wrote (x ∷ []) at to (set to at x) (at + 1)
wrote_one at to x h = record { place = refl; long = simp length-set; store = over-one at to x (omega arith) }

-- ---- the counts of the frame 05
pub count_digits : (a b c : ℕ) → digits_of (count_bytes a b c) ≡ (digits_of (big_endian 2 a) ++ digits_of (big_endian 2 b)) ++ digits_of (big_endian 4 c)
count_digits a b c = digits_then (big_endian 2 a ++ big_endian 2 b) (big_endian 4 c) ∙ ap (λ (t : List ℕ). t ++ digits_of (big_endian 4 c)) (digits_then (big_endian 2 a) (big_endian 2 b))

pub counts-length : (a b c : ℕ) → length (digits_of (count_bytes a b c)) ≡ 16
unfolding digits_of big_endian
counts-length a b c = refl
