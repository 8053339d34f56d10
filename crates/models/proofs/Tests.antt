-- What arrays are made of and compared with, what is declared case by case, and the bits of a byte. Assumes nothing.
use mathlib.Core.Path.{◌≡◌, refl, sym, ap, subst, ◌∙◌}
use mathlib.Core.Bool.{Bool, true, false, ◌&&◌, ◌||◌}
use mathlib.Core.List.{List, [], ◌∷◌}
use Prim.Native.Nat.{ℕ, zero, suc, ◌+◌, ◌^◌, ◌≤◌, ◌<◌, zero-le}
use native.Mathlib.Nat.{pow-le-pow_right, lt_of_lt_of_le}
use borrow.Author.Tests.{lt-ltb, le-leb, lt-leb, ne_eqb}
use lib.Dec.{ltb, lit<}
use native.Mathlib.Decide.{ℕ_discrete}
use native.Mathlib.Omega.{arith}
use native.Mathlib.Numerals.{add-one}
use lib.ListN.{length, get_or, replicate}
use lib.IntN.{ℤ, pos, negsuc}
use lib.Pointwise.{pointwise}
use Rattle.std.proofs.lemmas.Int.{ints}
use Rattle.std.specs.Ordering.{int_eq}
use denote.Param.Members.{Mut, Called}
use Rattle.std.specs.Array.{IsFromFnResult, IsFromFnResultFrom}
use Rattle.std.specs.List.{enumerate_from}
use Rattle.integers.specs.Lists.{every}
use Rattle.integers.specs.Signs.{is_zero}
use Rattle.models.specs.declared.Header.{Header}
use Rattle.models.specs.Acceptance.{between, owner_declared, entry_declared, entries_declared}

-- what `from_fn` makes by a closure that answers h and stays as it is
module _ {F B : Type 0} (g : Mut F (ℕ × Unit {0}) B) (f : F) (h : ℕ → B) (answers : (i : ℕ) (y : B) (q : F) → Called g f (i, tt) y q → (q ≡ f) × (y ≡ h i)) where
  made-from : (ys : List B) (i n : ℕ) → IsFromFnResultFrom g f ys i n → (k : ℕ) (d : B) → i ≤ k → k < i + n → get_or ys k d ≡ h k
  made-from ys i zero m k d a b = absurd (omega arith)
  made-from ys i (suc n) m k d a b = go (ℕ_discrete k i) (λ e. made-from ys (i + 1) n rest k d (omega arith) (omega arith))
    where
      told : (m.0 ≡ f) × (m.1 ≡ h i)
      told = answers i m.1 m.0 m.3

      rest : IsFromFnResultFrom g f ys (i + 1) n
      rest = subst (λ (q : F). IsFromFnResultFrom g q ys (i + 1) n) told.0 m.4

      go : Dec (k ≡ i) → ((k ≡ i → ⊥) → get_or ys k d ≡ h k) → get_or ys k d ≡ h k
      go (yes e) r = rw e (m.2.1 d ∙ told.1)
      go (no e) r = r e

  pub from_fn-at : (ys : List B) (n : ℕ) → IsFromFnResult g f ys n → (k : ℕ) (d : B) → k < n → get_or ys k d ≡ h k
  from_fn-at ys n m k d b = made-from ys 0 n m.each k d zero-le (omega arith)

-- the entries with their numbers
pub every_entry : (h : Header) (kind i : ℕ) (l : List ℤ) → every (λ x. is_zero x.1 || entry_declared h kind x.0) (enumerate_from i l) ≡ entries_declared h kind i l
unfolding entries_declared
every_entry h kind i [] = refl
every_entry h kind i (z ∷ l) = rw add-one (ap (λ (b : Bool). (is_zero z || entry_declared h kind i) && b) (every_entry h kind (suc i) l))

-- there are three kinds of owners
pub no_owner : (h : Header) (kind owner : ℕ) → 2 < kind → false ≡ owner_declared h kind owner
unfolding owner_declared
no_owner h zero owner k = absurd (omega arith)
no_owner h (suc zero) owner k = absurd (omega arith)
no_owner h (suc (suc zero)) owner k = absurd (omega arith)
no_owner h (suc (suc (suc kind))) owner k = refl

-- an entry is the constant or a parameter, else a clock, which the initial constraint has not
module _ (h : Header) (kind i : ℕ) where
  pub named : i ≤ h.parameters → true ≡ entry_declared h kind i
  unfolding entry_declared
  named e = rw (le-leb i h.parameters e)

  pub not-initial : h.parameters < i → kind ≡ 0 → false ≡ entry_declared h kind i
  unfolding entry_declared
  not-initial e k = rw (lt-leb i h.parameters e, k)

  pub a_clock : h.parameters < i → (kind ≡ 0 → ⊥) → between 9 i (8 + h.clocks) ≡ entry_declared h kind i
  unfolding entry_declared
  a_clock e k = rw (lt-leb i h.parameters e, ne_eqb kind 0 k)

-- all entries together against zeros
zero_eq : (z : ℤ) → int_eq z (pos 0) ≡ is_zero z
zero_eq (pos zero) = refl
zero_eq (pos (suc n)) = grind (arith, ints)
zero_eq (negsuc n) = grind (arith, ints)

pub all_zeros : (n : ℕ) (l : List ℤ) → length l ≡ n → pointwise int_eq l (replicate n (pos 0)) ≡ every is_zero l
all_zeros zero [] h = refl
all_zeros zero (z ∷ l) h = absurd (omega arith)
all_zeros (suc n) [] h = absurd (omega arith)
all_zeros (suc n) (z ∷ l) h = rw (zero_eq z, all_zeros n l (omega arith))

-- eight clocks would take every bit of a byte
pub all_bits : (resets clocks : ℕ) → resets < 256 → 8 ≤ clocks → true ≡ ltb resets (2 ^ clocks)
all_bits resets clocks h k = sym (lt-ltb resets (2 ^ clocks) (lt_of_lt_of_le h (pow-le-pow_right (lit< tt) k)))
