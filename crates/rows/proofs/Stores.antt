-- A row in a store: the part that is read, numbers and the flag as the machine reads them, what is written, and what is read back. Assumes nothing.
use mathlib.Core.Path.{◌≡◌, refl, sym, ap, ◌∙◌}
use mathlib.Core.Bool.{Bool, true, false}
use mathlib.Core.List.{List, [], ◌∷◌, ◌++◌, append_assoc}
use Prim.Native.Nat.{ℕ, suc, ◌+◌, ◌-◌, ◌^◌, ◌≤◌, ◌<◌}
use native.Mathlib.Omega.{arith}
use native.Mathlib.Numerals.{add-one}
use borrow.Author.Tests.{ne_eqb}
use lib.Dec.{eqb}
use lib.ListN.{length, get_or, set, take, drop, length-drop, length-append, get_or-append}
use lib.Seq.{length-take-le, get_or-take, get_or-drop, get_or_at, ext_get_or, take_at, take_all, paste, paste-suc}
use lib.IntN.{ℤ, pos, negsuc}
use lib.Signed.{mag}
use mir.Syntax.{w32}
use mir.Val.{of_z}
use Rattle.rows.specs.Rows.{entry_count, is_one, flag, numbers, row_at}
use Rattle.rows.specs.declared.Row.{Row}
use Rattle.rows.proofs.Dividing.{Wide}

-- a part of a store, number by number
module _ (n at : ℕ) (s : List ℤ) where
  pub get_d_part : (i : ℕ) → i < n → get_or (take n (drop at s)) i (pos 0) ≡ get_or s (at + i) (pos 0)
  get_d_part i h = get_or-take n (drop at s) i (pos 0) h ∙ get_or-drop at s i (pos 0)

  pub length_part : at + n ≤ length s → length (take n (drop at s)) ≡ n
  length_part h = length-take-le n (drop at s) (rw length-drop (omega arith))

  pub part-is : (l : List ℤ) → length l ≡ n → at + n ≤ length s → ((i : ℕ) → i < n → get_or l i (pos 0) ≡ get_or s (at + i) (pos 0)) → l ≡ take n (drop at s)
  part-is l e h f = ext_get_or (pos 0) l (take n (drop at s)) (e ∙ sym (length_part h)) (λ i k. let m : i < n = rw e at k in f i m ∙ sym (get_d_part i m))

pub flag-read : (z : ℤ) → mag z < 2 ^ 31 → eqb (of_z w32 z) 1 ≡ is_one z
flag-read (pos n) h = refl
flag-read (negsuc n) h = ne_eqb (2 ^ 32 - suc n) 1 (off n h)
  where
    off : (n : ℕ) → n < 2 ^ 31 → 2 ^ 32 - suc n ≡ 1 → ⊥
    off n h e = omega arith

-- a store of one more of the row's numbers
module _ (d s : List ℤ) (at : ℕ) (r : Row) (long : length r.entries ≡ 16) (room : at + 17 ≤ length d) where
  numbers-length : length (numbers r) ≡ 17
  numbers-length = rw (length-append, long)

  pub number_more : (i : ℕ) (v : ℤ) → i < 16 → s ≡ paste d at (numbers r) i → v ≡ get_or r.entries i (pos 0) → set s (at + i) v ≡ paste d at (numbers r) (i + 1)
  number_more i v h e f =
      rw (e, f, ← get_or-append r.entries (flag r.strict ∷ []) (pos 0) i (rw long h), add-one)
      (paste-suc d at (numbers r) i (pos 0) (omega arith) (rw numbers-length (omega arith)))

  pub number_last : (v : ℤ) → s ≡ paste d at (numbers r) 16 → v ≡ flag r.strict → set s (at + 16) v ≡ take at d ++ numbers r ++ drop (at + 17) d
  number_last v e f =
      rw (e, f)
      (ap (set (paste d at (numbers r) 16) (at + 16)) (sym (get_or_at r.entries (flag r.strict) [] (pos 0) 16 long)) ∙
      paste-suc d at (numbers r) 16 (pos 0) (omega arith) (rw numbers-length (omega arith)) ∙
      ap (λ (l : List ℤ). take at d ++ l ++ drop (at + 17) d) (take_all 17 (numbers r) (omega (arith, numbers-length))))

-- a row that was written is read back
flag_back : (b : Bool) → is_one (flag b) ≡ b
flag_back false = refl
flag_back true = refl

pub row_back : (r : Row) (t : List ℤ) → Wide r → row_at (numbers r ++ t) 0 ≡ r
row_back r t h =
    let a = append_assoc r.entries (flag r.strict ∷ []) t in
    let e : take entry_count (numbers r ++ t) ≡ r.entries = ap (λ (l : List ℤ). take entry_count l) a ∙ take_at r.entries (flag r.strict ∷ t) entry_count h in
    let f : get_or (numbers r ++ t) entry_count (pos 0) ≡ flag r.strict = ap (λ (l : List ℤ). get_or l entry_count (pos 0)) a ∙ get_or_at r.entries (flag r.strict) t (pos 0) entry_count h in
    let g : is_one (get_or (numbers r ++ t) entry_count (pos 0)) ≡ r.strict = ap is_one f ∙ flag_back r.strict in
    λ i. record { entries = e i; strict = g i }
