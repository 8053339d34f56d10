-- Parts of lists: a part of a part, and a property of every element by parts and by index. Assumes nothing.
use mathlib.Core.Path.{◌≡◌, sym, ap, ◌∙◌}
use mathlib.Core.List.{List, [], ◌∷◌, ◌++◌, append_assoc}
use Prim.Native.Nat.{ℕ, zero, suc, ◌+◌, ◌-◌, ◌≤◌, ◌<◌}
use native.Mathlib.Nat.{zero-add, suc-add, le-add_right, le_of_suc-le-suc, not-suc-le-zero}
use native.Mathlib.Omega.{arith}
use lib.ListN.{length, get_or, take, drop, length-append, length-drop}
use lib.Seq.{take-nil, length-take-le, take-take, drop-drop, drop_at, take-append-le, drop-append-le, take-append_seam}
use Rattle.integers.specs.Lists.{All, nil, cons}

module _ {A : Type 0} where
  pub drop-take : (n m : ℕ) (l : List A) → drop n (take (n + m) l) ≡ take m (drop n l)
  drop-take zero m l = ap (λ (k : ℕ). take k l) (zero-add m)
  drop-take (suc n) m [] = ap (λ (k : List A). drop (suc n) k) (take-nil (suc n + m)) ∙ sym (take-nil m)
  drop-take (suc n) m (x ∷ l) = ap (λ (k : ℕ). drop (suc n) (take k (x ∷ l))) (suc-add n m) ∙ drop-take n m l

  -- the same part of two lists: the same front of it, and the same behind that
  module _ (s t : List A) (a b k m : ℕ) (e : take (k + m) (drop a s) ≡ take (k + m) (drop b t)) where
    pub alike-front : take k (drop a s) ≡ take k (drop b t)
    alike-front =
        let h = le-add_right k m in
        sym (take-take k (k + m) (drop a s) h) ∙ ap (λ (l : List A). take k l) e ∙ take-take k (k + m) (drop b t) h

    pub alike-behind : take m (drop (a + k) s) ≡ take m (drop (b + k) t)
    alike-behind =
        rw (← drop-drop k a s, ← drop-drop k b t, ← drop-take k m (drop a s), ← drop-take k m (drop b t))
        (ap (λ (l : List A). drop k l) e)

  -- a list with y written from b on: what stands before it, at it and after it
  module _ (s : List A) (b : ℕ) (h : b ≤ length s) where
    front_long : length (take b s) ≡ b
    front_long = length-take-le b s h

    pub part-before : (x : List A) (a m : ℕ) → a + m ≤ b → take m (drop a (take b s ++ x)) ≡ take m (drop a s)
    part-before x a m k =
        let c : a + (b - a) ≡ b = omega arith in
        let d : drop a (take b s) ≡ take (b - a) (drop a s) = rw c at (drop-take a (b - a) s) in
        let e : m ≤ length (take (b - a) (drop a s)) = rw (length-take-le (b - a) (drop a s) (rw length-drop (omega arith))) (omega arith) in
        rw (drop-append-le a (take b s) x (rw front_long (omega arith)), d, take-append-le m (take (b - a) (drop a s)) x e)
        (take-take m (b - a) (drop a s) (omega arith))

    pub part-written : (y x : List A) → take (length y) (drop b (take b s ++ y ++ x)) ≡ y
    part-written y x = rw (append_assoc, drop_at (take b s) (y ++ x) b front_long) (take-append_seam y x)

    pub part-after : (y : List A) (a : ℕ) → b + length y ≤ a → drop a (take b s ++ y ++ drop (b + length y) s) ≡ drop a s
    part-after y a k =
        let n = b + length y in
        let d : length (take b s ++ y) ≡ n = length-append (take b s) y ∙ ap (λ (j : ℕ). j + length y) front_long in
        let c : n + (a - n) ≡ a = omega arith in
        let f : drop (n + (a - n)) (take b s ++ y ++ drop n s) ≡ drop (n + (a - n)) s =
        sym (drop-drop (a - n) n (take b s ++ y ++ drop n s)) ∙ ap (λ (l : List A). drop (a - n) l) (drop_at (take b s ++ y) (drop n s) n d) ∙ drop-drop (a - n) n s in
        rw c at f

  module _ {P : A → Type 0} where
    pub all_take : (n : ℕ) (l : List A) → All P l → All P (take n l)
    all_take zero l a = nil
    all_take (suc n) [] a = nil
    all_take (suc n) (x ∷ l) (cons h a) = cons h (all_take n l a)

    pub all_drop : (n : ℕ) (l : List A) → All P l → All P (drop n l)
    all_drop zero l a = a
    all_drop (suc n) [] a = nil
    all_drop (suc n) (x ∷ l) (cons h a) = all_drop n l a

    pub all-at : (l : List A) (d : A) → All P l → (i : ℕ) → i < length l → P (get_or l i d)
    all-at [] d a i h = absurd (not-suc-le-zero h)
    all-at (x ∷ l) d (cons h a) zero k = h
    all-at (x ∷ l) d (cons h a) (suc i) k = all-at l d a i (le_of_suc-le-suc k)
