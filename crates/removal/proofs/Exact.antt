-- Removing a variable is exact: the rows that remain hold at a point exactly where some value of the variable makes the old rows hold.
-- Assumes nothing.
use mathlib.Core.Path.{◌≡◌}
use mathlib.Core.Logic.{◌↔◌, ◌≢◌}
use mathlib.Core.List.{List, [], ◌∷◌}
use Prim.Native.Nat.{ℕ, zero, suc, ◌<◌}
use lib.Dec.{T}
use lib.IntN.{ℤ, pos, negsuc, neg_ℤ, ◌+ℤ◌, ◌-ℤ◌, ◌*ℤ◌}
use lib.Signed.{◌<ℤ◌}
use lib.ListN.{length}
use Rattle.integers.specs.Lists.{All, nil, cons}
use Rattle.integers.specs.Signs.{isAbove, isBelow}
use Rattle.integers.proofs.Tests.{true_of, zero_of, one_of_three}
use Rattle.integers.proofs.Lists.{all_map, all-zip, all_of, all_append, all_filter, all_pairs}
use Rattle.integers.proofs.Whole.{ring, IsPos, is_pos, of-pos}
use Rattle.rows.specs.declared.Row.{Row}
use Rattle.rows.specs.Rows.{paired}
use Rattle.rows.proofs.Meaning.{rest}
use Rattle.rows.proofs.Pairing.{paired_blind, paired-rest, paired-holds}
use Rattle.removal.specs.Removal.{entry, untouched, uppers, lowers, remaining}
use Rattle.removal.specs.Exact.{Point, Meets, Values}
use Rattle.removal.proofs.Points.{same-sym, blind_holds, move, dot-move, move-point, move_same}
use Rattle.removal.proofs.Choose.{choose}

-- ---- a list is its three parts, by the sign of the entry
pub above_of : (z : ℤ) → T (isAbove z) → IsPos z
above_of (pos zero) t = absurd t
above_of (pos (suc n)) t = is_pos n
above_of (negsuc n) t = absurd t

below_of : (z : ℤ) → T (isBelow z) → IsPos (neg_ℤ z)
below_of (pos n) t = absurd t
below_of (negsuc n) t = is_pos n

pub untouched-zero : (v : ℕ) (rows : List Row) → All (λ r. entry v r ≡ pos 0) (untouched v rows)
unfolding untouched
untouched-zero v rows = (all_filter _ rows).1 (all_of rows (λ r t. zero_of (entry v r) (true_of t)))

pub uppers-above : (v : ℕ) (rows : List Row) → All (λ r. IsPos (entry v r)) (uppers v rows)
unfolding uppers
uppers-above v rows = (all_filter _ rows).1 (all_of rows (λ r. above_of (entry v r)))

pub lowers-below : (v : ℕ) (rows : List Row) → All (λ r. IsPos (neg_ℤ (entry v r))) (lowers v rows)
unfolding lowers
lowers-below v rows = (all_filter _ rows).1 (all_of rows (λ r. below_of (entry v r)))

pub record Parts (P : Row → Type 0) (v : ℕ) (rows : List Row) : Type 0 where
  pub zeros : All P (untouched v rows)
  pub ups : All P (uppers v rows)
  pub downs : All P (lowers v rows)

pub apart : {P : Row → Type 0} (v : ℕ) (rows : List Row) → All P rows → Parts P v rows
unfolding untouched uppers lowers
apart v rows a = record {
  zeros = (all_filter _ rows).1 (all_map (λ r h t. h) a);
  ups = (all_filter _ rows).1 (all_map (λ r h t. h) a);
  downs = (all_filter _ rows).1 (all_map (λ r h t. h) a);
}

together : {P : Row → Type 0} (v : ℕ) (rows : List Row) → Parts P v rows → All P rows
unfolding untouched uppers lowers
together v rows p = all_map (λ r h. one_of_three (entry v r) h.0 h.1.0 h.1.1)
    (all-zip ((all_filter _ rows).0 p.zeros) (all-zip ((all_filter _ rows).0 p.ups) ((all_filter _ rows).0 p.downs)))

-- ---- what remains follows from the rows
sound : (rows : List Row) (w v : ℕ) (p : List ℤ) → Point w p → Values rows w (v ∷ []) p → Meets p (remaining v rows)
unfolding remaining
sound rows w v p hp x =
    let q = x.point in
    let a = apart v rows x.holds in
    let back = blind_holds (v ∷ []) p q hp.positive x.is_point.positive x.same_but in
    (all_append (untouched v rows) _).1 (
      all_map (λ r h. back r (cons h.0 nil) h.1) (all-zip (untouched-zero v rows) a.zeros),
      (all_pairs (paired v) (uppers v rows) (lowers v rows)).1
          (all_map (λ u hu. all_map (λ l hl. back (paired v u l) (cons (paired_blind v u l) nil) (paired-holds v u l q hu.0 hl.0 hu.1 hl.1))
          (all-zip (lowers-below v rows) a.downs)) (all-zip (uppers-above v rows) a.ups)),
    )

-- ---- the value written out: the number num / den at v
pub record Moved (rows : List Row) (v : ℕ) (p : List ℤ) : Type 0 where
  pub num : ℤ
  pub den : ℤ
  pub den_pos : pos 0 <ℤ den
  pub holds : Meets (move v den num p) rows

moved_values : (rows : List Row) (w v : ℕ) (p : List ℤ) → Point w p → v ≢ 0 → Moved rows v p → Values rows w (v ∷ []) p
moved_values rows w v p hp nz m = record {
  point = move v m.den m.num p;
  is_point = move-point w v m.den m.num p hp nz m.den_pos;
  same_but = move_same v m.den m.num p nz;
  holds = m.holds;
}

-- a lower bound in the sign that `choose` takes
lower_eq : (k c e x : ℤ) → k *ℤ c -ℤ neg_ℤ e *ℤ x ≡ k *ℤ c +ℤ e *ℤ x
lower_eq k c e x = simp ring

complete : (rows : List Row) (w v : ℕ) (p : List ℤ) → Point w p → v ≢ 0 → v < w → Meets p (remaining v rows) → Moved rows v p
unfolding remaining
complete rows w v p hp nz lt h =
    let both = (all_append (untouched v rows) _).0 h in
    let met = (all_pairs (paired v) (uppers v rows) (lowers v rows)).0 both.1 in
    let t = choose (λ r. r.strict) (λ r. rest v r.entries p) (λ r. entry v r) (λ r. neg_ℤ (entry v r)) (uppers v rows) (lowers v rows)
    (uppers-above v rows) (lowers-below v rows)
    (all_map (λ u hu. all_map (λ l hl. rw paired-rest at hl) hu) met) in
    let q = move v t.den t.num p in
    let fits : v < length p = rw hp.size lt in
    let hq : Point w q = move-point w v t.den t.num p hp nz (of-pos t.den_pos) in
    let forth = blind_holds (v ∷ []) q p hq.positive hp.positive (same-sym (move_same v t.den t.num p nz)) in
    record {
      num = t.num;
      den = t.den;
      den_pos = of-pos t.den_pos;
      holds = together v rows (record {
        zeros = all_map (λ r k. forth r (cons k.0 nil) k.1) (all-zip (untouched-zero v rows) both.0);
        ups = all_map (λ r k. rw (dot-move v t.den t.num r.entries p fits) k) t.below_us;
        downs = all_map (λ r k. rw (dot-move v t.den t.num r.entries p fits) (rw lower_eq at k)) t.above_ls;
      });
    }

-- THE THEOREM: the rows that remain hold at p exactly where some point that differs from p in v alone meets the old rows;
-- and exactly where some number num / den at v does
pub remaining_exact : (rows : List Row) (w v : ℕ) (p : List ℤ) → Point w p → v ≢ 0 → v < w → Meets p (remaining v rows) ↔ Values rows w (v ∷ []) p
remaining_exact rows w v p hp nz lt = (λ a. moved_values rows w v p hp nz (complete rows w v p hp nz lt a), sound rows w v p hp)

pub remaining-moved : (rows : List Row) (w v : ℕ) (p : List ℤ) → Point w p → v ≢ 0 → v < w → Meets p (remaining v rows) ↔ Moved rows v p
remaining-moved rows w v p hp nz lt = (complete rows w v p hp nz lt, λ m. sound rows w v p hp (moved_values rows w v p hp nz m))
