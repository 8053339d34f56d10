-- Digits and pairs of digits: found below 16 and 256, or foreign. Assumes nothing.
use mathlib.Core.Path.{◌≡◌, refl}
use mathlib.Core.Bool.{Bool, true, false, cond, ◌&&◌}
use Prim.Native.Nat.{ℕ, suc, ◌+◌, ◌-◌, ◌*◌, ◌^◌, ◌<◌}
use native.Mathlib.Omega.{arith}
use borrow.Author.Tests.{leb-true}
use Rattle.std.specs.Prelude.{Some, None}
use lib.Dec.{leb, ltb}
use lib.IntN.{pos, negsuc}
use mir.Syntax.{w32}
use mir.Val.{to_z, sel}
use Rattle.integers.proofs.Tests.{and_right}
use Rattle.sets.specs.declared.Refusal.TheVariants.{NoFrame}
use Rattle.sets.specs.Outcomes.{Result, Ok, Err, and_then}
use Rattle.std.specs.Result.{result_ok}
use Rattle.frames.specs.Hex.{digit, pair, signed}

-- what a digit can be: foreign, or a value below 16
pub data Below (n : ℕ) : Result ℕ → Type 0 where
  foreign : Below n (Err NoFrame)
  value : {v : ℕ} → v < n → Below n (Ok v)

choose : (a b : Bool) (v w : ℕ) → (a ≡ true → v < 16) → (b ≡ true → w < 16) → Below 16 (cond a (Ok v) (cond b (Ok w) (Err NoFrame)))
choose true b v w f g = value (f refl)
choose false true v w f g = value (g refl)
choose false false v w f g = foreign

pub digit-below : (c : ℕ) → Below 16 (digit c)
unfolding digit
digit-below c = choose (leb 48 c && leb c 57) (leb 65 c && leb c 70) (c - 48) (c - 55)
    (λ (e : (leb 48 c && leb c 57) ≡ true). omega (arith, leb-true c 57 (and_right (leb 48 c) (leb c 57) e)))
    (λ (e : (leb 65 c && leb c 70) ≡ true). omega (arith, leb-true c 70 (and_right (leb 65 c) (leb c 70) e)))

joined : {o p : Result ℕ} → Below 16 o → Below 16 p → Below 256 (and_then o (λ high. and_then p (λ low. Ok (high * 16 + low))))
unfolding and_then
joined foreign b = foreign
joined (value h) foreign = foreign
joined (value {v = a} h) (value {v = b} k) = value {v = a * 16 + b} (omega arith)

pub pair-below : (c d : ℕ) → Below 256 (pair c d)
unfolding pair
pair-below c d = joined (digit-below c) (digit-below d)

-- what the code's answer tells
pub is-foreign : (n : ℕ) {o : Result ℕ} → Below n o → None ≡ result_ok o → o ≡ Err NoFrame
is-foreign n foreign h = refl
is-foreign n (value k) h = let z : ◌≡◌ {A = ℕ} 0 1 = cc in absurd (omega arith)

pub is-value : (n : ℕ) {o : Result ℕ} (v : ℕ) → Below n o → Some v ≡ result_ok o → o ≡ Ok v
is-value n v foreign h = let z : ◌≡◌ {A = ℕ} 0 1 = cc in absurd (omega arith)
is-value n v (value k) h = cc

-- a pair is found where both its digits are
module _ (c d : ℕ) where
  pub no_high : None ≡ result_ok (digit c) → None ≡ result_ok (pair c d)
  unfolding pair and_then
  no_high e = rw (is-foreign 16 (digit-below c) e)

  pub no_low : (high : ℕ) → Some high ≡ result_ok (digit c) → None ≡ result_ok (digit d) → None ≡ result_ok (pair c d)
  unfolding pair and_then
  no_low high e f = rw (is-value 16 high (digit-below c) e, is-foreign 16 (digit-below d) f)

  pub both_found : (high low : ℕ) → Some high ≡ result_ok (digit c) → Some low ≡ result_ok (digit d) → Some (high * 16 + low) ≡ result_ok (pair c d)
  unfolding pair and_then
  both_found high low e f = rw (is-value 16 high (digit-below c) e, is-value 16 low (digit-below d) f)

-- ---- two's complement, as std has it
pub signed-read : (n : ℕ) → to_z w32 n ≡ signed n
signed-read n = go (ltb n (2 ^ 31))
  where
    go : (t : Bool) → sel t (pos n) (negsuc (2 ^ 32 - suc n)) ≡ cond t (pos n) (negsuc (2 ^ 32 - suc n))
    go true = refl
    go false = refl
