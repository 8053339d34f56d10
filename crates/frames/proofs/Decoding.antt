-- A line decoded pair by pair: what was read so far, and what is left of the input. Assumes nothing.
use mathlib.Core.Path.{◌≡◌, refl, sym, ap, ◌∙◌}
use mathlib.Core.Bool.{Bool, true, false, cond}
use mathlib.Core.List.{List, [], ◌∷◌, ◌++◌, append_assoc, append-nil}
use Prim.Native.Nat.{ℕ, ◌+◌, ◌*◌, ◌/◌, ◌≤◌, ◌<◌}
use native.Mathlib.Omega.{arith}
use native.Mathlib.Numerals.{add-one}
use borrow.Author.Tests.{eqb-true, ltb-true, ltb-false}
use lib.Dec.{eqb, ltb}
use lib.ListN.{length, get_or, get_or-eq_default, take, drop, set, length-append, length-drop}
use lib.Seq.{take_all, take-suc-set, take-append-le}
use Rattle.integers.proofs.Tests.{false_of}
use Rattle.integers.proofs.Loops.{drop_turn}
use Rattle.sets.specs.declared.Refusal.TheVariants.{NoFrame}
use Rattle.sets.specs.Outcomes.{Result, Ok, Err, and_then}
use Rattle.sets.proofs.Results.{refused-not}
use Rattle.frames.specs.Hex.{digit, pair, first_bytes}
use Rattle.frames.specs.Steps.{frame_limit, Decoded}
use Rattle.std.specs.Prelude.{Option, Some, None, MatchOption}
use Rattle.std.specs.Bool.{then_some}
use Rattle.std.specs.Option.{option_eq}
use Rattle.std.specs.List.{HoldsAt}
use Rattle.std.specs.Simd.{first_chunks}
use Rattle.std.proofs.Common.{Bor}
use Rattle.std.proofs.lemmas.List.{get_or-take, get_or-drop}
use Rattle.std.proofs.lemmas.List.{set_past}
use Rattle.frames.proofs.Terms.{chunk-at}

-- LF is no digit
pub no_end : (c d b : ℕ) → pair c d ≡ Ok b → eqb c 10 ≡ false
unfolding pair digit and_then
no_end c d b e = false_of (eqb c 10) (λ h. clash (eqb-true c 10 h))
  where
    clash : c ≡ 10 → ⊥
    clash h = refused-not (rw h at e)

module _ (c d : ℕ) (cs : List ℕ) where
  pub pair-first : (b : ℕ) → pair c d ≡ Ok b → first_bytes (c ∷ d ∷ cs) ≡ and_then (first_bytes cs) (λ bs. Ok (b ∷ bs))
  unfolding first_bytes and_then
  pair-first b e = rw (no_end c d b e, e)

  pub pair_stops : pair c d ≡ Err NoFrame → first_bytes (c ∷ d ∷ cs) ≡ cond (eqb c 10) (Ok []) (Err NoFrame)
  unfolding first_bytes and_then
  pair_stops e = rw e

-- ---- the bytes of the line so far, of which the first 1,280 stand in the buffer
pub record Going (all left to : List ℕ) (n : ℕ) : Type 0 where
  pub bytes : List ℕ
  pub count : length bytes ≡ n
  pub kept : take n to ≡ take frame_limit bytes
  pub same : first_bytes all ≡ and_then (first_bytes left) (λ cs. Ok (bytes ++ cs))

then_found : (o : Result (List ℕ)) → o ≡ and_then o (λ cs. Ok cs)
unfolding and_then
then_found (Ok cs) = refl
then_found (Err q) = refl

pub going_none : (l to : List ℕ) → Going l l to 0
going_none l to = record { bytes = []; count = refl; kept = refl; same = then_found (first_bytes l) }

then-more : (o : Result (List ℕ)) (bytes : List ℕ) (b : ℕ) →
    and_then (and_then o (λ bs. Ok (b ∷ bs))) (λ cs. Ok (bytes ++ cs)) ≡ and_then o (λ cs. Ok ((bytes ++ (b ∷ [])) ++ cs))
unfolding and_then
then-more (Ok cs) bytes b = ap Ok (sym (append_assoc bytes (b ∷ []) cs))
then-more (Err q) bytes b = refl

kept_more : (to bytes : List ℕ) (n b : ℕ) → length to ≡ frame_limit → length bytes ≡ n → take n to ≡ take frame_limit bytes → take (n + 1) (set to n b) ≡ take frame_limit (bytes ++ (b ∷ []))
kept_more to bytes n b long count kept = go (ltb n frame_limit) refl
  where
    room : n < frame_limit → take (n + 1) (set to n b) ≡ take frame_limit (bytes ++ (b ∷ []))
    room h =
        rw (add-one, take-suc-set to n b (omega arith), kept, take_all frame_limit bytes (omega arith))
        (sym (take_all frame_limit (bytes ++ (b ∷ [])) (omega (arith, length-append bytes (b ∷ [])))))

    full : frame_limit ≤ n → take (n + 1) (set to n b) ≡ take frame_limit (bytes ++ (b ∷ []))
    full h =
        rw (set_past to n b (omega arith), take_all (n + 1) to (omega arith), take-append-le frame_limit bytes (b ∷ []) (omega arith))
        (sym (take_all n to (omega arith)) ∙ kept)

    go : (t : Bool) → ltb n frame_limit ≡ t → take (n + 1) (set to n b) ≡ take frame_limit (bytes ++ (b ∷ []))
    go true e = room (ltb-true n frame_limit e)
    go false e = full (ltb-false n frame_limit e)

module _ (all to : List ℕ) (n : ℕ) where
  pub going_more : (c d b : ℕ) (cs : List ℕ) → length to ≡ frame_limit → pair c d ≡ Ok b → Going all (c ∷ d ∷ cs) to n → Going all cs (set to n b) (n + 1)
  going_more c d b cs long e g = record {
    bytes = g.bytes ++ (b ∷ []);
    count = rw (length-append, g.count);
    kept = kept_more to g.bytes n b long g.count g.kept;
    same = g.same ∙ (rw (pair-first c d cs b e) (then-more (first_bytes cs) g.bytes b));
  }

  pub going_ends : (left : List ℕ) (r : Option ℕ) (good : Bool) → Going all left to n → first_bytes left ≡ cond good (Ok []) (Err NoFrame) → r ≡ cond good (Some n) None →
      Decoded (first_bytes all) to r
  unfolding and_then
  going_ends left r true g e a =
      let f : first_bytes all ≡ Ok (g.bytes ++ []) = rw e at g.same in
      let k : length (g.bytes ++ []) ≡ n = rw append-nil g.count in
      rw f (a ∙ ap Some (sym k), rw (k, append-nil g.bytes) g.kept)
  going_ends left r false g e a = let f : first_bytes all ≡ Err NoFrame = rw e at g.same in rw f a

-- ---- where the decoder stops
pub ends-short : (l : List ℕ) → length l ≤ 1 → first_bytes l ≡ cond (eqb (get_or l 0 0) 10) (Ok []) (Err NoFrame)
unfolding first_bytes
ends-short [] h = refl
ends-short (c ∷ []) h = refl
ends-short (c ∷ d ∷ cs) h = absurd (omega arith)

pub two_left : (l : List ℕ) (at : ℕ) → at + 1 < length l → drop at l ≡ get_or l at 0 ∷ get_or l (at + 1) 0 ∷ drop (at + 2) l
two_left l at h = let e : at + 1 + 1 ≡ at + 2 = omega arith in rw (drop_turn l at 0 (omega arith), drop_turn l (at + 1) 0 h, e)

-- ---- a line as chunks of two characters
module _ (l : List ℕ) where
  abbrev pub pairs : List (List ℕ)
  pairs = first_chunks 2 (length l / 2) l

  pub first-digit : (i : ℕ) (d : List ℕ) → i < length l / 2 → get_or (get_or pairs i d) 0 0 ≡ get_or l (i * 2) 0
  first-digit i d h =
      ap (λ (t : List ℕ). get_or t 0 0) (chunk-at 2 (length l / 2) i l d h) ∙ get_or-take 2 (drop (i * 2) l) 0 0 (omega arith) ∙ get_or-drop (i * 2) l 0 0
      ∙ ap (λ (k : ℕ). get_or l k 0) (omega arith)

  pub second_digit : (i : ℕ) (d : List ℕ) → i < length l / 2 → get_or (get_or pairs i d) 1 0 ≡ get_or l (i * 2 + 1) 0
  second_digit i d h =
      ap (λ (t : List ℕ). get_or t 1 0) (chunk-at 2 (length l / 2) i l d h) ∙ get_or-take 2 (drop (i * 2) l) 1 0 (omega arith) ∙ get_or-drop (i * 2) l 1 0

  module _ (i : ℕ) (within : i < length l / 2) where
    pub pair-taken : (to : List ℕ) (b : ℕ) → length to ≡ frame_limit → pair (get_or (get_or pairs i []) 0 0) (get_or (get_or pairs i []) 1 0) ≡ Ok b → Going l (drop (i * 2) l) to i →
        Going l (drop ((i + 1) * 2) l) (set to i b) (i + 1)
    pair-taken to b long e g =
        let k : (i + 1) * 2 ≡ i * 2 + 2 = omega arith in
        rw k
        (going_more l to i (get_or l (i * 2) 0) (get_or l (i * 2 + 1) 0) b (drop (i * 2 + 2) l) long (rw (first-digit i [] within, second_digit i [] within) at e)
        (rw (two_left l (i * 2) (omega arith)) at g))

    pub pair-foreign : pair (get_or (get_or pairs i []) 0 0) (get_or (get_or pairs i []) 1 0) ≡ Err NoFrame → first_bytes (drop (i * 2) l) ≡ cond (eqb (get_or l (i * 2) 0) 10) (Ok []) (Err NoFrame)
    pair-foreign e =
        rw (two_left l (i * 2) (omega arith)) (pair_stops (get_or l (i * 2) 0) (get_or l (i * 2 + 1) 0) (drop (i * 2 + 2) l) (rw (first-digit i [] within, second_digit i [] within) at e))

  pub pairs-done : (i : ℕ) → length l / 2 ≤ i → first_bytes (drop (i * 2) l) ≡ cond (eqb (get_or l (i * 2) 0) 10) (Ok []) (Err NoFrame)
  pairs-done i h =
      let e : get_or (drop (i * 2) l) 0 0 ≡ get_or l (i * 2) 0 = get_or-drop (i * 2) l 0 0 ∙ ap (λ (k : ℕ). get_or l k 0) (omega arith) in
      ends-short (drop (i * 2) l) (rw length-drop (omega arith)) ∙ ap (λ (c : ℕ). cond (eqb c 10) (Ok []) (Err NoFrame)) e

  -- the character behind the digits
  pub ends-so : (i j : ℕ) → j ≡ i → (o : Option (Bor ℕ)) (f : Bor ℕ) → f.now ≡ 10 → MatchOption o (length l ≤ j) (λ x. (j < length l) × HoldsAt (λ y. x.now ≡ y) l j) →
      option_eq (λ x y. eqb x.now y.now) o (Some f) ≡ eqb (get_or l i 0) 10
  ends-so i j s None f e h = rw (get_or-eq_default l 0 {n = i} (omega (arith, h)))
  ends-so i j s (Some x) f e h = rw (e, h.1 0, s)

pub some_if : (t : Bool) (n : ℕ) → then_some t n ≡ cond t (Some n) None
some_if true n = refl
some_if false n = refl
