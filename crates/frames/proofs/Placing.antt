-- The place of a frame, and a line of which the buffer has the first 1,280 bytes. Assumes nothing.
use mathlib.Core.Path.{◌≡◌, refl, sym, ap, ◌∙◌}
use mathlib.Core.Logic.{◌≢◌}
use mathlib.Core.Bool.{Bool, true, false, cond, not, ◌&&◌, ◌||◌}
use mathlib.Core.List.{List, [], ◌∷◌}
use Prim.Native.Nat.{ℕ, suc, ◌+◌, ◌-◌, ◌*◌, ◌≤◌, ◌<◌}
use native.Mathlib.Omega.{arith}
use borrow.Author.Tests.{leb-true, leb-false, eqb-true, eqb-false, ne_eqb}
use lib.Dec.{leb, ltb, eqb, lit<}
use lib.ListN.{length, get_or, take, drop}
use lib.Seq.{length-take-le, take_all, get_or-take, get_or-drop}
use Rattle.std.specs.Prelude.{Some, None, is_some, min}
use Rattle.std.specs.Option.{unwrap_or}
use Rattle.integers.proofs.Tests.{and_left, and_right}
use Rattle.rows.specs.Rows.{set_rows}
use Rattle.sets.specs.Outcomes.{Outcome, Ok, Err}
use Rattle.sets.specs.declared.Refusal.{Refusal}
use Rattle.sets.specs.declared.Refusal.TheVariants.{NoFrame, Misplaced}
use Rattle.sets.proofs.Results.{refused-not, found-same}
use Rattle.models.specs.declared.Header.{Header}
use Rattle.frames.specs.declared.Progress.{Progress}
use Rattle.frames.specs.Reading.{Seen, nothing, progress_of, reference_table, declared, term_count, is_known, due_length, is_due, placed, passed, content, frame}
use Rattle.frames.specs.declared.steps.Kind.{Kind}
use Rattle.frames.specs.Steps.{frame_limit, kind_number, known_kind, Sound}

pub or_left : (a : Bool) → (a || false) ≡ true → a ≡ true
or_left true e = refl
or_left false e = e

-- ---- what the header and the reference met tell
module _ (s : Seen) where
  headed-is : is_some (progress_of s).header ≡ s.has_header
  headed-is = go s.has_header
    where
      go : (b : Bool) → is_some (cond b (Some s.header) None) ≡ b
      go true = refl
      go false = refl

  referenced-is : is_some (progress_of s).reference ≡ s.has_reference
  referenced-is = go s.has_reference
    where
      go : (b : Bool) → is_some (cond b (Some (reference_table s.reference)) None) ≡ b
      go true = refl
      go false = refl

  pub declared-is : s.has_header ≡ true → declared (progress_of s) ≡ s.header
  declared-is e = rw e

  pub declared-few : (declared (progress_of s)).transitions ≤ s.header.transitions
  declared-few = go s.has_header
    where
      go : (b : Bool) → (unwrap_or (cond b (Some s.header) None) nothing.header).transitions ≤ s.header.transitions
      go true = omega arith
      go false = omega arith

  pub due-is : (kind : ℕ) → is_due (progress_of s) kind ≡ (let n = (declared (progress_of s)).transitions in
      cond (eqb kind 1) (not s.has_header) (cond (eqb kind 2) (not s.has_reference) (cond (eqb kind 4) (s.has_reference && ltb (length s.transitions) n)
      (s.has_reference && (eqb (length s.transitions) n && ltb (length s.rows) set_rows)))))
  unfolding is_due
  due-is kind = rw (headed-is, referenced-is)

  pub placed-is : (kind count terms : ℕ) → placed (progress_of s) kind count terms ≡
      cond (is_known kind) (cond (s.has_header || eqb kind 1) (cond (eqb count (due_length (declared (progress_of s)) kind terms)) (cond (is_due (progress_of s) kind) (Ok tt) (Err Misplaced)) (Err NoFrame)) (Err Misplaced)) (Err NoFrame)
  unfolding placed
  placed-is kind count terms = rw headed-is

-- no frame is longer than a row of 255 terms
pub due-small : (h : Header) (kind terms : ℕ) → Sound h → terms < 256 → due_length h kind terms ≤ 1279
unfolding due_length
due-small h kind terms s t = go (eqb kind 2) (eqb kind 3)
  where
    go : (a b : Bool) → cond a (4 + h.parameters * 4) (cond b (4 + terms * 5) 4) ≤ 1279
    go true b = omega (arith, s.parameters)
    go false true = omega arith
    go false false = omega arith

-- ---- a line with bytes
pub frame_is : (s : Seen) (bs : List ℕ) → 0 < length bs →
    frame s bs ≡ passed (placed (progress_of s) (get_or bs 0 0) (length bs - 1) (term_count (drop 1 bs))) (content s (get_or bs 0 0) (drop 1 bs))
unfolding frame
frame_is s [] h = absurd (omega arith)
frame_is s (k ∷ b) h = let e : suc (length b) - 1 ≡ length b = omega arith in rw e

-- its bytes are those of the buffer, as far as the buffer goes
module _ (to bs : List ℕ) (count : ℕ) (size : length bs ≡ count) (long : length to ≡ frame_limit) (same : take count to ≡ take frame_limit bs) where
  abbrev pub held : List ℕ
  held = take (min count frame_limit) to

  front_same : held ≡ take frame_limit bs
  front_same = go (leb count frame_limit) refl
    where
      go : (b : Bool) → leb count frame_limit ≡ b → held ≡ take frame_limit bs
      go true e = let h = leb-true count frame_limit e in let m : min count frame_limit ≡ count = omega arith in rw m same
      go false e =
          let h = leb-false count frame_limit e in
          let m : min count frame_limit ≡ frame_limit = omega arith in
          rw m (take_all frame_limit to (omega arith) ∙ sym (take_all count to (omega arith)) ∙ same)

  held-kind : get_or held 0 0 ≡ get_or bs 0 0
  held-kind = ap (λ (l : List ℕ). get_or l 0 0) front_same ∙ get_or-take frame_limit bs 0 0 (lit< tt)

  -- a line with bytes begins as the buffer does
  pub kind_same : 0 < count → get_or to 0 0 ≡ get_or bs 0 0
  kind_same some = sym (get_or-take (min count frame_limit) to 0 0 (omega arith)) ∙ held-kind

  terms-same : term_count (drop 1 held) ≡ term_count (drop 1 bs)
  terms-same =
      ap (λ (l : List ℕ). term_count (drop 1 l)) front_same ∙ get_or-drop 1 (take frame_limit bs) 3 0 ∙ get_or-take frame_limit bs 4 0 (lit< tt) ∙ sym (get_or-drop 1 bs 3 0)

  pub whole-shown : count ≤ frame_limit → drop 1 held ≡ drop 1 bs
  whole-shown h = ap (drop 1) (front_same ∙ take_all frame_limit bs (omega arith))

  pub frame-shown : (s : Seen) → 0 < count → frame s bs ≡ passed (placed (progress_of s) (get_or held 0 0) (count - 1) (term_count (drop 1 held))) (content s (get_or held 0 0) (drop 1 bs))
  frame-shown s some = frame_is s bs (omega arith) ∙ (rw (size, ← held-kind, ← terms-same))

pub frame-none : (s : Seen) (bs : List ℕ) → length bs ≡ 0 → frame s bs ≡ Err NoFrame
unfolding frame
frame-none s [] h = refl
frame-none s (k ∷ b) h = absurd (omega arith)

-- ---- a frame in its place has a known kind, comes first or behind the header, and has its length
known : (a b c d : Bool) → ◌≡◌ {A = Outcome} (cond a (cond b (cond c (cond d (Ok tt) (Err Misplaced)) (Err NoFrame)) (Err Misplaced)) (Err NoFrame)) (Ok tt) → (a ≡ true) × (b ≡ true) × (c ≡ true)
known true true true d e = (refl, refl, refl)
known true true false d e = refused-not e
known true false c d e = refused-not e
known false b c d e = refused-not e

pub record InPlace (p : Progress) (kind count terms : ℕ) : Type 0 where
  pub low : 1 ≤ kind
  pub high : kind ≤ 4
  pub size : count ≡ due_length (declared p) kind terms

module _ (p : Progress) (kind count terms : ℕ) (e : placed p kind count terms ≡ Ok tt) where
  tests : (is_known kind ≡ true) × ((is_some p.header || eqb kind 1) ≡ true) × (eqb count (due_length (declared p) kind terms) ≡ true)
  unfolding placed
  tests = known (is_known kind) (is_some p.header || eqb kind 1) (eqb count (due_length (declared p) kind terms)) (is_due p kind) e

  pub in_place : InPlace p kind count terms
  in_place = record {
    low = leb-true 1 kind (and_left (leb 1 kind) (leb kind 4) tests.0);
    high = leb-true kind 4 (and_right (leb 1 kind) (leb kind 4) tests.0);
    size = eqb-true count (due_length (declared p) kind terms) tests.2;
  }

module _ (p : Progress) (kind count terms : ℕ) (e : Ok tt ≡ placed p kind count terms) where
  pub due-size : count ≡ due_length (declared p) kind terms
  due-size = (in_place p kind count terms (sym e)).size

  pub header-met : (s : Seen) → progress_of s ≡ p → kind ≢ 1 → s.header ≡ declared p
  header-met s is other =
      let h = rw (ne_eqb kind 1 other) at (tests p kind count terms (sym e)).1 in
      let met : s.has_header ≡ true = sym (headed-is s) ∙ ap (λ (q : Progress). is_some q.header) is ∙ or_left (is_some p.header) h in
      sym (declared-is s met) ∙ ap declared is

-- ---- the kind that the code finds
pub kind-number-of : (k : ℕ) (kind : Kind) → Ok kind ≡ known_kind k → kind_number kind ≡ k
kind-number-of k kind e = go (eqb k 1) (eqb k 2) (eqb k 3) (eqb k 4) refl refl refl refl e
  where
    go : (x y z w : Bool) → eqb k 1 ≡ x → eqb k 2 ≡ y → eqb k 3 ≡ z → eqb k 4 ≡ w →
        Ok kind ≡ cond x (Ok Kind.Header) (cond y (Ok Kind.Reference) (cond z (Ok Kind.Row) (cond w (Ok Kind.Transition) (Err NoFrame)))) → kind_number kind ≡ k
    go true y z w a b c d e = ap kind_number (found-same e) ∙ sym (eqb-true k 1 a)
    go false true z w a b c d e = ap kind_number (found-same e) ∙ sym (eqb-true k 2 b)
    go false false true w a b c d e = ap kind_number (found-same e) ∙ sym (eqb-true k 3 c)
    go false false false true a b c d e = ap kind_number (found-same e) ∙ sym (eqb-true k 4 d)
    go false false false false a b c d e = refused-not (sym e)

unknown : (k : ℕ) (q : Refusal) → Err q ≡ known_kind k → (q ≡ NoFrame) × (is_known k ≡ false)
unknown k q e = go (eqb k 1) (eqb k 2) (eqb k 3) (eqb k 4) refl refl refl refl e
  where
    none : (k ≡ 1 → ⊥) → (k ≡ 2 → ⊥) → (k ≡ 3 → ⊥) → (k ≡ 4 → ⊥) → (a b : Bool) → leb 1 k ≡ a → leb k 4 ≡ b → (a && b) ≡ false
    none a b c d true true e f =
        let l = leb-true 1 k e in
        let m = leb-true k 4 f in
        absurd (omega arith)
    none a b c d true false e f = refl
    none a b c d false z e f = refl

    go : (x y z w : Bool) → eqb k 1 ≡ x → eqb k 2 ≡ y → eqb k 3 ≡ z → eqb k 4 ≡ w →
        Err q ≡ cond x (Ok Kind.Header) (cond y (Ok Kind.Reference) (cond z (Ok Kind.Row) (cond w (Ok Kind.Transition) (Err NoFrame)))) → (q ≡ NoFrame) × (is_known k ≡ false)
    go true y z w a b c d e = refused-not e
    go false true z w a b c d e = refused-not e
    go false false true w a b c d e = refused-not e
    go false false false true a b c d e = refused-not e
    go false false false false a b c d e = (cc, none (eqb-false k 1 a) (eqb-false k 2 b) (eqb-false k 3 c) (eqb-false k 4 d) (leb 1 k) (leb k 4) refl refl)

-- ---- the frame, by what the code finds in the buffer: its kind and the bytes behind it
module _ (count : ℕ) (to : List ℕ) (long : length to ≡ frame_limit) (k : ℕ) (b : List ℕ) (is : take (min count (length to)) to ≡ k ∷ b) where
  size-shown : suc (length b) ≡ min count frame_limit
  size-shown = sym (ap length is) ∙ length-take-le (min count (length to)) to (omega arith) ∙ ap (min count) long

  pub some-shown : 0 < count
  some-shown = omega (arith, size-shown)

  module _ (p : Progress) (sound : Sound (declared p)) (small : term_count b < 256) (e : Ok tt ≡ placed p k (count - 1) (term_count b)) where
    pub fits-shown : count ≤ frame_limit
    fits-shown = omega (arith, due-size p k (count - 1) (term_count b) e, due-small (declared p) k (term_count b) sound small, some-shown)

    pub length-shown : length b ≡ due_length (declared p) k (term_count b)
    length-shown = omega (arith, size-shown, fits-shown, due-size p k (count - 1) (term_count b) e)

  module _ (p : Progress) (s : Seen) (bs : List ℕ) (e : progress_of s ≡ p) (size : length bs ≡ count) (same : take count to ≡ take frame_limit bs) where
    held-is : held to bs count size long same ≡ k ∷ b
    held-is = rw long at is

    pub told : frame s bs ≡ passed (placed p k (count - 1) (term_count b)) (content s k (drop 1 bs))
    told = (rw held-is at (frame-shown to bs count size long same s some-shown)) ∙ ap (λ (q : Progress). passed (placed q k (count - 1) (term_count b)) (content s k (drop 1 bs))) e

    pub told-unknown : (q : Refusal) → Err q ≡ known_kind k → frame s bs ≡ Err q
    unfolding placed
    told-unknown q f = let u = unknown k q f in told ∙ (rw (u.1, u.0))

    pub told-refused : (q : Refusal) → Err q ≡ placed p k (count - 1) (term_count b) → frame s bs ≡ Err q
    told-refused q f = told ∙ (rw (sym f))

    pub told-content : Ok tt ≡ placed p k (count - 1) (term_count b) → count ≤ frame_limit → frame s bs ≡ content s k b
    told-content f few = told ∙ (rw (sym f)) ∙ ap (content s k) (sym (whole-shown to bs count size long same few) ∙ ap (drop 1) held-is)
