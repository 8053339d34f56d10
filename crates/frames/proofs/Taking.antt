-- What is taken from a frame of each kind leads from what was read before to what has been read then. Assumes nothing.
use mathlib.Core.Path.{◌≡◌, refl, sym, ap, ◌∙◌}
use mathlib.Core.Bool.{Bool, true, false, cond}
use mathlib.Core.List.{List, ◌∷◌, map}
use Prim.Native.Nat.{ℕ, ◌*◌, ◌≤◌, ◌<◌}
use native.Mathlib.Omega.{arith}
use lib.Dec.{leb}
use lib.ListN.{length, take}
use lib.Seq.{ext_get_or}
use lib.IntN.{ℤ, pos}
use Rattle.integers.specs.Lists.{from}
use Rattle.integers.proofs.Tests.{and_right}
use Rattle.rows.specs.Rows.{at}
use Rattle.sets.specs.Outcomes.{Ok, Err, Result}
use Rattle.sets.specs.declared.Refusal.{Refusal}
use Rattle.sets.specs.declared.Refusal.TheVariants.{NoFrame, ReferenceRange}
use Rattle.models.specs.declared.Header.{Header}
use Rattle.models.specs.declared.Reference.{Reference}
use Rattle.models.specs.Automaton.{padded, reference_list}
use Rattle.models.specs.Acceptance.{reference_fits, owner_declared, entry_declared}
use Rattle.models.proofs.Accepted.{any_entry}
use Rattle.models.proofs.Setting.{at-declared, at-padded, length-counted}
use Rattle.std.specs.Prelude.{Some, None}
use Rattle.frames.specs.declared.Frame.{Frame}
use Rattle.frames.specs.Hex.{byte, word, signed}
use Rattle.frames.specs.Reading.{Seen, reference_table, reference_of, reference_frame, term_count, term_entry, row_declared, with_reference}
use Rattle.frames.specs.Steps.{frame_limit, Decoded, Sound, Met, Told}
use Rattle.frames.proofs.Terms.{counted-all}

module _ (s : Seen) where
  pub met-reference : (r : List ℤ) → Met (Frame.Reference (reference_table r)) s (with_reference s r)
  met-reference r = record { counted = refl; transitions = refl; rows = refl }

-- ---- a reference in its table is the same list again
pub table_list : (z : ℤ) (l : List ℤ) (n : ℕ) → length l ≡ n → n ≤ 8 → reference_list (reference_table (z ∷ l)) n ≡ z ∷ l
table_list z l n e few = ap (λ (t : List ℤ). z ∷ t) (ext_get_or (pos 0) _ l (length-counted (at (padded 8 (pos 0) l)) 0 n ∙ sym e) (λ i h. here i (rw (length-counted (at (padded 8 (pos 0) l)) 0 n) at h)))
  where
    here : (i : ℕ) → i < n → at (map (λ j. at (padded 8 (pos 0) l) j) (from 0 n)) i ≡ at l i
    here i h = at-declared (padded 8 (pos 0) l) n i h ∙ at-padded 8 l i (omega arith)

-- what the code tests of it is what was read
pub read-back : (h : Header) (b : List ℕ) → h.parameters ≤ 8 → reference_list (reference_table (reference_of h b)) h.parameters ≡ reference_of h b
read-back h b few = table_list (signed (word b 0)) (map (λ i. signed (word b (i * 4))) (from 1 h.parameters)) h.parameters (length-counted (λ i. signed (word b (i * 4))) 1 h.parameters) few

pub reference-told : (s : Seen) (h : Header) (b : List ℕ) (r : Reference) → h.parameters ≤ 8 → s.header ≡ h → r ≡ reference_table (reference_of h b) → (fits : Bool) →
    fits ≡ reference_fits (reference_list r h.parameters) → Told (cond fits (Ok (Frame.Reference r)) (Err ReferenceRange)) s (reference_frame s b)
unfolding reference_frame
reference-told s h b r few e is fits f =
    let l = reference_of h b in
    let k : fits ≡ reference_fits l = f ∙ ap (λ (q : Reference). reference_fits (reference_list q h.parameters)) is ∙ ap reference_fits (read-back h b few) in
    let frame : reference_frame s b ≡ cond (reference_fits l) (Ok (with_reference s l)) (Err ReferenceRange) =
    ap (λ (q : Header). cond (reference_fits (reference_of q b)) (Ok (with_reference s (reference_of q b))) (Err ReferenceRange)) e in
    rw (frame, is, ← k) (go fits)
  where
    go : (t : Bool) → Told (cond t (Ok (Frame.Reference (reference_table (reference_of h b)))) (Err ReferenceRange)) s (cond t (Ok (with_reference s (reference_of h b))) (Err ReferenceRange))
    go true = met-reference s (reference_of h b)
    go false = refl

-- ---- the entries of a row whose terms are declared are among the sixteen
pub entries_within : (h : Header) (b : List ℕ) → Sound h → row_declared h b ≡ true → (i : ℕ) → i < term_count b → term_entry b i < 16
unfolding row_declared
entries_within h b sound e i k =
    let named = and_right (leb (byte b 2) 1) _ (and_right (owner_declared h (byte b 0) (byte b 1)) _ e) in
    let a = counted-all (λ j. entry_declared h (byte b 0) (term_entry b j)) (term_count b) named i k in
    omega (arith, any_entry h sound.parameters (byte b 0) (term_entry b i) a, sound.clocks)

-- ---- what the decoder and the frame tell, by the answer that the code tests
pub record LineIs (o : Result (List ℕ)) (to : List ℕ) (n : ℕ) : Type 0 where
  pub bytes : List ℕ
  pub is : o ≡ Ok bytes
  pub count : length bytes ≡ n
  pub kept : take n to ≡ take frame_limit bytes

pub good_line : (o : Result (List ℕ)) (to : List ℕ) (n : ℕ) → Decoded o to (Some n) → LineIs o to n
good_line (Ok bs) to n d = let e : n ≡ length bs = cc in record { bytes = bs; is = refl; count = sym e; kept = rw e d.1 }
good_line (Err q) to n d = let z : ◌≡◌ {A = ℕ} 0 1 = cc in absurd (omega arith)

pub bad_line : (o : Result (List ℕ)) (to : List ℕ) → ((q : Refusal) → o ≡ Err q → q ≡ NoFrame) → Decoded o to None → o ≡ Err NoFrame
bad_line (Ok bs) to f d = let h = d.0 in let z : ◌≡◌ {A = ℕ} 0 1 = cc in absurd (omega arith)
bad_line (Err q) to f d = ap Err (f q refl)

pub record TakenAs (f : Frame) (s : Seen) (o : Result Seen) : Type 0 where
  pub seen : Seen
  pub is : o ≡ Ok seen
  pub met : Met f s seen

pub taken_frame : (f : Frame) (s : Seen) (o : Result Seen) → Told (Ok f) s o → TakenAs f s o
taken_frame f s (Ok t) d = record { seen = t; is = refl; met = d }
taken_frame f s (Err q) d = absurd d

pub refused-frame : (s : Seen) (o : Result Seen) (q : Refusal) → Told (Err q) s o → o ≡ Err q
refused-frame s (Ok t) q d = absurd d
refused-frame s (Err r) q d = ap Err (sym d)
