-- A file that is accepted is determined by its tables: it is the one that the tables are written as. Assumes nothing.
use mathlib.Core.Path.{◌≡◌, refl, sym, ap, ◌∙◌}
use mathlib.Core.Bool.{Bool, true, false, not, cond, ◌||◌}
use mathlib.Core.List.{List, [], ◌∷◌, ◌++◌, append_assoc, append-nil}
use Prim.Native.Nat.{ℕ, zero, suc, ◌+◌, ◌*◌, ◌≤◌, ◌<◌}
use native.Mathlib.Omega.{arith}
use borrow.Author.Tests.{leb-true, ltb-true, eqb-true}
use lib.Dec.{leb, eqb}
use lib.ListN.{length, take, length-map}
use lib.IntN.{ℤ}
use Rattle.integers.specs.Lists.{All, from}
use Rattle.integers.proofs.Lists.{all_tail}
use Rattle.integers.proofs.Tests.{and_left, and_right, not-both, split}
use Rattle.rows.specs.Rows.{set_rows}
use Rattle.sets.specs.Outcomes.{Ok, Err, and_then}
use Rattle.sets.specs.declared.Refusal.TheVariants.{NoFrame, Misplaced}
use Rattle.sets.proofs.Results.{refused-not, found-same, then_found}
use Rattle.models.specs.declared.Header.{Header}
use Rattle.models.specs.declared.Transition.{Transition}
use Rattle.models.specs.declared.ModelRow.{ModelRow}
use Rattle.models.specs.declared.Model.{Model}
use Rattle.models.specs.Acceptance.{header_fits, reference_fits, transition_declared}
use Rattle.models.proofs.Setting.{length_from}
use Rattle.models.specs.Automaton.{padded, reference_list, given_rows, given_transitions, given_reference}
use Rattle.frames.specs.Hex.{bytes_of, word, signed, lines, line_of}
use Rattle.frames.specs.Reading.{Seen, nothing, reference_table, progress_of, declared, header_of, reference_of, transition_of, row_of, term_count, is_known, due_length, is_due, passed, row_declared, terms_fit, with_header, with_reference, with_transition, with_row, header_frame, reference_frame, transition_frame, row_frame, content, frame, line, all_lines, tables, zero_transition, zero_row, is_complete, at_end, input_limit, read}
use Rattle.frames.proofs.Taking.{table_list}
use Rattle.frames.proofs.Placing.{or_left, declared-is, due-is, placed-is}
use Rattle.frames.proofs.Reaching.{Few, few-frame, passed-found}
use Rattle.frames.proofs.Back.{Byte}
use Rattle.frames.proofs.Rewriting.{bytes-from, unlines, lines-whole, header_bytes, reference_bytes, transition_bytes, model_row_bytes, header-from, transition_from, reference-from, row_from}

-- ---- the file of a model's tables
unfoldable pub transition_lines : List Transition → List ℕ
transition_lines [] = []
transition_lines (t ∷ ts) = line_of (4 ∷ transition_bytes t) ++ transition_lines ts

unfoldable pub model_row_lines : List ModelRow → List ℕ
model_row_lines [] = []
model_row_lines (r ∷ rs) = line_of (3 ∷ model_row_bytes r) ++ model_row_lines rs

unfoldable pub file_of : Model → List ℕ
file_of m = line_of (1 ∷ header_bytes m.header) ++ (line_of (2 ∷ reference_bytes (given_reference m)) ++ (transition_lines (given_transitions m) ++ model_row_lines (given_rows m)))

transition_more : (ts : List Transition) (t : Transition) → transition_lines (ts ++ (t ∷ [])) ≡ transition_lines ts ++ line_of (4 ∷ transition_bytes t)
unfolding transition_lines
transition_more [] t = append-nil (line_of (4 ∷ transition_bytes t))
transition_more (u ∷ ts) t = ap (λ (l : List ℕ). line_of (4 ∷ transition_bytes u) ++ l) (transition_more ts t) ∙ sym (append_assoc (line_of (4 ∷ transition_bytes u)) (transition_lines ts) (line_of (4 ∷ transition_bytes t)))

row_more : (rs : List ModelRow) (r : ModelRow) → model_row_lines (rs ++ (r ∷ [])) ≡ model_row_lines rs ++ line_of (3 ∷ model_row_bytes r)
unfolding model_row_lines
row_more [] r = append-nil (line_of (3 ∷ model_row_bytes r))
row_more (u ∷ rs) r = ap (λ (l : List ℕ). line_of (3 ∷ model_row_bytes u) ++ l) (row_more rs r) ∙ sym (append_assoc (line_of (3 ∷ model_row_bytes u)) (model_row_lines rs) (line_of (3 ∷ model_row_bytes r)))

-- ---- the lines of what has been read, in the order of the kinds
abbrev header_part : Bool → Header → List ℕ
header_part b h = cond b (line_of (1 ∷ header_bytes h)) []

abbrev reference_part : Bool → List ℤ → List ℕ
reference_part b r = cond b (line_of (2 ∷ reference_bytes r)) []

unfoldable seen_lines : Seen → List ℕ
seen_lines s = header_part s.has_header s.header ++ (reference_part s.has_reference s.reference ++ (transition_lines s.transitions ++ model_row_lines s.rows))

-- what the order of the kinds leaves
record Ordered (s : Seen) : Type 0 where
  headless : s.has_header ≡ false → s.has_reference ≡ false
  no_transitions : s.has_reference ≡ false → s.transitions ≡ []
  no_rows : s.has_reference ≡ false → s.rows ≡ []
  rows_last : length s.transitions < s.header.transitions → s.rows ≡ []
  size : s.has_reference ≡ true → length s.reference ≡ suc s.header.parameters

record Next (s t : Seen) (bs : List ℕ) : Type 0 where
  written : seen_lines t ≡ seen_lines s ++ line_of bs
  ordered : Ordered t

second : (x y : List ℕ) → x ++ (y ++ []) ≡ (x ++ []) ++ y
second x y = rw (append-nil x, append-nil y)

third : (x y z w : List ℕ) → x ++ (y ++ ((z ++ w) ++ [])) ≡ (x ++ (y ++ (z ++ []))) ++ w
third x y z w = rw (append-nil z, append-nil (z ++ w), append_assoc x (y ++ z) w, append_assoc y z w)

fourth : (x y z u w : List ℕ) → x ++ (y ++ (z ++ (u ++ w))) ≡ (x ++ (y ++ (z ++ u))) ++ w
fourth x y z u w = rw (append_assoc x (y ++ (z ++ u)) w, append_assoc y (z ++ u) w, append_assoc z u w)

module _ (s : Seen) (few : Few s) (o : Ordered s) (b : List ℕ) (bytes : All Byte b) (t : Seen) where
  header-next : s.has_header ≡ false → length b ≡ 4 → header_frame s b ≡ Ok t → Next s t (1 ∷ b)
  unfolding header_frame seen_lines transition_lines model_row_lines
  header-next h size e =
      let p = passed-found (header_fits (header_of b)) (with_header s (header_of b)) t _ e in
      let r = o.headless h in
      let ts = o.no_transitions r in
      let rs = o.no_rows r in
      rw (← p.1)
      (record {
        written = rw (h, r, ts, rs, header-from b size) (append-nil (line_of (1 ∷ b)));
        ordered = record {
          headless = λ e. r;
          no_transitions = λ e. ts;
          no_rows = λ e. rs;
          rows_last = λ e. rs;
          size = λ (e : s.has_reference ≡ true). not-both (sym r ∙ e);
        };
      })

  reference-next : s.has_header ≡ true → s.has_reference ≡ false → length b ≡ 4 + s.header.parameters * 4 → reference_frame s b ≡ Ok t → Next s t (2 ∷ b)
  unfolding reference_frame seen_lines transition_lines model_row_lines
  reference-next h r size e =
      let p = passed-found (reference_fits (reference_of s.header b)) (with_reference s (reference_of s.header b)) t _ e in
      let ts = o.no_transitions r in
      let rs = o.no_rows r in
      rw (← p.1)
      (record {
        written = rw (r, ts, rs, reference-from s.header b bytes size) (second (header_part s.has_header s.header) (line_of (2 ∷ b)));
        ordered = record {
          headless = λ (e : s.has_header ≡ false). not-both (sym e ∙ h);
          no_transitions = λ e. ts;
          no_rows = λ e. rs;
          rows_last = λ e. rs;
          size = λ e. length-map (from 0 (suc s.header.parameters)) (λ i. signed (word b (i * 4))) ∙ length_from 0 (suc s.header.parameters);
        };
      })

  transition_next : s.has_reference ≡ true → length s.transitions < s.header.transitions → length b ≡ 4 → transition_frame s b ≡ Ok t → Next s t (4 ∷ b)
  unfolding transition_frame seen_lines model_row_lines
  transition_next r h size e =
      let p = passed-found (transition_declared s.header (transition_of b)) (with_transition s (transition_of b)) t _ e in
      let rs = o.rows_last h in
      rw (← p.1)
      (record {
        written =
            rw (rs, transition_more s.transitions (transition_of b), transition_from b size)
            (third (header_part s.has_header s.header) (reference_part s.has_reference s.reference) (transition_lines s.transitions) (line_of (4 ∷ b)));
        ordered = record {
          headless = o.headless;
          no_transitions = λ (e : s.has_reference ≡ false). not-both (sym e ∙ r);
          no_rows = λ e. rs;
          rows_last = λ e. rs;
          size = o.size;
        };
      })

  row-after : s.has_reference ≡ true → length s.transitions ≡ s.header.transitions → model_row_bytes (row_of b) ≡ b → Next s (with_row s (row_of b)) (3 ∷ b)
  unfolding seen_lines
  row-after r h same = record {
    written =
        rw (row_more s.rows (row_of b), same)
        (fourth (header_part s.has_header s.header) (reference_part s.has_reference s.reference) (transition_lines s.transitions) (model_row_lines s.rows) (line_of (3 ∷ b)));
    ordered = record {
      headless = o.headless;
      no_transitions = o.no_transitions;
      no_rows = λ (e : s.has_reference ≡ false). not-both (sym e ∙ r);
      rows_last = λ (e : length s.transitions < s.header.transitions). absurd (omega arith);
      size = o.size;
    };
  }

  row_next : s.has_reference ≡ true → length s.transitions ≡ s.header.transitions → length b ≡ 4 + term_count b * 5 → row_frame s b ≡ Ok t → Next s t (3 ∷ b)
  unfolding row_frame
  row_next r h size e =
      split (row_declared s.header b) _ _ (Ok t) e
      (λ d e. let p = passed-found (terms_fit b) (with_row s (row_of b)) t _ e in rw (← p.1) (row-after r h (row_from s.header b few.sound bytes size d p.0)))
      (λ d e. refused-not e)

-- ---- a frame by its kind
negated : (a : Bool) → not a ≡ true → a ≡ false
negated true e = sym e
negated false e = refl

module _ (s : Seen) (few : Few s) (o : Ordered s) (b : List ℕ) (bytes : All Byte b) (t : Seen) where
  by_kind : (kind : ℕ) → 1 ≤ kind → kind ≤ 4 → (s.has_header || eqb kind 1) ≡ true → length b ≡ due_length (declared (progress_of s)) kind (term_count b) → is_due (progress_of s) kind ≡ true →
      content s kind b ≡ Ok t → Next s t (kind ∷ b)
  unfolding due_length content
  by_kind zero low high h size due e = absurd (omega arith)
  by_kind (suc zero) low high h size due e = header-next s few o b bytes t (negated s.has_header (sym (due-is s 1) ∙ due)) size e
  by_kind (suc (suc zero)) low high h size due e =
      let k = or_left s.has_header h in
      reference-next s few o b bytes t k (negated s.has_reference (sym (due-is s 2) ∙ due)) (rw (declared-is s k) at size) e
  by_kind (suc (suc (suc zero))) low high h size due e =
      let d = rw (declared-is s (or_left s.has_header h)) at (sym (due-is s 3) ∙ due) in
      let rest = and_right s.has_reference _ d in
      row_next s few o b bytes t (and_left s.has_reference _ d)
      (eqb-true (length s.transitions) s.header.transitions (and_left (eqb (length s.transitions) s.header.transitions) _ rest)) size e
  by_kind (suc (suc (suc (suc zero)))) low high h size due e =
      let d = rw (declared-is s (or_left s.has_header h)) at (sym (due-is s 4) ∙ due) in
      transition_next s few o b bytes t (and_left s.has_reference _ d) (ltb-true (length s.transitions) s.header.transitions (and_right s.has_reference _ d)) size e
  by_kind (suc (suc (suc (suc (suc n))))) low high h size due e = absurd (omega arith)

frame-next : (s : Seen) (bs : List ℕ) (t : Seen) → Few s → Ordered s → All Byte bs → frame s bs ≡ Ok t → Next s t bs
unfolding frame
frame-next s [] t f o a e = refused-not e
frame-next s (kind ∷ b) t f o a e =
    go (is_known kind) (s.has_header || eqb kind 1) (eqb (length b) (due_length (declared (progress_of s)) kind (term_count b))) (is_due (progress_of s) kind) refl refl refl refl (rw placed-is at e)
  where
    go : (x y z d : Bool) → is_known kind ≡ x → (s.has_header || eqb kind 1) ≡ y → eqb (length b) (due_length (declared (progress_of s)) kind (term_count b)) ≡ z → is_due (progress_of s) kind ≡ d →
        passed (cond x (cond y (cond z (cond d (Ok tt) (Err Misplaced)) (Err NoFrame)) (Err Misplaced)) (Err NoFrame)) (content s kind b) ≡ Ok t → Next s t (kind ∷ b)
    go true true true true k h l d e =
        by_kind s f o b (all_tail a) t kind (leb-true 1 kind (and_left (leb 1 kind) (leb kind 4) k)) (leb-true kind 4 (and_right (leb 1 kind) (leb kind 4) k)) h
        (eqb-true (length b) (due_length (declared (progress_of s)) kind (term_count b)) l) d e
    go true true true false k h l d e = refused-not e
    go true true false w k h l d e = refused-not e
    go true false z w k h l d e = refused-not e
    go false y z w k h l d e = refused-not e

-- ---- all lines
record Lined (s t : Seen) (ls : List (List ℕ)) : Type 0 where
  written : seen_lines t ≡ seen_lines s ++ unlines ls
  few : Few t
  ordered : Ordered t

module _ (s : Seen) (f : Few s) (o : Ordered s) (l : List ℕ) where
  line-next : (t : Seen) → line s l ≡ Ok t → Lined s t (l ∷ [])
  unfolding line unlines line_of
  line-next t e =
      let p = then_found (bytes_of l) (frame s) t e in
      let q = bytes-from l p.mid p.first in
      let n = frame-next s p.mid t f o q.1 p.second in
      record {
        written = n.written ∙ ap (λ (x : List ℕ). seen_lines s ++ (x ++ (10 ∷ []))) q.0 ∙ ap (λ (x : List ℕ). seen_lines s ++ x) (sym (append-nil (l ++ (10 ∷ []))));
        few = few-frame s p.mid t f p.second;
        ordered = n.ordered;
      }

lines_join : (s t u : Seen) (l : List ℕ) (ls : List (List ℕ)) → Lined s t (l ∷ []) → Lined t u ls → Lined s u (l ∷ ls)
unfolding unlines
lines_join s t u l ls p q = record {
  written =
      q.written ∙ ap (λ (x : List ℕ). x ++ unlines ls) (p.written ∙ ap (λ (x : List ℕ). seen_lines s ++ x) (append-nil (l ++ (10 ∷ []))))
      ∙ append_assoc (seen_lines s) (l ++ (10 ∷ [])) (unlines ls);
  few = q.few;
  ordered = q.ordered;
}

lines_next : (ls : List (List ℕ)) (s t : Seen) → Few s → Ordered s → all_lines s ls ≡ Ok t → Lined s t ls
unfolding all_lines unlines
lines_next [] s t f o e = rw (← found-same e) (record { written = sym (append-nil (seen_lines s)); few = f; ordered = o })
lines_next (l ∷ ls) s t f o e =
    let p = then_found (line s l) (λ u. all_lines u ls) t e in
    let n = line-next s f o l p.mid p.first in
    lines_join s p.mid t l ls n (lines_next ls p.mid t n.few n.ordered p.second)

-- ---- what was read is in the tables
take-padded : {A : Type 0} (n : ℕ) (d : A) (l : List A) → length l ≤ n → take (length l) (padded n d l) ≡ l
unfolding padded
take-padded n d [] h = refl
take-padded zero d (x ∷ l) h = absurd (omega arith)
take-padded (suc n) d (x ∷ l) h = ap {B = List _} (λ t. x ∷ t) (take-padded n d l (omega arith))

reference-whole : (r : List ℤ) (n : ℕ) → length r ≡ suc n → n ≤ 8 → reference_list (reference_table r) n ≡ r
reference-whole [] n e h = absurd (omega arith)
reference-whole (z ∷ l) n e h = table_list z l n (omega arith) h

so_headed : (a b : Bool) → (a ≡ false → b ≡ false) → b ≡ true → a ≡ true
so_headed true b f e = refl
so_headed false b f e = sym (f refl) ∙ e

tables_file : (s : Seen) → Few s → Ordered s → is_complete s ≡ true → file_of (tables s) ≡ seen_lines s
unfolding file_of tables seen_lines
tables_file s f o c =
    let r = and_left s.has_reference (eqb (length s.transitions) s.header.transitions) c in
    let n = eqb-true (length s.transitions) s.header.transitions (and_right s.has_reference (eqb (length s.transitions) s.header.transitions) c) in
    let h = so_headed s.has_header s.has_reference o.headless r in
    let ts : take s.header.transitions (padded 64 zero_transition s.transitions) ≡ s.transitions =
    ap (λ (i : ℕ). take i (padded 64 zero_transition s.transitions)) (sym n) ∙ take-padded 64 zero_transition s.transitions f.transitions in
    rw (h, r, ts, take-padded set_rows zero_row s.rows f.rows, reference-whole s.reference s.header.parameters (o.size r) f.sound.parameters)

-- ---- the whole file
few-none : Few nothing
few-none = record { sound = record { clocks = omega arith; parameters = omega arith; transitions = omega arith }; transitions = omega arith; rows = omega arith; headed = λ (e : false ≡ true). not-both e }

ordered-none : Ordered nothing
ordered-none = record { headless = λ e. refl; no_transitions = λ e. refl; no_rows = λ e. refl; rows_last = λ e. refl; size = λ (e : false ≡ true). not-both e }

seen_none : seen_lines nothing ≡ []
unfolding seen_lines transition_lines model_row_lines
seen_none = refl

at_end_file : (left : List ℕ) (s : Seen) (m : Model) → Few s → Ordered s → at_end left s ≡ Ok m → (left ≡ []) × (seen_lines s ≡ file_of m)
at_end_file [] s m f o e = let p = passed-found (is_complete s) (tables s) m _ e in (refl, sym (tables_file s f o p.0) ∙ ap file_of p.1)
at_end_file (c ∷ cs) s m f o e = refused-not e

-- a file that gives these tables is the one that is written for them
pub read_file : (input : List ℕ) (m : Model) → read input ≡ Ok m → input ≡ file_of m
unfolding read
read_file input m e =
    let p = taken_then (leb (length input) input_limit) e in
    let q = then_found (all_lines nothing (lines input).ended) (at_end (lines input).left) m p in
    let n = lines_next (lines input).ended nothing q.mid few-none ordered-none q.first in
    let z = at_end_file (lines input).left q.mid m n.few n.ordered q.second in
    let w : unlines (lines input).ended ≡ seen_lines q.mid = sym (n.written ∙ ap (λ (l : List ℕ). l ++ unlines (lines input).ended) seen_none) in
    sym (lines-whole input) ∙ ap (λ (l : List ℕ). unlines (lines input).ended ++ l) z.0 ∙ append-nil (unlines (lines input).ended) ∙ w ∙ z.1
  where
    taken_then : (b : Bool) → cond b (and_then (all_lines nothing (lines input).ended) (at_end (lines input).left)) (Err NoFrame) ≡ Ok m →
        and_then (all_lines nothing (lines input).ended) (at_end (lines input).left) ≡ Ok m
    taken_then true e = e
    taken_then false e = refused-not e

-- a file that is accepted is determined by its tables
pub determined : (a b : List ℕ) (m : Model) → read a ≡ Ok m → read b ≡ Ok m → a ≡ b
determined a b m e f = read_file a m e ∙ sym (read_file b m f)
