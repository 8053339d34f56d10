-- How far reading has come: what has been read, its tables, and the rest of the input. Assumes nothing.
use mathlib.Core.Path.{◌≡◌, refl, sym, ap, ◌∙◌}
use mathlib.Core.Bool.{Bool, true, false, not, cond, ◌&&◌, ◌||◌}
use mathlib.Core.List.{List, [], ◌∷◌, ◌++◌}
use Prim.Native.Nat.{ℕ, zero, suc, ◌+◌, ◌*◌, ◌≤◌, ◌<◌}
use native.Mathlib.Omega.{arith}
use borrow.Author.Tests.{le-leb, lt-leb, ltb-true}
use lib.Dec.{ltb, eqb}
use lib.ListN.{length, take, drop, set, replicate, length-append, length-drop}
use lib.Seq.{ext_get_or}
use lib.IntN.{ℤ, pos}
use Rattle.std.specs.Array.{AllOfLen}
use Rattle.std.proofs.lemmas.List.{get_or-replicate}
use Rattle.models.specs.declared.Reference.{Reference}
use Rattle.integers.proofs.Tests.{and_right, not-both}
use Rattle.rows.specs.Rows.{set_rows}
use Rattle.sets.specs.Outcomes.{Result, Ok, Err, and_then}
use Rattle.sets.specs.declared.Refusal.{Refusal}
use Rattle.sets.specs.declared.Refusal.TheVariants.{NoFrame, Misplaced, Undeclared, WrongTerms}
use Rattle.sets.proofs.Results.{refused-not, found-same}
use Rattle.models.specs.declared.Header.{Header}
use Rattle.models.specs.declared.ModelRow.{ModelRow}
use Rattle.models.specs.declared.Transition.{Transition}
use Rattle.models.specs.Automaton.{padded}
use Rattle.models.specs.Acceptance.{header_fits, reference_fits, transition_declared}
use Rattle.models.proofs.Accepted.{clocks-within, parameters-within, transitions-within}
use Rattle.frames.specs.declared.Progress.{Progress}
use Rattle.frames.specs.declared.Frame.{Frame}
use Rattle.std.specs.Prelude.{Option, Some, None}
use Rattle.std.specs.Option.{ok_or}
use Rattle.frames.specs.Hex.{lines, first_bytes}
use Rattle.frames.specs.Reading.{Seen, nothing, progress_of, declared, header_of, reference_of, transition_of, row_of, term_count, is_known, due_length, is_due, passed, row_declared, terms_fit, with_header, with_reference, with_transition, with_row, header_frame, reference_frame, transition_frame, row_frame, content, frame, all_lines, tables, zero_transition, zero_row, is_complete, input_limit, read}
use Rattle.frames.specs.Steps.{frame_limit, Decoded, Sound, after, more_transitions, more_rows, Met, Told, finished}
use Rattle.frames.proofs.Placing.{or_left, declared-few, due-is, placed-is}
use Rattle.frames.proofs.Splitting.{remaining, goes_on, front_length, only_no_frame}
use Rattle.frames.proofs.Taking.{LineIs, good_line, bad_line, TakenAs, taken_frame, refused-frame}

-- ---- what is taken fits the tables
pub record Few (s : Seen) : Type 0 where
  pub sound : Sound s.header
  pub transitions : length s.transitions ≤ 64
  pub rows : length s.rows ≤ set_rows
  pub headed : s.has_reference ≡ true → s.has_header ≡ true

pub passed-found : {A : Type 0} (b : Bool) (x t : A) (q : Refusal) → cond b (Ok x) (Err q) ≡ Ok t → (b ≡ true) × (x ≡ t)
passed-found true x t q e = (refl, found-same e)
passed-found false x t q e = refused-not e

pub sound-header : (h : Header) → header_fits h ≡ true → Sound h
sound-header h e = record { clocks = clocks-within h e; parameters = parameters-within h e; transitions = transitions-within h e }

module _ (s : Seen) (f : Few s) (b : List ℕ) (t : Seen) where
  few-header : header_frame s b ≡ Ok t → Few t
  unfolding header_frame
  few-header e =
      let p = passed-found (header_fits (header_of b)) (with_header s (header_of b)) t _ e in
      rw (← p.1) (record { sound = sound-header (header_of b) p.0; transitions = f.transitions; rows = f.rows; headed = λ e. refl })

  few-reference : s.has_header ≡ true → reference_frame s b ≡ Ok t → Few t
  unfolding reference_frame
  few-reference h e =
      let p = passed-found (reference_fits (reference_of s.header b)) (with_reference s (reference_of s.header b)) t _ e in
      rw (← p.1) (record { sound = f.sound; transitions = f.transitions; rows = f.rows; headed = λ e. h })

  few_transition : length s.transitions < s.header.transitions → transition_frame s b ≡ Ok t → Few t
  unfolding transition_frame
  few_transition h e =
      let p = passed-found (transition_declared s.header (transition_of b)) (with_transition s (transition_of b)) t _ e in
      rw (← p.1) (record { sound = f.sound; transitions = omega (arith, length-append s.transitions (transition_of b ∷ []), f.sound.transitions); rows = f.rows; headed = f.headed })

  few-row : length s.rows < set_rows → row_frame s b ≡ Ok t → Few t
  unfolding row_frame
  few-row h e = go (row_declared s.header b) e
    where
      go : (d : Bool) → cond d (cond (terms_fit b) (Ok (with_row s (row_of b))) (Err WrongTerms)) (Err Undeclared) ≡ Ok t → Few t
      go true e =
          let p = passed-found (terms_fit b) (with_row s (row_of b)) t _ e in
          rw (← p.1) (record { sound = f.sound; transitions = f.transitions; rows = omega (arith, length-append s.rows (row_of b ∷ [])); headed = f.headed })
      go false e = refused-not e

  few-content : (kind : ℕ) → (s.has_header || eqb kind 1) ≡ true → is_due (progress_of s) kind ≡ true → content s kind b ≡ Ok t → Few t
  unfolding content
  few-content kind p d = go (eqb kind 1) (eqb kind 2) (eqb kind 4) p (sym (due-is s kind) ∙ d)
    where
      go : (x y z : Bool) → (s.has_header || x) ≡ true → (let n = (declared (progress_of s)).transitions in
          cond x (not s.has_header) (cond y (not s.has_reference) (cond z (s.has_reference && ltb (length s.transitions) n)
          (s.has_reference && (eqb (length s.transitions) n && ltb (length s.rows) set_rows))))) ≡ true →
          cond x (header_frame s b) (cond y (reference_frame s b) (cond z (transition_frame s b) (row_frame s b))) ≡ Ok t → Few t
      go true y z p d e = few-header e
      go false true z p d e = few-reference (or_left s.has_header p) e
      go false false true p d e =
          let h = ltb-true (length s.transitions) (declared (progress_of s)).transitions (and_right s.has_reference _ d) in
          few_transition (omega (arith, declared-few s)) e
      go false false false p d e = few-row (ltb-true (length s.rows) set_rows (and_right (eqb (length s.transitions) (declared (progress_of s)).transitions) _ (and_right s.has_reference _ d))) e

pub few-frame : (s : Seen) (bs : List ℕ) (t : Seen) → Few s → frame s bs ≡ Ok t → Few t
unfolding frame
few-frame s [] t f e = refused-not e
few-frame s (kind ∷ b) t f e =
    go (is_known kind) (s.has_header || eqb kind 1) (eqb (length b) (due_length (declared (progress_of s)) kind (term_count b))) (is_due (progress_of s) kind) refl refl (rw placed-is at e)
  where
    go : (x y z d : Bool) → (s.has_header || eqb kind 1) ≡ y → is_due (progress_of s) kind ≡ d →
        passed (cond x (cond y (cond z (cond d (Ok tt) (Err Misplaced)) (Err NoFrame)) (Err Misplaced)) (Err NoFrame)) (content s kind b) ≡ Ok t → Few t
    go true true true true h d e = few-content s f b t kind h d e
    go true true true false h d e = refused-not e
    go true true false w h d e = refused-not e
    go true false z w h d e = refused-not e
    go false y z w h d e = refused-not e

-- at the end of the input: whether a frame is missing, and else the tables
tables-finished : (s : Seen) → Few s → cond (is_complete s) (Ok (tables s)) (Err Misplaced) ≡ finished (progress_of s) (padded 64 zero_transition s.transitions) (padded set_rows zero_row s.rows)
unfolding tables
tables-finished s f = go s.has_reference refl
  where
    go : (b : Bool) → s.has_reference ≡ b → cond (is_complete s) (Ok (tables s)) (Err Misplaced) ≡ finished (progress_of s) (padded 64 zero_transition s.transitions) (padded set_rows zero_row s.rows)
    go true e = rw (e, f.headed e)
    go false e = rw e

-- ---- a table with one element more
pub padded-more : {A : Type 0} (n : ℕ) (d : A) (l : List A) (x : A) → length l < n → set (padded n d l) (length l) x ≡ padded n d (l ++ (x ∷ []))
unfolding padded
padded-more zero d l x h = absurd (omega arith)
padded-more (suc n) d [] x h = refl
padded-more (suc n) d (y ∷ l) x h = ap {B = List _} (λ t. y ∷ t) (padded-more n d l x (omega arith))

-- what a frame puts into the tables, each at the place behind those that were read
abbrev pub transitions_after : Frame → List Transition → ℕ → List Transition
transitions_after (Frame.Header h) ts i = ts
transitions_after (Frame.Reference r) ts i = ts
transitions_after (Frame.Row r) ts i = ts
transitions_after (Frame.Transition t) ts i = set ts i t

abbrev pub rows_after : Frame → List ModelRow → ℕ → List ModelRow
rows_after (Frame.Header h) rs i = rs
rows_after (Frame.Reference r) rs i = rs
rows_after (Frame.Row r) rs i = set rs i r
rows_after (Frame.Transition t) rs i = rs

pub no_transition : (f : Frame) (ts : List Transition) (i : ℕ) → ((t : Transition) → f ≡ Frame.Transition t → ⊥) → transitions_after f ts i ≡ ts
no_transition (Frame.Header h) ts i o = refl
no_transition (Frame.Reference r) ts i o = refl
no_transition (Frame.Row r) ts i o = refl
no_transition (Frame.Transition t) ts i o = absurd (o t refl)

pub no_row : (f : Frame) (rs : List ModelRow) (i : ℕ) → ((r : ModelRow) → f ≡ Frame.Row r → ⊥) → rows_after f rs i ≡ rs
no_row (Frame.Header h) rs i o = refl
no_row (Frame.Reference r) rs i o = refl
no_row (Frame.Row r) rs i o = absurd (o r refl)
no_row (Frame.Transition t) rs i o = refl

module _ {A : Type 0} (n : ℕ) (d : A) (l m ts : List A) (i : ℕ) (is : ts ≡ padded n d l) (next : i ≡ length l) (few : length m ≤ n) where
  kept : m ≡ l → ts ≡ padded n d m
  kept e = rw e is

  put : (x : A) → m ≡ l ++ (x ∷ []) → set ts i x ≡ padded n d m
  put x e = rw (is, next, e) (padded-more n d l x (omega (arith, ap length e, length-append l (x ∷ []))))

  room_for : (x : A) → m ≡ l ++ (x ∷ []) → i < n
  room_for x e = omega (arith, ap length e, length-append l (x ∷ []))

module _ (l m ts : List Transition) (i : ℕ) (is : ts ≡ padded 64 zero_transition l) (next : i ≡ length l) (few : length m ≤ 64) where
  transitions-put : (f : Frame) → m ≡ more_transitions f l → transitions_after f ts i ≡ padded 64 zero_transition m
  transitions-put (Frame.Header h) e = kept 64 zero_transition l m ts i is next few e
  transitions-put (Frame.Reference r) e = kept 64 zero_transition l m ts i is next few e
  transitions-put (Frame.Row r) e = kept 64 zero_transition l m ts i is next few e
  transitions-put (Frame.Transition t) e = put 64 zero_transition l m ts i is next few t e

module _ (l m rs : List ModelRow) (i : ℕ) (is : rs ≡ padded set_rows zero_row l) (next : i ≡ length l) (few : length m ≤ set_rows) where
  rows-put : (f : Frame) → m ≡ more_rows f l → rows_after f rs i ≡ padded set_rows zero_row m
  rows-put (Frame.Header h) e = kept set_rows zero_row l m rs i is next few e
  rows-put (Frame.Reference r) e = kept set_rows zero_row l m rs i is next few e
  rows-put (Frame.Row r) e = put set_rows zero_row l m rs i is next few r e
  rows-put (Frame.Transition t) e = kept set_rows zero_row l m rs i is next few e

-- ---- how far reading has come
pub record Reached (input : List ℕ) (p : Progress) (ts : List Transition) (rs : List ModelRow) (rest : List ℕ) : Type 0 where
  pub seen : Seen
  pub counted : progress_of seen ≡ p
  pub transitions : ts ≡ padded 64 zero_transition seen.transitions
  pub rows : rs ≡ padded set_rows zero_row seen.rows
  pub few : Few seen
  pub within : length rest ≤ length input
  pub same : remaining nothing input ≡ remaining seen rest

pub reached_none : (input : List ℕ) → Reached input (progress_of nothing) (padded 64 zero_transition []) (padded set_rows zero_row []) input
reached_none input = record {
  seen = nothing;
  counted = refl;
  transitions = refl;
  rows = refl;
  few = record { sound = record { clocks = omega arith; parameters = omega arith; transitions = omega arith }; transitions = omega arith; rows = omega arith; headed = λ (e : false ≡ true). not-both e };
  within = omega arith;
  same = refl;
}

-- what the code begins with
same-transition : (a b c d a' b' c' d' : ℕ) → a ≡ a' → b ≡ b' → c ≡ c' → d ≡ d' →
    ◌≡◌ {A = Transition} (record { source = a; action = b; target = c; resets = d }) (record { source = a'; action = b'; target = c'; resets = d' })
same-transition a b c d a' b' c' d' e f g h = rw (e, f, g, h)

same-row : (a b c a' b' c' : ℕ) (l l' : List ℤ) → a ≡ a' → b ≡ b' → c ≡ c' → l ≡ l' →
    ◌≡◌ {A = ModelRow} (record { kind = a; owner = b; strict = c; entries = l }) (record { kind = a'; owner = b'; strict = c'; entries = l' })
same-row a b c a' b' c' l l' e f g h = rw (e, f, g, h)

same-progress : (h h' : Option Header) (r r' : Option Reference) (t t' n n' : ℕ) → h ≡ h' → r ≡ r' → t ≡ t' → n ≡ n' →
    ◌≡◌ {A = Progress} (record { header = h; reference = r; transitions = t; rows = n }) (record { header = h'; reference = r'; transitions = t'; rows = n' })
same-progress h h' r r' t t' n n' e f g k = rw (e, f, g, k)

pub begins : (input : List ℕ) (p : Progress) (t : Transition) (r : ModelRow) →
    (p.header ≡ None) × ((p.reference ≡ None) × ((p.transitions ≡ 0) × (p.rows ≡ 0))) →
    (t.source ≡ 0) × ((t.action ≡ 0) × ((t.target ≡ 0) × (t.resets ≡ 0))) →
    (r.kind ≡ 0) × ((r.owner ≡ 0) × ((r.strict ≡ 0) × AllOfLen (λ z. z ≡ pos 0) r.entries 16)) →
    Reached input p (padded 64 t []) (padded set_rows r []) input
begins input p t r d e f =
    let is-p : p ≡ progress_of nothing = same-progress _ _ _ _ _ _ _ _ d.0 d.1.0 d.1.1.0 d.1.1.1 in
    let is-t : t ≡ zero_transition = same-transition _ _ _ _ _ _ _ _ e.0 e.1.0 e.1.1.0 e.1.1.1 in
    let zeros : r.entries ≡ replicate 16 (pos 0) = ext_get_or (pos 0) r.entries (replicate 16 (pos 0)) f.1.1.1.long (λ i h. let k : i < 16 = omega (arith, f.1.1.1.long) in f.1.1.1.at i (pos 0) k ∙ sym (get_or-replicate 16 i (pos 0) (pos 0) k)) in
    let is-r : r ≡ zero_row = same-row _ _ _ _ _ _ _ _ f.0 f.1.0 f.1.1.0 zeros in
    rw (is-p, is-t, is-r) (reached_none input)

none-left : (s : Seen) (rest : List ℕ) → length rest ≡ 0 → remaining s rest ≡ cond (is_complete s) (Ok (tables s)) (Err Misplaced)
unfolding remaining lines all_lines and_then
none-left s [] h = refl
none-left s (c ∷ cs) h = absurd (omega arith)

module _ (input : List ℕ) (p : Progress) (ts : List Transition) (rs : List ModelRow) (rest : List ℕ) (r : Reached input p ts rs rest) where
  transitions-next : p.transitions ≡ length r.seen.transitions
  transitions-next = sym (ap (λ (q : Progress). q.transitions) r.counted)

  rows_next : p.rows ≡ length r.seen.rows
  rows_next = sym (ap (λ (q : Progress). q.rows) r.counted)

  -- at the end of the input
  pub ends-here : length rest ≡ 0 → remaining nothing input ≡ finished p ts rs
  ends-here h =
      let tables : finished p (padded 64 zero_transition r.seen.transitions) (padded set_rows zero_row r.seen.rows) ≡ finished p ts rs = rw (r.transitions, r.rows) in
      r.same ∙ none-left r.seen rest h ∙ tables-finished r.seen r.few
      ∙ ap (λ (q : Progress). finished q (padded 64 zero_transition r.seen.transitions) (padded set_rows zero_row r.seen.rows)) r.counted ∙ tables

  -- a line that is none ends it
  pub ends-broken : 0 < length rest → first_bytes rest ≡ Err NoFrame → remaining nothing input ≡ Err NoFrame
  unfolding and_then
  ends-broken h e = r.same ∙ goes_on r.seen rest h ∙ (rw e)

  module _ (h : 0 < length rest) (bs : List ℕ) (e : first_bytes rest ≡ Ok bs) where
    line-next : remaining nothing input ≡ and_then (frame r.seen bs) (λ t. remaining t (drop (length bs * 2 + 1) rest))
    unfolding and_then
    line-next = r.same ∙ goes_on r.seen rest h ∙ (rw e)

    -- and so does a frame that is refused
    pub ends-refused : (q : Refusal) → frame r.seen bs ≡ Err q → remaining nothing input ≡ Err q
    unfolding and_then
    ends-refused q g = line-next ∙ (rw g)

    -- a frame that is taken leads on
    module _ (t : Seen) (f : Frame) (g : frame r.seen bs ≡ Ok t) (m : Met f r.seen t) where
      few-next : Few t
      few-next = few-frame r.seen bs t r.few g

      pub reached_more : (n : ℕ) → length bs ≡ n → Reached input (after p f) (transitions_after f ts p.transitions) (rows_after f rs p.rows) (drop (n * 2 + 1) rest)
      unfolding and_then
      reached_more n count = rw (← count) (record {
        seen = t;
        counted = sym m.counted ∙ ap (λ (q : Progress). after q f) r.counted;
        transitions = transitions-put r.seen.transitions t.transitions ts p.transitions r.transitions transitions-next few-next.transitions f m.transitions;
        rows = rows-put r.seen.rows t.rows rs p.rows r.rows rows_next few-next.rows f m.rows;
        few = few-next;
        within = omega (arith, r.within, length-drop (length bs * 2 + 1) rest);
        same = line-next ∙ (rw g);
      })

      -- a transition or a row that is taken has its place in the table
      pub transition_slot : (u : Transition) → f ≡ Frame.Transition u → p.transitions < 64
      transition_slot u k = room_for 64 zero_transition r.seen.transitions t.transitions ts p.transitions r.transitions transitions-next few-next.transitions u (rw k at m.transitions)

      pub row_slot : (u : ModelRow) → f ≡ Frame.Row u → p.rows < set_rows
      row_slot u k = room_for set_rows zero_row r.seen.rows t.rows rs p.rows r.rows rows_next few-next.rows u (rw k at m.rows)

pub read_short : (input : List ℕ) → length input ≤ input_limit → read input ≡ remaining nothing input
unfolding read remaining
read_short input h = rw (le-leb (length input) input_limit h)

pub read-long : (input : List ℕ) → input_limit < length input → read input ≡ Err NoFrame
unfolding read
read-long input h = rw (lt-leb (length input) input_limit h)

-- for `read`, whose answers name no test of the limit: an edit of it is then refused for what it says
pub ruleset too_long = read-long

-- ---- a turn of the reader: the line at a place, and what is taken from the frame that it is
module _ (input : List ℕ) (p : Progress) (ts : List Transition) (rs : List ModelRow) (rest : List ℕ) (r : Reached input p ts rs rest) (h : 0 < length rest) (short : length input ≤ input_limit) where
  all : read input ≡ remaining nothing input
  all = read_short input short

  pub broken : (to : List ℕ) (o : Option ℕ) (q : Refusal) → Err q ≡ ok_or o NoFrame → Decoded (first_bytes rest) to o → Err q ≡ read input
  broken to None q e d =
      let none : remaining nothing input ≡ Err NoFrame = ends-broken input p ts rs rest r h (bad_line (first_bytes rest) to (only_no_frame rest) d) in
      let k : q ≡ NoFrame = cc in
      ap Err k ∙ sym (all ∙ none)
  broken to (Some n) q e d = refused-not e

  line-read : (to : List ℕ) (o : Option ℕ) (n : ℕ) → Ok n ≡ ok_or o NoFrame → Decoded (first_bytes rest) to o → LineIs (first_bytes rest) to n
  line-read to None n e d = refused-not (sym e)
  line-read to (Some m) n e d = let is : n ≡ m = cc in rw is (good_line (first_bytes rest) to m d)

  module _ (to : List ℕ) (o : Option ℕ) (n : ℕ) (e : Ok n ≡ ok_or o NoFrame) (d : Decoded (first_bytes rest) to o) where
    line : LineIs (first_bytes rest) to n
    line = line-read to o n e d

    pub next-within : n * 2 + 1 ≤ length rest
    next-within = omega (arith, front_length rest line.bytes line.is, line.count)

    module _ (f : Result Frame) (told : (s : Seen) (bs : List ℕ) → progress_of s ≡ p → length bs ≡ n → take n to ≡ take frame_limit bs → Told f s (frame s bs)) where
      this : Told f r.seen (frame r.seen line.bytes)
      this = told r.seen line.bytes r.counted line.count line.kept

      pub refused-here : (q : Refusal) → f ≡ Err q → Err q ≡ read input
      refused-here q is = sym (all ∙ ends-refused input p ts rs rest r h line.bytes line.is q (refused-frame r.seen (frame r.seen line.bytes) q (rw is at this)))

      module _ (g : Frame) (is : f ≡ Ok g) where
        taken : TakenAs g r.seen (frame r.seen line.bytes)
        taken = taken_frame g r.seen (frame r.seen line.bytes) (rw is at this)

        pub transition-fits : (t : Transition) → g ≡ Frame.Transition t → p.transitions < 64
        transition-fits = transition_slot input p ts rs rest r h line.bytes line.is taken.seen g taken.is taken.met

        pub row-fits : (t : ModelRow) → g ≡ Frame.Row t → p.rows < set_rows
        row-fits = row_slot input p ts rs rest r h line.bytes line.is taken.seen g taken.is taken.met

        pub reached-next : Reached input (after p g) (transitions_after g ts p.transitions) (rows_after g rs p.rows) (drop (n * 2 + 1) rest)
        reached-next = reached_more input p ts rs rest r h line.bytes line.is taken.seen g taken.is taken.met n line.count
