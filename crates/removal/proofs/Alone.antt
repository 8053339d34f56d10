-- Removal called alone: the rows made a set, the variables removed, the stores cleared, and the part that is handed back. Assumes nothing.
use mathlib.Core.Path.{◌≡◌, refl, sym, ap, ◌∙◌}
use mathlib.Core.Bool.{Bool, true, false, not}
use mathlib.Core.List.{List, []}
use Prim.Native.Nat.{ℕ, ◌*◌, ◌≤◌}
use native.Mathlib.Omega.{arith}
use lib.ListN.{length, take}
use lib.IntN.{ℤ}
use denote.Ref.{Bor}
use Rattle.std.specs.Result.{result_and}
use Rattle.rows.specs.declared.Row.{Row}
use Rattle.rows.specs.Rows.{row_numbers, set_numbers}
use Rattle.sets.specs.declared.Refusal.{Refusal}
use Rattle.sets.specs.Outcomes.{Outcome, Ok, Err, Result, and_then}
use Rattle.sets.specs.Stores.{Joined, numbers_of, rows_at, zeroed, with_rows, Left}
use Rattle.sets.specs.Sets.{joined}
use Rattle.sets.proofs.Stores.{length-numbers_of, wide-rows_at, length-with_rows, take-with_rows, length-zeroed, touched_none}
use Rattle.sets.proofs.Results.{refused-not}
use Rattle.removal.specs.declared.Placed.{Placed}
use Rattle.removal.specs.Removal.{all_removed}
use Rattle.removal.specs.Alone.{pick, side_after, placed, placed_as, side, rows_placed, standing, Between, Moved, refused_at_once, alone, store_after, Tidied, answer_by, first_by, second_by, answer_of_alone, outcome_of, numbers_found, RemovedAlone, part_end, RemovedPart}
use Rattle.removal.proofs.AtOnce.{Accepted, accepted}
use Rattle.removal.proofs.Between.{MayStand, joined_may_stand, all_may_stand, left-first, moved-between, moved-again, moved-room, moved-tidied}
use Rattle.removal.proofs.Ends.{end_fits, none_taken}

module _ (count : ℕ) (vs : List ℕ) (a b : List ℤ) where
  -- refused at once: nothing changes
  pub alone-refused : (o : Outcome) (q : Refusal) → o ≡ refused_at_once count vs a b → o ≡ Err q → RemovedAlone count vs a b a b (Err q)
  alone-refused o q d f =
      let e : refused_at_once count vs a b ≡ Err q = sym d ∙ f in
      record {
        answer = ap (λ (o : Outcome). answer_by o count vs a) (sym e);
        first = ap (λ (o : Outcome). first_by o count vs a) (sym e);
        second = ap (λ (o : Outcome). second_by o count vs a b) (sym e);
      }

  module _ (none : refused_at_once count vs a b ≡ (Ok tt)) where
    ok : Accepted count vs a b
    ok = accepted count vs a b none

    made_stands : MayStand (joined (rows_at a 0 count) [])
    made_stands = joined_may_stand (rows_at a 0 count) (wide-rows_at a 0 count (omega (arith, ok.few, ok.first_long)))

    alone-stands : MayStand (alone count vs a)
    unfolding alone
    alone-stands = all_may_stand vs (joined (rows_at a 0 count) []) made_stands

    -- the rows were made a set
    module _ (a₁ : List ℤ) (c : Joined) (made : Left (joined (rows_at a 0 count) []) a a₁ c) where
      made_moved : Moved false (joined (rows_at a 0 count) []) a b a₁ b (placed_as false c)
      made_moved = left-first (joined (rows_at a 0 count) []) a b c made_stands a₁ ok.first_long made

      pub made_between : Between a₁ b (placed_as false c)
      made_between = moved-between false a b a₁ b (placed_as false c) (joined (rows_at a 0 count) []) made_stands ok.first_long ok.second_long made_moved

      pub accepted-moved : (a' b' : List ℤ) (r : Result Placed) →
          Moved (side_after (side (placed_as false c)) vs) (and_then (standing a₁ b (placed_as false c)) (all_removed vs)) a₁ b a' b' r →
          Moved (side_after false vs) (alone count vs a) a b a' b' r
      unfolding alone
      accepted-moved a' b' r m =
          moved-again (λ second. side_after second vs) (all_removed vs) false a b a₁ b a' b' (placed_as false c) r (joined (rows_at a 0 count) []) made_stands made_moved m

    -- or making them a set was refused
    pub made-refused : (a₁ : List ℤ) (q : Refusal) → Left (joined (rows_at a 0 count) []) a a₁ (Err q) → Moved (side_after false vs) (alone count vs a) a b a₁ b (Err q)
    unfolding alone and_then
    made-refused a₁ q h = go (joined (rows_at a 0 count) []) h
      where
        go : (x : Result (List Row)) → Left x a a₁ (Err q) → Moved (side_after false vs) (and_then x (all_removed vs)) a b a₁ b (Err q)
        go (Ok t) h = refused-not h.answer
        go (Err r) h = record { answer = ap (placed_as false) h.answer; front = tt; first_touched = h.store; second_touched = touched_none b }

    -- the variables were removed
    module _ (a' b' : List ℤ) (r : Result Placed) (moved : Moved (side_after false vs) (alone count vs a) a b a' b' r) where
      pub tidy-room : rows_placed r * row_numbers ≤ length (pick (side r) a' b')
      tidy-room = moved-room (side_after false vs) a b a' b' r ok.first_long ok.second_long (alone count vs a) alone-stands moved

      pub alone-found : (a'' b'' : List ℤ) → Tidied r a' b' a'' b'' → RemovedAlone count vs a b a'' b'' r
      alone-found a'' b'' t =
          let x = moved-tidied (side_after false vs) a b a' b' r ok.first_long ok.second_long (alone count vs a) alone-stands moved a'' b'' t in
          record {
            answer = moved.answer ∙ ap (λ (o : Outcome). answer_by o count vs a) (sym none);
            first = x.0 ∙ ap (λ (o : Outcome). first_by o count vs a) (sym none);
            second = x.1 ∙ ap (λ (o : Outcome). second_by o count vs a b) (sym none);
          }

-- ---- the part of the store that ended with the rows
found_here : (second : Bool) (t : List Row) (a b : List ℤ) → pick second (store_after (not second) (Ok t) a) (store_after second (Ok t) b) ≡ with_rows t (zeroed (pick second a b))
found_here true t a b = refl
found_here false t a b = refl

longer : (second : Bool) (a b : List ℤ) → set_numbers ≤ length a → set_numbers ≤ length b → set_numbers ≤ length (zeroed (pick second a b))
longer true a b l m = rw (length-zeroed b) m
longer false a b l m = rw (length-zeroed a) l

all_taken : (t : List Row) (s : List ℤ) → MayStand (Ok t) → set_numbers ≤ length s → take (part_end (length (with_rows t s)) (length t)) (with_rows t s) ≡ numbers_of t
all_taken t s g l =
    let k : length t * row_numbers ≤ length s = omega (arith, g.0.3) in
    let e : length (with_rows t s) ≡ length s = length-with_rows t s (rw (length-numbers_of g.0.2) k) in
    rw (e, ← end_fits (length s) (length t) g.0.3 k) (take-with_rows t s g.0.2)

-- the part that an answer speaks of
module _ (count : ℕ) (vs : List ℕ) (a b a' b' : List ℤ) (r : Result Placed) where
  abbrev Part : Result Placed → Type 0
  Part x = take (part_end (length (pick (side r) a' b')) (rows_placed r)) (pick (side r) a' b') ≡ numbers_found x count vs a

  part-found : (second : Bool) (x : Result (List Row)) → alone count vs a ≡ x → MayStand x → set_numbers ≤ length a → set_numbers ≤ length b →
      r ≡ placed second x → a' ≡ store_after (not second) x a → b' ≡ store_after second x b → Part (placed second x)
  part-found second (Ok t) e g l m p q s =
      rw (p, q, s, found_here second t a b, e) (all_taken t (zeroed (pick second a b)) g (longer second a b l m))
  part-found second (Err k) e g l m p q s = rw p (sym (none_taken (length (pick false a' b')) (pick false a' b')))

  part-numbers : RemovedAlone count vs a b a' b' r → Part (answer_of_alone count vs a b)
  part-numbers h = go (refused_at_once count vs a b) refl h.answer h.first h.second
    where
      go : (o : Outcome) → refused_at_once count vs a b ≡ o → r ≡ answer_by o count vs a → a' ≡ first_by o count vs a → b' ≡ second_by o count vs a b → Part (answer_by o count vs a)
      go (Ok _) e p q s =
          let ok = accepted count vs a b e in
          part-found (side_after false vs) (alone count vs a) refl (alone-stands count vs a b e) ok.first_long ok.second_long p q s
      go (Err k) e p q s = rw p (sym (none_taken (length (pick false a' b')) (pick false a' b')))

-- the outcome, the part, and where it lies
pub removed-part : (count : ℕ) (vs : List ℕ) (a b p : Bor (List ℤ)) (a' b' : List ℤ) (r : Result Placed) (o : Outcome) → RemovedAlone count vs a.now b.now a' b' r →
    o ≡ outcome_of r →
    p.now ≡ take (part_end (length (pick (side r) a' b')) (rows_placed r)) (pick (side r) a' b') →
    p.ref_ptr ≡ pick (side r) a.ref_ptr b.ref_ptr → RemovedPart count vs a b o p
removed-part count vs a b p a' b' r o h e f g =
    record {
      answer = e ∙ ap outcome_of h.answer;
      numbers = f ∙ part-numbers count vs a.now b.now a' b' r h;
      place = g ∙ ap (λ (q : Result Placed). pick (side q) a.ref_ptr b.ref_ptr) h.answer;
    }

-- the outcome as the code has it
pub outcome-and : (r : Result Placed) (o : Outcome) → o ≡ result_and r (Ok tt) → o ≡ outcome_of r
outcome-and (Ok s) o e = e
outcome-and (Err q) o e = e
