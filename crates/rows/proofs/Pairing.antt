-- Pairing two rows whose entries at v have opposite signs: the pair follows from the two and does not name v. Assumes nothing.
use mathlib.Core.Path.{◌≡◌, sym, ◌∙◌}
use mathlib.Core.List.{List}
use Prim.Native.Nat.{ℕ}
use lib.ListN.{length}
use lib.IntN.{ℤ, pos, neg_ℤ, ◌+ℤ◌, ◌*ℤ◌, +ℤ_invl, *ℤ_comm}
use Rattle.integers.proofs.Whole.{neg-*ℤ, IsPos}
use Rattle.rows.specs.declared.Row.{Row}
use Rattle.rows.specs.Rows.{at, dot, times, paired, Under, Holds}
use Rattle.entries.proofs.Sums.{at-plus, at-times, length-plus, length-times}
use Rattle.rows.proofs.Sign.{under_scale, under_or, under_or_left, under_or_right}
use Rattle.rows.proofs.Meaning.{dot-plus, dot-times, dot_blind, rest, rest-plus, rest-times}

pub paired_at : (v : ℕ) (r s : Row) (i : ℕ) → at (paired v r s).entries i ≡ neg_ℤ (at s.entries v) *ℤ at r.entries i +ℤ at r.entries v *ℤ at s.entries i
paired_at v r s i = at-plus _ _ i ∙ simp at-times

pub paired_blind : (v : ℕ) (r s : Row) → at (paired v r s).entries v ≡ pos 0
paired_blind v r s =
    paired_at v r s v ∙ rw (neg-*ℤ, *ℤ_comm (at r.entries v) (at s.entries v)) (+ℤ_invl (at s.entries v *ℤ at r.entries v))

pub paired-dot : (v : ℕ) (r s : Row) (p : List ℤ) → dot (paired v r s).entries p ≡ neg_ℤ (at s.entries v) *ℤ dot r.entries p +ℤ at r.entries v *ℤ dot s.entries p
paired-dot v r s p = dot-plus _ _ p ∙ simp dot-times

-- what it comes to without v
pub paired-rest : (v : ℕ) (r s : Row) (p : List ℤ) → dot (paired v r s).entries p ≡ neg_ℤ (at s.entries v) *ℤ rest v r.entries p +ℤ at r.entries v *ℤ rest v s.entries p
paired-rest v r s p = dot_blind v (paired v r s).entries p (paired_blind v r s) ∙ rest-plus v _ _ p ∙ simp rest-times

-- where it holds it is below zero if either row is strict
pub paired-left : (v : ℕ) (r s : Row) (p : List ℤ) → Holds p (paired v r s) → Under r.strict (dot (paired v r s).entries p)
paired-left v r s p h = under_or_left r.strict s.strict _ h

pub paired-right : (v : ℕ) (r s : Row) (p : List ℤ) → Holds p (paired v r s) → Under s.strict (dot (paired v r s).entries p)
paired-right v r s p h = under_or_right r.strict s.strict _ h

-- it follows from the two
pub paired-holds : (v : ℕ) (r s : Row) (p : List ℤ) → IsPos (at r.entries v) → IsPos (neg_ℤ (at s.entries v)) → Holds p r → Holds p s → Holds p (paired v r s)
paired-holds v r s p hr hs h k = rw paired-dot (under_or r.strict s.strict _ _ (under_scale hs r.strict _ h) (under_scale hr s.strict _ k))

-- two rows of one width give a row of that width
pub paired-wide : (v w : ℕ) (r s : Row) → length r.entries ≡ w → length s.entries ≡ w → length (paired v r s).entries ≡ w
paired-wide v w r s e f =
    length-plus (times _ r.entries) (times _ s.entries) (length-times _ r.entries ∙ e ∙ sym (length-times _ s.entries ∙ f))
    ∙ length-times _ r.entries ∙ e
