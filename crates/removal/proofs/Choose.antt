-- A number between the lower and the upper bounds, where every pair of them allows one. An upper bound u says c u + a u · t ≤ 0
-- (or < 0, where `s u`), a lower one c l − b l · t ≤ 0, with a u and b l above zero; t is x / k. Assumes nothing.
use mathlib.Core.Path.{◌≡◌}
use mathlib.Core.Bool.{Bool, true, false, ◌||◌}
use mathlib.Core.Logic.{◌⊎◌, inl, inr}
use mathlib.Core.List.{List, [], ◌∷◌}
use lib.IntN.{ℤ, pos, ◌+ℤ◌, ◌-ℤ◌, ◌*ℤ◌, neg_ℤ}
use lib.Signed.{◌≤ℤ◌, ◌<ℤ◌, ≤ℤ_refl}
use Rattle.integers.specs.Lists.{All, nil, cons}
use Rattle.integers.proofs.Lists.{all_head, all_tail, all_map, all-zip, all_flip}
use Rattle.integers.proofs.Whole.{ring, zed, add-fact, up_neg, dn-neg, IsPos, is_pos, pos-*, le_scale, le_unscale, total}
use Rattle.rows.specs.Rows.{Under}
use Rattle.rows.proofs.Sign.{under_scale, under-add, under_strict, under_or_left, under_or_right}

-- ---- on numbers
le_sub : (x y : ℤ) → x ≤ℤ y → (x -ℤ y) ≤ℤ pos 0
le_sub x y h = omega (zed, add-fact x (neg_ℤ y), up_neg y, dn-neg y)

neg-below : {x : ℤ} → IsPos x → neg_ℤ x <ℤ pos 0
neg-below (is_pos n) = omega zed

lt_le : (x y : ℤ) → x <ℤ y → x ≤ℤ y
lt_le x y h = omega zed

-- p / P ≤ q / Q ≤ r / R
cross_trans : {P Q R : ℤ} → IsPos P → IsPos Q → IsPos R → (p q r : ℤ) → (p *ℤ Q) ≤ℤ (q *ℤ P) → (q *ℤ R) ≤ℤ (r *ℤ Q) → (p *ℤ R) ≤ℤ (r *ℤ P)
cross_trans {P} {Q} {R} hP hQ hR p q r h k =
    let h₁ = le_scale hR _ _ h in
    let k₁ = le_scale hP _ _ k in
    let e₁ : R *ℤ (p *ℤ Q) ≡ Q *ℤ (p *ℤ R) = simp ring in
    let e₂ : R *ℤ (q *ℤ P) ≡ P *ℤ (q *ℤ R) = simp ring in
    let e₃ : P *ℤ (r *ℤ Q) ≡ Q *ℤ (r *ℤ P) = simp ring in
    le_unscale hQ _ _ (omega zed)

-- halfway between the tightest bounds, C / B and − g / a: at a lower bound (c, b) and at an upper one
mid_lower_eq : (a B b c C g : ℤ) → (pos 2 *ℤ (a *ℤ B)) *ℤ c -ℤ b *ℤ (C *ℤ a -ℤ g *ℤ B) ≡ a *ℤ (c *ℤ B -ℤ C *ℤ b) +ℤ B *ℤ (b *ℤ g +ℤ a *ℤ c)
mid_lower_eq a B b c C g = simp ring

mid_upper_eq : (a B b c C g : ℤ) → (pos 2 *ℤ (a *ℤ B)) *ℤ c +ℤ b *ℤ (C *ℤ a -ℤ g *ℤ B) ≡ B *ℤ (c *ℤ a -ℤ g *ℤ b) +ℤ a *ℤ (B *ℤ c +ℤ b *ℤ C)
mid_upper_eq a B b c C g = simp ring

mid_lower : {a B : ℤ} → IsPos a → IsPos B → (s : Bool) (b c C g : ℤ) → (c *ℤ B) ≤ℤ (C *ℤ b) → Under s (b *ℤ g +ℤ a *ℤ c) → Under s ((pos 2 *ℤ (a *ℤ B)) *ℤ c -ℤ b *ℤ (C *ℤ a -ℤ g *ℤ B))
mid_lower {a} {B} ha hB s b c C g h k = rw (mid_lower_eq a B b c C g) (under-add s _ _ (under_scale ha false _ (le_sub _ _ h)) (under_scale hB s _ k))

mid_upper : {a B : ℤ} → IsPos a → IsPos B → (s : Bool) (b c C g : ℤ) → (c *ℤ a) ≤ℤ (g *ℤ b) → Under s (B *ℤ c +ℤ b *ℤ C) → Under s ((pos 2 *ℤ (a *ℤ B)) *ℤ c +ℤ b *ℤ (C *ℤ a -ℤ g *ℤ B))
mid_upper {a} {B} ha hB s b c C g h k = rw (mid_upper_eq a B b c C g) (under-add s _ _ (under_scale hB false _ (le_sub _ _ h)) (under_scale ha s _ k))

-- one above the tightest lower bound C / B, and one below the tightest upper one
past_lower_eq : (B b c C : ℤ) → B *ℤ c -ℤ b *ℤ (C +ℤ B) ≡ (c *ℤ B -ℤ C *ℤ b) +ℤ neg_ℤ (b *ℤ B)
past_lower_eq B b c C = simp ring

past_upper_eq : (B b c C : ℤ) → B *ℤ c +ℤ b *ℤ neg_ℤ (C +ℤ B) ≡ (c *ℤ B -ℤ C *ℤ b) +ℤ neg_ℤ (b *ℤ B)
past_upper_eq B b c C = simp ring

past : {B b : ℤ} → IsPos B → IsPos b → (s : Bool) (c C : ℤ) → (c *ℤ B) ≤ℤ (C *ℤ b) → Under s ((c *ℤ B -ℤ C *ℤ b) +ℤ neg_ℤ (b *ℤ B))
past hB hb s c C h = under_strict s _ (under-add true _ _ (le_sub _ _ h) (neg-below (pos-* hb hB)))

-- ---- on lists: the tightest of several bounds c / e, by cross-multiplied comparison
module _ {A : Type 0} (c e : A → ℤ) where
  record Tightest (Q : A → Type 0) (l : List A) : Type 0 where
    it : A
    above : IsPos (e it)
    has : Q it
    tight : All (λ r. (c r *ℤ e it) ≤ℤ (c it *ℤ e r)) l

  better : {Q : A → Type 0} (x : A) (l : List A) → IsPos (e x) → Q x → All (λ r. IsPos (e r)) l → Tightest Q l → Tightest Q (x ∷ l)
  better {Q} x l p q ps t = test (total (c x *ℤ e t.it) (c t.it *ℤ e x))
    where
      test : ((c x *ℤ e t.it) ≤ℤ (c t.it *ℤ e x)) ⊎ ((c t.it *ℤ e x) <ℤ (c x *ℤ e t.it)) → Tightest Q (x ∷ l)
      test (inl h) = record { it = t.it; above = t.above; has = t.has; tight = cons h t.tight }
      test (inr h) = record {
        it = x;
        above = p;
        has = q;
        tight = cons (≤ℤ_refl _)
            (all_map (λ r k. cross_trans k.0 t.above p (c r) (c t.it) (c x) k.1 (lt_le _ _ h)) (all-zip ps t.tight));
      }

  tightest : {Q : A → Type 0} (x : A) (l : List A) → All (λ r. IsPos (e r)) (x ∷ l) → All Q (x ∷ l) → Tightest Q (x ∷ l)
  tightest x [] ps qs = record { it = x; above = all_head ps; has = all_head qs; tight = cons (≤ℤ_refl _) nil }
  tightest x (y ∷ l) ps qs = better x (y ∷ l) (all_head ps) (all_head qs) (all_tail ps) (tightest y l (all_tail ps) (all_tail qs))

module _ {A : Type 0} (s : A → Bool) (c a b : A → ℤ) where
  abbrev UpAt : ℤ → ℤ → A → Type 0
  UpAt k x u = Under (s u) (k *ℤ c u +ℤ a u *ℤ x)

  abbrev DnAt : ℤ → ℤ → A → Type 0
  DnAt k x l = Under (s l) (k *ℤ c l -ℤ b l *ℤ x)

  abbrev Meet : A → A → Type 0
  Meet u l = Under (s u || s l) (b l *ℤ c u +ℤ a u *ℤ c l)

  pub record Between (us ls : List A) : Type 0 where
    pub num : ℤ
    pub den : ℤ
    pub den_pos : IsPos den
    pub below_us : All (λ u. UpAt den num u) us
    pub above_ls : All (λ l. DnAt den num l) ls

  pub choose : (us ls : List A) → All (λ u. IsPos (a u)) us → All (λ l. IsPos (b l)) ls → All (λ u. All (λ l. Meet u l) ls) us → Between us ls
  choose [] [] pu pl m = record { num = pos 0; den = pos 1; den_pos = is_pos 0; below_us = nil; above_ls = nil }
  choose [] (l ∷ ls) pu pl m =
      let t = tightest c b l ls pl pl in
      record {
        num = c t.it +ℤ b t.it;
        den = b t.it;
        den_pos = t.above;
        below_us = nil;
        above_ls = all_map (λ r k. rw past_lower_eq (past t.above k.0 (s r) (c r) (c t.it) k.1)) (all-zip pl t.tight);
      }
  choose (u ∷ us) [] pu pl m =
      let t = tightest c a u us pu pu in
      record {
        num = neg_ℤ (c t.it +ℤ a t.it);
        den = a t.it;
        den_pos = t.above;
        below_us = all_map (λ r k. rw past_upper_eq (past t.above k.0 (s r) (c r) (c t.it) k.1)) (all-zip pu t.tight);
        above_ls = nil;
      }
  choose (u ∷ us) (l ∷ ls) pu pl m =
      let t = tightest c a u us pu m in
      let f = tightest c b l ls pl (all_flip (u ∷ us) (l ∷ ls) m) in
      record {
        num = c f.it *ℤ a t.it -ℤ c t.it *ℤ b f.it;
        den = pos 2 *ℤ (a t.it *ℤ b f.it);
        den_pos = pos-* (is_pos 1) (pos-* t.above f.above);
        below_us = all_map (λ r k. mid_upper t.above f.above (s r) (a r) (c r) (c f.it) (c t.it) k.0
            (under_or_left (s r) (s f.it) _ k.1)) (all-zip t.tight f.has);
        above_ls = all_map (λ r k. mid_lower t.above f.above (s r) (b r) (c r) (c f.it) (c t.it) k.0
            (under_or_right (s t.it) (s r) _ k.1)) (all-zip f.tight t.has);
      }
