-- Values that meet the rules bound what policies earn: each half of the rules, of the values that are there, is the half of mdp_discount_rules.
use Rattle.std.proofs.Common.{◌≡◌, ℕ, ◌<◌, ◌≤◌, false, true≢false, List, [], ◌∷◌, Option, Some, None, length, slice_index, refl, sym, subst, ◌∙◌, arith}
use Rattle.std.specs.{List.{All}, Option.{IfSome}}
use Rattle.mdp_math.specs.{Rational.{ℚ, neg_ℚ, ◌+ℚ◌, ◌*ℚ◌, ◌-ℚ◌, ◌≤ℚ◌}, Power.{pow_ℚ}}
use Rattle.mdp_math.proofs.{Ring.{◌⊕◌, ⊖}, Linear.{linear, known}}
use Rattle.mdp_spec.specs.{Mdp.{Mdp, states_of, choices_at, choice_at, row_at, value_at}, Row.{IsMdp, row_sum}, Unit.{reward_of}}
use Rattle.mdp_spec.specs.{Tree.{Tree, IsStrategy, unfolded, is_marked}, Bounds.{reward_at, finite_part, infinite}, RewardRules.{StaysFinite}}
use Rattle.mdp_spec.proofs.{Values.{part_of_some, finite_of_some, infinite_of_none}, Keeping.{Keeps, HasChoice, Follows, keeps_of_Fits, keeps_unfolded}}
use Rattle.mdp_rows.specs.{declared.dir.Dir.{Dir}, declared.dir.Dir.TheVariants.{Max, Min}, Better.{IsAsGood}}
use Rattle.mdp_discount_rules.specs.{Disc.{disc}, Bounds.{BetterByAtMost}, Rules.{IsFactor}}
use Rattle.mdp_discount_rules.proofs.{Directions.{NoBetter}, Discount.{half_by}}
use Rattle.mdp_discount_rules.specs.{BoundsRules.{left_for, Allows}, BoundsLaws.{RulesBetween}}
use Rattle.mdp_discount_rules.proofs.BoundsGreatest.{lower_near, upper_near}

-- where what is left is as good as the reward, the reward and what comes later are no better than the value
no_better_of_left : (dir : Dir) (x q g : ℚ) → IsAsGood dir (x -ℚ q) g → NoBetter dir (g +ℚ q) x
no_better_of_left Max x q g h = linear 3 (λ x q g. g ⊕ q) (λ x q g. x) (λ x q g. known g (x ⊕ ⊖ q) ∷ []) refl x q g h
no_better_of_left Min x q g h = linear 3 (λ x q g. x) (λ x q g. g ⊕ q) (λ x q g. known (x ⊕ ⊖ q) g ∷ []) refl x q g h

module _ (m : Mdp) (r : ℕ) (f : ℚ) (known_ : IsMdp m) (factor : IsFactor f) (v : List (Option ℚ)) (k : ℚ)
    (small : (s : ℕ) → s < states_of m → (value_at (finite_part v) s ≤ℚ k) × (neg_ℚ (value_at (finite_part v) s) ≤ℚ k)) where
  -- a state whose value is there
  abbrev IsThere : ℕ → Type 0
  IsThere s = is_marked (infinite v) s ≡ false

  abbrev Covers : Dir → ℕ → ℕ → Type 0
  Covers dir s c =
      All (λ y. IsThere y.target) (row_at m s c) × NoBetter dir (reward_of (choice_at m s c) r +ℚ f *ℚ row_sum (row_at m s c) (finite_part v)) (value_at (finite_part v) s)

  covers_by : (dir : Dir) (s c : ℕ) (o : Option ℚ) → reward_at v s ≡ o → IsThere s
      → IfSome o (λ x. StaysFinite m v s c × IsAsGood dir (left_for m f s c v x) (reward_of (choice_at m s c) r)) → Covers dir s c
  covers_by dir s c None e there h = absurd (true≢false (sym (infinite_of_none v s e) ∙ there))
  covers_by dir s c (Some x) e there h = (
    h.0,
    subst (λ (y : ℚ). NoBetter dir (reward_of (choice_at m s c) r +ℚ f *ℚ row_sum (row_at m s c) (finite_part v)) y) (sym (part_of_some v s x e))
        (no_better_of_left dir x (f *ℚ row_sum (row_at m s c) (finite_part v)) (reward_of (choice_at m s c) r) h.1),
  )

  module _ (dir : Dir) (P : ℕ → ℕ → Type 0) (u : ℕ) (hu : 1 ≤ u) (rules : (s c : ℕ) → s < states_of m → P s c → c < length (choices_at m s) → Allows dir m r f v s c) where
    half_at : (n : ℕ) (t : Tree) (s : ℕ) (o : Option ℚ) → s < states_of m → Keeps m P u n t s → reward_at v s ≡ o
        → IfSome o (λ x. BetterByAtMost dir (pow_ℚ f n *ℚ k) (disc m r f u n t s) x)
    half_at n t s None h keeps e = tt
    half_at n t s (Some x) h keeps e =
        subst (λ (y : ℚ). BetterByAtMost dir (pow_ℚ f n *ℚ k) (disc m r f u n t s) y) (part_of_some v s x e)
        (half_by m r f known_ factor (λ s. is_marked (infinite v) s ≡ false) (value_at (finite_part v)) k (λ s h i. small s h) dir P u hu
        (λ s c h i ok l. covers_by dir s c (reward_at v s) refl i (rules s c h ok l)) n t s h (finite_of_some v s x e) keeps)

    half : (n : ℕ) (t : Tree) (s : ℕ) → s < states_of m → Keeps m P u n t s → IfSome (reward_at v s) (λ x. BetterByAtMost dir (pow_ℚ f n *ℚ k) (disc m r f u n t s) x)
    half n t s h keeps = half_at n t s (reward_at v s) h keeps refl

  -- all trees, where the rules hold on each choice
  pub each_half : (dir : Dir) → ((s c : ℕ) → s < states_of m → c < length (choices_at m s) → Allows dir m r f v s c)
      → (n u : ℕ) (t : Tree) (s : ℕ) → s < states_of m → IsStrategy m u n t s
      → IfSome (reward_at v s) (λ x. BetterByAtMost dir (pow_ℚ f n *ℚ k) (disc m r f u n t s) x)
  each_half dir rules n u t s h strategy = half dir (HasChoice m) u strategy.mixes (λ s c h ok l. rules s c h l) n t s h (keeps_of_Fits m u n t s strategy.fits)

  -- the policy's trees, where they hold on its choices
  pub policy_half : (dir : Dir) (policy : List ℕ) (n s : ℕ) → s < states_of m → Keeps m (Follows policy) 1 n (unfolded m policy n s) s
      → ((s : ℕ) → s < states_of m → Allows dir m r f v s (slice_index policy s))
      → IfSome (reward_at v s) (λ x. BetterByAtMost dir (pow_ℚ f n *ℚ k) (disc m r f 1 n (unfolded m policy n s) s) x)
  policy_half dir policy n s h keeps rules =
      half dir (Follows policy) 1 (omega arith) (λ s c h is l. subst (λ (c : ℕ). Allows dir m r f v s c) (sym is) (rules s h)) n (unfolded m policy n s) s h keeps

pub between_of_rules : RulesBetween
between_of_rules Max m r f lower upper k policy known_ factor rules = record {
  takes = rules.choices;
  named = rules.named;
  one_each = rules.one_each;
  one_above = rules.one_above;
  above = λ n u t s h strategy.
      each_half m r f known_ factor upper k (λ s h. upper_near k lower upper rules.widest s (subst (λ (n : ℕ). s < n) (sym rules.one_above) h)) Max rules.covers n u t s h strategy;
  reached = λ n s h.
      policy_half m r f known_ factor lower k (λ s h. lower_near k lower upper rules.widest s (subst (λ (n : ℕ). s < n) (sym rules.one_each) h)) Min policy n s h
      (keeps_unfolded m policy n s known_ rules.choices h) rules.reached;
}
between_of_rules Min m r f lower upper k policy known_ factor rules = record {
  takes = rules.choices;
  named = rules.named;
  one_each = rules.one_each;
  one_above = rules.one_above;
  below = λ n u t s h strategy.
      each_half m r f known_ factor lower k (λ s h. lower_near k lower upper rules.widest s (subst (λ (n : ℕ). s < n) (sym rules.one_each) h)) Min rules.covers n u t s h strategy;
  reached = λ n s h.
      policy_half m r f known_ factor upper k (λ s h. upper_near k lower upper rules.widest s (subst (λ (n : ℕ). s < n) (sym rules.one_above) h)) Max policy n s h
      (keeps_unfolded m policy n s known_ rules.choices h) rules.reached;
}
