-- What the rules of a mean payoff certificate say of trees: for a lower and an upper gain at each state, and for gains that are both. Both
-- directions are one induction, over the total times a sign.
use Rattle.std.proofs.Common.{◌≡◌, ℕ, suc, ◌<◌, ◌≤◌, false, true≢false, List, [], ◌∷◌, length, get_or, refl, sym, subst, arith, pos}
use Rattle.mdp_math.specs.{Rational.{ℚ, ◌+ℚ◌, ◌*ℚ◌, ◌-ℚ◌, neg_ℚ, ◌≤ℚ◌}, Extremes.{least, greatest}}
use Rattle.mdp_math.proofs.{Ring.{◌⊕◌, ◌⊗◌, ⊖, lit}, Linear.{linear, equal, at_most, known}, Order.{0ℚ, 1ℚ, ≤ℚ_of_eq}, Whole.{of_nat-nonneg, of_nat-suc}}
use Rattle.mdp_math.proofs.Extremes.{least-le, greatest-ge}
use Rattle.mdp_spec.specs.{Mdp.{choice_at, Mdp, states_of, choices_at, row_at, value_at}, Row.{IsMdp}, Unit.{reward_of}, Tree.{IsPolicy, Tree, unfolded}}
use Rattle.mdp_spec.specs.{Pay.{total}, Bounds.{MeanMax, MeanMin, whole}, Between.{MeanMaxBetween, MeanMinBetween}}
use Rattle.mdp_spec.specs.{BetweenRules.{MeetsMeanMaxBetween, MeetsMeanMinBetween}, RewardRules.{backup}}
use Rattle.mdp_spec.specs.MeanRules.{width_of, spread_of, IsEvaluation, HasSpread, MeetsMeanMax, MeetsMeanMin}
use Rattle.mdp_spec.proofs.{Keeping.{Keeps, HasChoice, Follows, keeps_of_Fits, keeps_unfolded, unfolded_is_strategy}, Earnings.{total-end}}
use Rattle.mdp_spec.proofs.{Rows.{row_weigh, row_weigh-scale, row_weigh-line}, Steps.{Uses, at_most_by_steps, keeping_uses, goes-scale, total_goes}}

mean_step : (sign q w v n next g a c : ℚ) → next ≡ n +ℚ 1ℚ → 0ℚ ≤ℚ n → sign *ℚ w ≤ℚ sign *ℚ g → sign *ℚ (q +ℚ v) ≤ℚ sign *ℚ (g +ℚ a)
    → sign *ℚ q +ℚ (n *ℚ (sign *ℚ w) +ℚ (sign *ℚ v -ℚ c)) ≤ℚ next *ℚ (sign *ℚ g) +ℚ (sign *ℚ a -ℚ c)
mean_step sign q w v n next g a c is hn gain bias =
    linear 9 (λ sign q w v n next g a c. sign ⊗ q ⊕ (n ⊗ (sign ⊗ w) ⊕ (sign ⊗ v ⊕ ⊖ c))) (λ sign q w v n next g a c. next ⊗ (sign ⊗ g) ⊕ (sign ⊗ a ⊕ ⊖ c))
    (λ sign q w v n next g a c. equal (sign ⊗ g) (n ⊕ lit (pos 1)) next ∷ at_most n (sign ⊗ w) (sign ⊗ g) ∷ known (sign ⊗ (q ⊕ v)) (sign ⊗ (g ⊕ a)) ∷ []) refl
    sign q w v n next g a c (sym is) hn gain bias

-- the trees of a rule T that use the choices of P
module _ (m : Mdp) (r u : ℕ) (known_ : IsMdp m) (hu : 1 ≤ u) (P : ℕ → ℕ → Type 0) (T : ℕ → Tree → ℕ → Type 0) (uses : Uses m u (λ s. false) P (λ s. s < states_of m) T) (g a : ℕ → ℚ) where
  -- gains and relative values that cover, by a sign, the choices that meet P
  by_sign : (sign c : ℚ)
      → ((s : ℕ) → s < states_of m → c ≤ℚ sign *ℚ a s)
      → ((s d : ℕ) → s < states_of m → P s d → d < length (choices_at m s) → sign *ℚ row_weigh g (row_at m s d) ≤ℚ sign *ℚ g s)
      → ((s d : ℕ) → s < states_of m → P s d → d < length (choices_at m s) → sign *ℚ (reward_of (choice_at m s d) r +ℚ row_weigh a (row_at m s d)) ≤ℚ sign *ℚ (g s +ℚ a s))
      → (n : ℕ) (t : Tree) (s : ℕ) → T n t s → sign *ℚ total m r u n t s ≤ℚ whole n *ℚ (sign *ℚ g s) +ℚ (sign *ℚ a s -ℚ c)
  by_sign sign c floor gain bias n t s ok =
      at_most_by_steps m u known_ hu (λ s. false) P (λ s. s < states_of m) T uses
      (λ x. sign *ℚ reward_of x r) (λ n t s. sign *ℚ total m r u n t s) (goes-scale m u (λ s. false) sign (λ x. reward_of x r) (λ n t s. total m r u n t s) (total_goes m r u known_ hu))
      (λ n s. whole n *ℚ (sign *ℚ g s) +ℚ (sign *ℚ a s -ℚ c))
      (λ n t s h e. absurd (true≢false (sym e)))
      (λ t s h e.
      linear 5 (λ sign x g a c. sign ⊗ x) (λ sign x g a c. lit (pos 0) ⊗ (sign ⊗ g) ⊕ (sign ⊗ a ⊕ ⊖ c)) (λ sign x g a c. equal sign x (lit (pos 0)) ∷ known c (sign ⊗ a) ∷ []) refl
      sign (total m r u 0 t s) (g s) (a s) c (total-end m r u t s hu) (floor s h))
      (λ n s d h e ok i.
      subst (λ (w : ℚ). sign *ℚ reward_of (choice_at m s d) r +ℚ w ≤ℚ whole (suc n) *ℚ (sign *ℚ g s) +ℚ (sign *ℚ a s -ℚ c))
      (sym (row_weigh-line (states_of m) (row_at m s d) (whole n) c (λ v. sign *ℚ g v) (λ v. sign *ℚ a v) (IsMdp.row known_ s d h i)))
      (subst (λ (w : ℚ). sign *ℚ reward_of (choice_at m s d) r +ℚ (whole n *ℚ w +ℚ (row_weigh (λ v. sign *ℚ a v) (row_at m s d) -ℚ c))
      ≤ℚ whole (suc n) *ℚ (sign *ℚ g s) +ℚ (sign *ℚ a s -ℚ c))
      (sym (row_weigh-scale (row_at m s d) sign g))
      (subst (λ (w : ℚ). sign *ℚ reward_of (choice_at m s d) r +ℚ (whole n *ℚ (sign *ℚ row_weigh g (row_at m s d)) +ℚ (w -ℚ c)) ≤ℚ whole (suc n) *ℚ (sign *ℚ g s) +ℚ (sign *ℚ a s -ℚ c))
      (sym (row_weigh-scale (row_at m s d) sign a))
      (mean_step sign (reward_of (choice_at m s d) r) (row_weigh g (row_at m s d)) (row_weigh a (row_at m s d)) (whole n) (whole (suc n)) (g s) (a s) c (of_nat-suc n) (of_nat-nonneg n)
      (gain s d h ok i) (bias s d h ok i)))))
      n t s ok

  -- where they cover the choices, no tree earns more than the gain in each step, up to the width of the relative values
  pub total-le_by : (low high k : ℚ) → ((s : ℕ) → s < states_of m → low ≤ℚ a s) → ((s : ℕ) → s < states_of m → a s ≤ℚ high) → high -ℚ low ≤ℚ k
      → ((s d : ℕ) → s < states_of m → P s d → d < length (choices_at m s) → row_weigh g (row_at m s d) ≤ℚ g s)
      → ((s d : ℕ) → s < states_of m → P s d → d < length (choices_at m s) → reward_of (choice_at m s d) r +ℚ row_weigh a (row_at m s d) ≤ℚ g s +ℚ a s)
      → (n : ℕ) (t : Tree) (s : ℕ) → T n t s → total m r u n t s ≤ℚ whole n *ℚ g s +ℚ k
  total-le_by low high k floor top width gain bias n t s ok =
      linear 7 (λ x n g a low high k. x) (λ x n g a low high k. n ⊗ g ⊕ k)
      (λ x n g a low high k. known (lit (pos 1) ⊗ x) (n ⊗ (lit (pos 1) ⊗ g) ⊕ (lit (pos 1) ⊗ a ⊕ ⊖ low)) ∷ known a high ∷ known (high ⊕ ⊖ low) k ∷ []) refl
      (total m r u n t s) (whole n) (g s) (a s) low high k
      (by_sign 1ℚ low (λ s h. plus_right low (a s) (floor s h)) (λ s d h ok i. plus _ _ (gain s d h ok i)) (λ s d h ok i. plus _ _ (bias s d h ok i)) n t s ok)
      (top s (Uses.inside uses n t s ok)) width
    where
      plus : (x y : ℚ) → x ≤ℚ y → 1ℚ *ℚ x ≤ℚ 1ℚ *ℚ y
      plus x y le = linear 2 (λ x y. lit (pos 1) ⊗ x) (λ x y. lit (pos 1) ⊗ y) (λ x y. known x y ∷ []) refl x y le

      plus_right : (x y : ℚ) → x ≤ℚ y → x ≤ℚ 1ℚ *ℚ y
      plus_right x y le = linear 2 (λ x y. x) (λ x y. lit (pos 1) ⊗ y) (λ x y. known x y ∷ []) refl x y le

  -- where the choices cover them, each tree earns at least that
  pub total-ge_by : (low high k : ℚ) → ((s : ℕ) → s < states_of m → low ≤ℚ a s) → ((s : ℕ) → s < states_of m → a s ≤ℚ high) → high -ℚ low ≤ℚ k
      → ((s d : ℕ) → s < states_of m → P s d → d < length (choices_at m s) → g s ≤ℚ row_weigh g (row_at m s d))
      → ((s d : ℕ) → s < states_of m → P s d → d < length (choices_at m s) → g s +ℚ a s ≤ℚ reward_of (choice_at m s d) r +ℚ row_weigh a (row_at m s d))
      → (n : ℕ) (t : Tree) (s : ℕ) → T n t s → whole n *ℚ g s ≤ℚ total m r u n t s +ℚ k
  total-ge_by low high k floor top width gain bias n t s ok =
      linear 7 (λ x n g a low high k. n ⊗ g) (λ x n g a low high k. x ⊕ k)
      (λ x n g a low high k. known (⊖ (lit (pos 1)) ⊗ x) (n ⊗ (⊖ (lit (pos 1)) ⊗ g) ⊕ (⊖ (lit (pos 1)) ⊗ a ⊕ ⊖ (⊖ high))) ∷ known low a ∷ known (high ⊕ ⊖ low) k ∷ []) refl
      (total m r u n t s) (whole n) (g s) (a s) low high k
      (by_sign (neg_ℚ 1ℚ) (neg_ℚ high) (λ s h. minus_right (a s) high (top s h)) (λ s d h ok i. minus _ _ (gain s d h ok i)) (λ s d h ok i. minus _ _ (bias s d h ok i)) n t s ok)
      (floor s (Uses.inside uses n t s ok)) width
    where
      minus : (x y : ℚ) → x ≤ℚ y → neg_ℚ 1ℚ *ℚ y ≤ℚ neg_ℚ 1ℚ *ℚ x
      minus x y le = linear 2 (λ x y. ⊖ (lit (pos 1)) ⊗ y) (λ x y. ⊖ (lit (pos 1)) ⊗ x) (λ x y. known x y ∷ []) refl x y le

      minus_right : (x y : ℚ) → x ≤ℚ y → neg_ℚ y ≤ℚ neg_ℚ 1ℚ *ℚ x
      minus_right x y le = linear 2 (λ x y. ⊖ y) (λ x y. ⊖ (lit (pos 1)) ⊗ x) (λ x y. known x y ∷ []) refl x y le

-- ---- the rules

abbrev Kept : Mdp → (ℕ → ℕ → Type 0) → ℕ → ℕ → Tree → ℕ → Type 0
Kept m P u n t s = (s < states_of m) × Keeps m P u n t s

in_list-low : (z : List ℚ) (k s : ℕ) → length z ≡ k → s < k → least z ≤ℚ value_at z s
in_list-low z k s e h = least-le z s 0ℚ (subst (λ (n : ℕ). s < n) (sym e) h)

in_list-high : (z : List ℚ) (k s : ℕ) → length z ≡ k → s < k → value_at z s ≤ℚ greatest z
in_list-high z k s e h = greatest-ge z s 0ℚ (subst (λ (n : ℕ). s < n) (sym e) h)

width-le_first : (a b : List ℚ) → width_of a ≤ℚ spread_of a b
width-le_first a b = greatest-ge (width_of a ∷ width_of b ∷ []) 0 0ℚ (omega arith)

width-le_second : (a b : List ℚ) → width_of b ≤ℚ spread_of a b
width-le_second a b = greatest-ge (width_of a ∷ width_of b ∷ []) 1 0ℚ (omega arith)

module _ (m : Mdp) (r : ℕ) (a b : List ℚ) (spread : ℚ) (policy : List ℕ) (known_ : IsMdp m) where
  first : spread ≡ spread_of a b → greatest a -ℚ least a ≤ℚ spread
  first e = subst (λ (k : ℚ). greatest a -ℚ least a ≤ℚ k) (sym e) (width-le_first a b)

  second : spread ≡ spread_of a b → greatest b -ℚ least b ≤ℚ spread
  second e = subst (λ (k : ℚ). greatest b -ℚ least b ≤ℚ k) (sym e) (width-le_second a b)

  -- where gains and the bias cover the policy's choice, the policy earns no more; where the policy's choice covers them, no less
  policy_le : (g : List ℚ) → ((s : ℕ) → s < states_of m → row_weigh (value_at g) (row_at m s (get_or policy s 0)) ≤ℚ value_at g s)
      → ((s : ℕ) → s < states_of m → backup m r s (get_or policy s 0) b ≤ℚ value_at g s +ℚ value_at b s)
      → HasSpread m a b spread → IsPolicy m policy → (n s : ℕ) → s < states_of m → total m r 1 n (unfolded m policy n s) s ≤ℚ whole n *ℚ value_at g s +ℚ spread
  policy_le g gain bias rel choice n s h =
      total-le_by m r 1 known_ (omega arith) (Follows policy) (Kept m (Follows policy) 1) (keeping_uses m 1 (λ s. false) (Follows policy) known_) (value_at g) (value_at b) (least b) (greatest b) spread
      (λ s h. in_list-low b (states_of m) s rel.biases h) (λ s h. in_list-high b (states_of m) s rel.biases h) (second rel.widest)
      (λ s d h is i. subst (λ (c : ℕ). row_weigh (value_at g) (row_at m s c) ≤ℚ value_at g s) (sym is) (gain s h))
      (λ s d h is i. subst (λ (c : ℕ). reward_of (choice_at m s c) r +ℚ row_weigh (value_at b) (row_at m s c) ≤ℚ value_at g s +ℚ value_at b s) (sym is) (bias s h))
      n (unfolded m policy n s) s (h, keeps_unfolded m policy n s known_ choice h)

  policy_ge : (g : List ℚ) → ((s : ℕ) → s < states_of m → value_at g s ≤ℚ row_weigh (value_at g) (row_at m s (get_or policy s 0)))
      → ((s : ℕ) → s < states_of m → value_at g s +ℚ value_at b s ≤ℚ backup m r s (get_or policy s 0) b)
      → HasSpread m a b spread → IsPolicy m policy → (n s : ℕ) → s < states_of m → whole n *ℚ value_at g s ≤ℚ total m r 1 n (unfolded m policy n s) s +ℚ spread
  policy_ge g gain bias rel choice n s h =
      total-ge_by m r 1 known_ (omega arith) (Follows policy) (Kept m (Follows policy) 1) (keeping_uses m 1 (λ s. false) (Follows policy) known_) (value_at g) (value_at b) (least b) (greatest b) spread
      (λ s h. in_list-low b (states_of m) s rel.biases h) (λ s h. in_list-high b (states_of m) s rel.biases h) (second rel.widest)
      (λ s d h is i. subst (λ (c : ℕ). value_at g s ≤ℚ row_weigh (value_at g) (row_at m s c)) (sym is) (gain s h))
      (λ s d h is i. subst (λ (c : ℕ). value_at g s +ℚ value_at b s ≤ℚ reward_of (choice_at m s c) r +ℚ row_weigh (value_at b) (row_at m s c)) (sym is) (bias s h))
      n (unfolded m policy n s) s (h, keeps_unfolded m policy n s known_ choice h)

module _ (m : Mdp) (r : ℕ) (lower upper a b : List ℚ) (spread : ℚ) (policy : List ℕ) (known_ : IsMdp m) where
  pub mean_max_between_of_rules : MeetsMeanMaxBetween m r lower upper a b spread policy → MeanMaxBetween m r lower upper spread policy
  mean_max_between_of_rules rules = record {
    takes = rules.choices;
    named = rules.named;
    above = λ n u t s h tree.
        total-le_by m r u known_ tree.mixes (HasChoice m) (Kept m (HasChoice m) u) (keeping_uses m u (λ s. false) (HasChoice m) known_) (value_at upper) (value_at a) (least a) (greatest a) spread
        (λ s h. in_list-low a (states_of m) s (HasSpread.bounds rules.spreads) h) (λ s h. in_list-high a (states_of m) s (HasSpread.bounds rules.spreads) h)
        (first m r a b spread policy known_ (HasSpread.widest rules.spreads))
        (λ s d h ok i. rules.gain_covers s d h i) (λ s d h ok i. rules.bound_covers s d h i) n t s (h, keeps_of_Fits m u n t s tree.fits);
    reached = policy_ge m r a b spread policy known_ lower rules.gain_reached rules.bias_reached rules.spreads rules.choices;
  }

  pub mean_min_between_of_rules : MeetsMeanMinBetween m r lower upper a b spread policy → MeanMinBetween m r lower upper spread policy
  mean_min_between_of_rules rules = record {
    takes = rules.choices;
    named = rules.named;
    below = λ n u t s h tree.
        total-ge_by m r u known_ tree.mixes (HasChoice m) (Kept m (HasChoice m) u) (keeping_uses m u (λ s. false) (HasChoice m) known_) (value_at lower) (value_at a) (least a) (greatest a) spread
        (λ s h. in_list-low a (states_of m) s (HasSpread.bounds rules.spreads) h) (λ s h. in_list-high a (states_of m) s (HasSpread.bounds rules.spreads) h)
        (first m r a b spread policy known_ (HasSpread.widest rules.spreads))
        (λ s d h ok i. rules.gain_covered s d h i) (λ s d h ok i. rules.bound_covered s d h i) n t s (h, keeps_of_Fits m u n t s tree.fits);
    reached = policy_le m r a b spread policy known_ upper rules.gain_reached rules.bias_reached rules.spreads rules.choices;
  }

-- ---- the same gains below and above

module _ (m : Mdp) (r : ℕ) (g : List ℚ) (spread : ℚ) (policy : List ℕ) where
  pub mean_max_between : MeanMax m r g spread policy → MeanMaxBetween m r g g spread policy
  mean_max_between w = record { takes = w.takes; named = w.named; above = w.above; reached = w.policy_above }

  pub mean_min_between : MeanMin m r g spread policy → MeanMinBetween m r g g spread policy
  mean_min_between w = record { takes = w.takes; named = w.named; below = w.below; reached = w.policy_below }

  -- the policy's own tree is one of all trees
  pub mean_max_exact : IsMdp m → MeanMaxBetween m r g g spread policy → MeanMax m r g spread policy
  mean_max_exact known_ is = record {
    takes = is.takes;
    named = is.named;
    above = is.above;
    policy_above = is.reached;
    policy_below = λ n s h. is.above n 1 (unfolded m policy n s) s h (unfolded_is_strategy m policy n s known_ is.takes h);
  }

  pub mean_min_exact : IsMdp m → MeanMinBetween m r g g spread policy → MeanMin m r g spread policy
  mean_min_exact known_ is = record {
    takes = is.takes;
    named = is.named;
    below = is.below;
    policy_above = λ n s h. is.below n 1 (unfolded m policy n s) s h (unfolded_is_strategy m policy n s known_ is.takes h);
    policy_below = is.reached;
  }

module _ (m : Mdp) (r : ℕ) (g a b : List ℚ) (spread : ℚ) (policy : List ℕ) where
  -- gains that meet the rules meet them as lower and as upper gains
  pub mean_max_both : MeetsMeanMax m r g a b spread policy → MeetsMeanMaxBetween m r g g a b spread policy
  mean_max_both rules = record {
    named = rules.named;
    choices = rules.choices;
    spreads = rules.spreads;
    gain_covers = rules.gain_covers;
    bound_covers = rules.bound_covers;
    gain_reached = λ s h. ≤ℚ_of_eq _ _ (sym (IsEvaluation.gain rules.evaluation s h));
    bias_reached = λ s h. ≤ℚ_of_eq _ _ (sym (IsEvaluation.bias rules.evaluation s h));
  }

  pub mean_min_both : MeetsMeanMin m r g a b spread policy → MeetsMeanMinBetween m r g g a b spread policy
  mean_min_both rules = record {
    named = rules.named;
    choices = rules.choices;
    spreads = rules.spreads;
    gain_covered = rules.gain_covered;
    bound_covered = rules.bound_covered;
    gain_reached = λ s h. ≤ℚ_of_eq _ _ (IsEvaluation.gain rules.evaluation s h);
    bias_reached = λ s h. ≤ℚ_of_eq _ _ (IsEvaluation.bias rules.evaluation s h);
  }

  pub mean_max_of_rules : IsMdp m → MeetsMeanMax m r g a b spread policy → MeanMax m r g spread policy
  mean_max_of_rules known_ rules = mean_max_exact m r g spread policy known_ (mean_max_between_of_rules m r g g a b spread policy known_ (mean_max_both rules))

  pub mean_min_of_rules : IsMdp m → MeetsMeanMin m r g a b spread policy → MeanMin m r g spread policy
  mean_min_of_rules known_ rules = mean_min_exact m r g spread policy known_ (mean_min_between_of_rules m r g g a b spread policy known_ (mean_min_both rules))
