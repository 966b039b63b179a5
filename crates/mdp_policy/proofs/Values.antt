-- What rules for a policy's values say of trees, and what follows from a choice that is better and from none.
use Rattle.std.proofs.Common.{◌≡◌, ℕ, zero, suc, ◌<◌, ◌≤◌, ⊎_elim, Bool, true, false, cond, ltb, lt-ltb, ltb-true, List, [], ◌∷◌, length, get_or, Option, None}
use Rattle.std.proofs.Common.{refl, sym, ◌∙◌, ap, subst, arith, pos}
use Rattle.std.proofs.{lemmas.Bool.{cases_Bool, cases_lt}, lemmas.List.{get_or_past}}
use Rattle.std.specs.List.{All, Any}
use Rattle.mdp_math.specs.Rational.{ℚ, ratio, of_int, ◌+ℚ◌, ◌*ℚ◌, ◌-ℚ◌, ◌≤ℚ◌, ◌<ℚ◌}
use Rattle.mdp_math.proofs.{Ring.{◌⊕◌, ◌⊗◌, ⊖, lit}, Laws.{den-pos}, Linear.{linear, linear_lt, equal, known}}
use Rattle.mdp_math.proofs.{Order.{0ℚ, 1ℚ, ≤ℚ_of_eq, ≤ℚ_of_lt, ≤ℚ_antisymm, sub-pos, mul-pos_ℚ}, Whole.{one-pos}}
use Rattle.mdp_math.proofs.{Division.{half, half_twice, half_pos, le_of_bounds}, Powers.{unit_fraction-le}}
use Rattle.mdp_math.proofs.{Kernel.{weigh-same, weigh-sub, weigh-le_at, weigh-nonneg}, Solutions.{nonneg_of_rows}}
use Rattle.mdp_spec.specs.{Mdp.{Entry, Mdp, states_of, choices_at, row_at, value_at}, Row.{IsRow, IsMdp, row_sum}, Rules.{AreProbabilities}}
use Rattle.mdp_spec.specs.{Bounds.{ReachMax, part}, Tree.{Tree, IsPolicy, IsStrategy, unfolded, is_marked}, Tree.Tree.{leaf}, Hit.{hit}}
use Rattle.mdp_spec.proofs.{Rows.{probs_nonneg, row_weigh, row_weigh-const, row_weigh-from}, Hits.{hit-end}, Keeping.{Follows, keeps_unfolded, unfolded_fits}}
use Rattle.mdp_spec.proofs.{Above.{hit-le_by}, Close.{RowsShrink, deficit-le, deficit-fades}, Ranks.{shrinks_of_ranks}}
use Rattle.mdp_spec.proofs.Reach.{above_of_rules, all_three, third}
use Rattle.mdp_rows.specs.{Better.{IsBetter, IsAsGood}, declared.dir.Dir.{Dir}, declared.dir.Dir.TheVariants.{Max, Min}}
use Rattle.mdp_policy.specs.{Bounds.{comes, PolicyBound, SomeTreePasses, DeepTreesStayBelow}, Laws.{HasOneValue}}
use Rattle.mdp_policy.proofs.Deviations.{first_choice, first_choice_fits, first_choice-is}

-- ---- rules for the values

-- the row of the policy's choice at s
abbrev pub policy_row : Mdp → List ℕ → ℕ → List Entry
policy_row m policy s = row_at m s (get_or policy s 0)

-- a state that is no goal and from which the policy can reach one
abbrev pub IsUnderWay : Mdp → List Bool → List Bool → ℕ → Type 0
IsUnderWay m goals reaching s = (s < states_of m) × (is_marked goals s ≡ false) × (is_marked reaching s ≡ true)

-- `reaching` marks the states from which the policy can reach a goal
pub record MeetsPolicyValue (m : Mdp) (goals : List Bool) (z : List ℚ) (policy : List ℕ) (reaching : List Bool) (ranks : List ℕ) : Type 0 where
  pub lengths : length z ≡ states_of m
  pub choices : IsPolicy m policy
  pub at_goal : (s : ℕ) → s < states_of m → is_marked goals s ≡ true → value_at z s ≡ of_int (pos 1)
  -- from a state that is not marked the policy leads to such states alone, and the value is 0
  pub rest : (s : ℕ) → s < states_of m → is_marked reaching s ≡ false → (value_at z s ≡ of_int (pos 0)) × All (λ y. is_marked reaching y.target ≡ false) (policy_row m policy s)
  -- under way the value is the sum over the policy's row, of which an entry leads to a smaller rank
  pub evaluation : (s : ℕ) → IsUnderWay m goals reaching s → value_at z s ≡ row_sum (policy_row m policy s) z
  pub falls : (s : ℕ) → IsUnderWay m goals reaching s → Any (λ y. get_or ranks y.target 0 < get_or ranks s 0) (policy_row m policy s)

-- ---- better choices

-- x is no better than y; it is better
abbrev pub NoBetter : Dir → ℚ → ℚ → Type 0
NoBetter dir x y = IsAsGood dir y x

-- choice c at s, which is no goal, sums up to a better value than s has
pub record IsBetterChoice (dir : Dir) (m : Mdp) (goals : List Bool) (z : List ℚ) (s c : ℕ) : Type 0 where
  pub state : s < states_of m
  pub no_goal : is_marked goals s ≡ false
  pub choice : c < length (choices_at m s)
  pub better : IsBetter dir (row_sum (row_at m s c) z) (value_at z s)

-- no choice of a state that is no goal does
abbrev pub NoneIsBetter : Dir → Mdp → List Bool → List ℚ → Type 0
NoneIsBetter dir m goals z =
    (s c : ℕ) → s < states_of m → is_marked goals s ≡ false → c < length (choices_at m s) → NoBetter dir (row_sum (row_at m s c) z) (value_at z s)

-- ---- the states under way

abbrev pub is_active : Mdp → List Bool → List Bool → ℕ → Bool
is_active m goals reaching s = cond (ltb s (states_of m)) (cond (is_marked goals s) false (is_marked reaching s)) false

active_parts : (m : Mdp) (goals reaching : List Bool) (s : ℕ) → is_active m goals reaching s ≡ true → IsUnderWay m goals reaching s
active_parts m goals reaching s a =
    let p = all_three (ltb s (states_of m)) (is_marked goals s) (is_marked reaching s) a in
    (ltb-true s (states_of m) p.0, p.1, p.2)

inactive_rest : (m : Mdp) (goals reaching : List Bool) (s : ℕ) → s < states_of m → is_marked goals s ≡ false → is_active m goals reaching s ≡ false → is_marked reaching s ≡ false
inactive_rest m goals reaching s h g a = third (ltb s (states_of m)) (is_marked goals s) (is_marked reaching s) (lt-ltb s (states_of m) h) g a

module _ (m : Mdp) (goals : List Bool) (z : List ℚ) (policy : List ℕ) (reaching : List Bool) (ranks : List ℕ) (known_ : IsMdp m) (rules : MeetsPolicyValue m goals z policy reaching ranks) where
  the_row : (s : ℕ) → s < states_of m → IsRow (states_of m) (policy_row m policy s)
  the_row s h = IsMdp.row known_ s (get_or policy s 0) h (rules.choices.in_range s h)

  K_ : RowsShrink m (is_active m goals reaching) (Follows policy)
  K_ =
      shrinks_of_ranks m (is_active m goals reaching) (Follows policy) (λ s. get_or ranks s 0) known_ (λ s a. (active_parts m goals reaching s a).0)
      (λ s c a is i. subst (λ (d : ℕ). Any (λ y. get_or ranks y.target 0 < get_or ranks s 0) (row_at m s d)) (sym is) (rules.falls s (active_parts m goals reaching s a)))

  -- ---- the values are probabilities

  -- at a state that isn't under way the value is 0 or 1
  inactive_value : (s : ℕ) → is_active m goals reaching s ≡ false → (0ℚ ≤ℚ value_at z s) × (value_at z s ≤ℚ 1ℚ)
  inactive_value s a =
      ⊎_elim
      (λ h.
      ⊎_elim (λ g. let e = rules.at_goal s h g in (subst (λ (x : ℚ). 0ℚ ≤ℚ x) (sym e) (≤ℚ_of_lt 0ℚ 1ℚ one-pos), ≤ℚ_of_eq _ _ e))
      (λ g. let e = (rules.rest s h (inactive_rest m goals reaching s h g a)).0 in (≤ℚ_of_eq _ _ (sym e), subst (λ (x : ℚ). x ≤ℚ 1ℚ) (sym e) (≤ℚ_of_lt 0ℚ 1ℚ one-pos)))
      (cases_Bool (is_marked goals s)))
      (λ past. let e : value_at z s ≡ 0ℚ = get_or_past z s 0ℚ (subst (λ (n : ℕ). n ≤ s) (sym rules.lengths) past) in
      (≤ℚ_of_eq _ _ (sym e), subst (λ (x : ℚ). x ≤ℚ 1ℚ) (sym e) (≤ℚ_of_lt 0ℚ 1ℚ one-pos)))
      (cases_lt s (states_of m))

  pub value-nonneg : (s : ℕ) → 0ℚ ≤ℚ value_at z s
  value-nonneg =
      nonneg_of_rows K_ (states_of m) (λ s a. (active_parts m goals reaching s a).0) (value_at z) (λ s a. (inactive_value s a).0)
      (λ s a. let p = active_parts m goals reaching s a in (policy_row m policy s, (get_or policy s 0, refl, rules.choices.in_range s p.0, refl), ≤ℚ_of_eq _ _ (sym (rules.evaluation s p))))

  rest_nonneg : (s : ℕ) → 0ℚ ≤ℚ 1ℚ -ℚ value_at z s
  rest_nonneg =
      nonneg_of_rows K_ (states_of m) (λ s a. (active_parts m goals reaching s a).0) (λ s. 1ℚ -ℚ value_at z s)
      (λ s a. linear 1 (λ x. lit (pos 0)) (λ x. lit (pos 1) ⊕ ⊖ x) (λ x. known x (lit (pos 1)) ∷ []) refl (value_at z s) (inactive_value s a).1)
      (λ s a.
      let p = active_parts m goals reaching s a in (
        policy_row m policy s,
        (get_or policy s 0, refl, rules.choices.in_range s p.0, refl),
        ≤ℚ_of_eq _ _
            (row_weigh-from (states_of m) (policy_row m policy s) 1ℚ (value_at z) (the_row s p.0)
            ∙ ap (λ (w : ℚ). 1ℚ -ℚ w) (sym (rules.evaluation s p))),
      ))

  pub value-le_one : (s : ℕ) → value_at z s ≤ℚ 1ℚ
  value-le_one s = linear 1 (λ x. x) (λ x. lit (pos 1)) (λ x. known (lit (pos 0)) (lit (pos 1) ⊕ ⊖ x) ∷ []) refl (value_at z s) (rest_nonneg s)

  pub policy_probabilities : AreProbabilities m goals z
  policy_probabilities = record {
    at_least_zero = λ s h. value-nonneg s;
    at_most_one = λ s h. value-le_one s;
    at_goal = λ s h g. rules.at_goal s h g;
  }

  -- the value is the sum over the policy's row at each state that is no goal
  pub evaluation_everywhere : (s : ℕ) → s < states_of m → is_marked goals s ≡ false → value_at z s ≡ row_weigh (value_at z) (policy_row m policy s)
  evaluation_everywhere s h g =
      ⊎_elim (λ r. rules.evaluation s (h, g, r))
      (λ r.
      let rest = rules.rest s h r in
      rest.0
      ∙ sym (row_weigh-const (states_of m) (policy_row m policy s) 0ℚ (the_row s h))
      ∙ weigh-same (λ (y : Entry). y.target) (λ (y : Entry). y.prob) (λ v. 0ℚ) (value_at z) (policy_row m policy s)
      (λ j d l. sym (rules.rest (Entry.target (get_or (policy_row m policy s) j d)) ((the_row s h).in_range j d l) (rest.1 j d l)).0))
      (cases_Bool (is_marked reaching s))

  -- ---- what they mean

  below_ : (n s : ℕ) → s < states_of m → hit m goals 1 n (unfolded m policy n s) s ≤ℚ value_at z s
  below_ n s h =
      hit-le_by m goals 1 known_ (omega arith) (Follows policy) (value_at z) (λ s h. value-nonneg s) (λ v l g. ≤ℚ_of_eq _ _ (sym (rules.at_goal v l g)))
      (λ v c l g is i. subst (λ (d : ℕ). row_weigh (value_at z) (row_at m v d) ≤ℚ value_at z v) (sym is) (≤ℚ_of_eq _ _ (sym (evaluation_everywhere v l g))))
      n (unfolded m policy n s) s h (keeps_unfolded m policy n s known_ rules.choices h)

  -- from one depth on at all states
  close_ : (k : ℕ) → 1 ≤ k → (n : ℕ) × ((s : ℕ) → s < states_of m → value_at z s ≤ℚ hit m goals 1 n (unfolded m policy n s) s +ℚ part k)
  close_ k hk =
      let fades = deficit-fades m (is_active m goals reaching) (Follows policy) K_ k hk in (
        fades.0,
        λ s h.
            fades.1 fades.0 s (value_at z s) (hit m goals 1 fades.0 (unfolded m policy fades.0 s) s) (omega arith)
            (deficit-le m goals 1 known_ (omega arith) (Follows policy) (is_active m goals reaching) K_ (value_at z) (λ s h. value-le_one s)
            (λ v l g a. ≤ℚ_of_eq _ _ (rules.rest v l (inactive_rest m goals reaching v l g a)).0)
            (λ v c l a is i. subst (λ (d : ℕ). value_at z v ≤ℚ row_weigh (value_at z) (row_at m v d)) (sym is) (≤ℚ_of_eq _ _ (rules.evaluation v (active_parts m goals reaching v a))))
            fades.0 (unfolded m policy fades.0 s) s h (keeps_unfolded m policy fades.0 s known_ rules.choices h)),
      )

  pub policy_bound_of_rules : PolicyBound m None goals z policy
  policy_bound_of_rules = record {
    takes = rules.choices;
    below = below_;
    close = λ s k h hk. let c = close_ k hk in (c.0, c.1 s h);
  }

  -- where no choice is better, the values are the greatest probabilities
  pub reach_max_of_policy : NoneIsBetter Max m goals z → ReachMax m goals z policy
  reach_max_of_policy none = record {
    takes = rules.choices;
    above = above_of_rules m goals z known_ policy_probabilities none;
    close = λ s k h hk. let c = close_ k hk in (c.0, c.1 s h);
  }

  -- ---- better choices

  -- a greater choice at s: this choice first and the policy after it, at a depth from which the policy is near enough
  pub passes_of_better : (s c : ℕ) → IsBetterChoice Max m goals z s c → SomeTreePasses m None goals z s
  passes_of_better s c b =
      let z_ : ℚ = value_at z s in
      let w : ℚ = row_weigh (value_at z) (row_at m s c) in
      let gap : 0ℚ <ℚ w -ℚ z_ = sub-pos _ _ b.better in
      let small : 0ℚ <ℚ (w -ℚ z_) *ℚ half = mul-pos_ℚ _ _ gap half_pos in
      let k : ℕ = ((w -ℚ z_) *ℚ half).den in
      let near = close_ ((w -ℚ z_) *ℚ half).den (den-pos ((w -ℚ z_) *ℚ half)) in
      let row : IsRow (states_of m) (row_at m s c) = IsMdp.row known_ s c b.state b.choice in
      let q : ℚ = ratio (pos 1) ((w -ℚ z_) *ℚ half).den in
      let less : row_weigh (λ t. value_at z t -ℚ q) (row_at m s c) ≤ℚ row_weigh (λ t. hit m goals 1 near.0 (unfolded m policy near.0 t) t) (row_at m s c) =
      weigh-le_at (λ (y : Entry). y.target) (λ (y : Entry). y.prob) (λ t. value_at z t -ℚ q) (λ t. hit m goals 1 near.0 (unfolded m policy near.0 t) t) (row_at m s c)
      (probs_nonneg (states_of m) (row_at m s c) row)
      (λ j d l. linear 3 (λ z h q. z ⊕ ⊖ q) (λ z h q. h) (λ z h q. known z (h ⊕ q) ∷ []) refl _ _ _ (near.1 (Entry.target (get_or (row_at m s c) j d)) (row.in_range j d l)))
      in
      let shifted : row_weigh (λ t. value_at z t -ℚ q) (row_at m s c) ≡ w -ℚ q =
      weigh-sub (λ (y : Entry). y.target) (λ (y : Entry). y.prob) (value_at z) (λ v. q) (row_at m s c) ∙ ap (λ (x : ℚ). w -ℚ x) (row_weigh-const (states_of m) (row_at m s c) q row)
      in (
        suc near.0,
        1,
        first_choice m s c (unfolded m policy near.0),
        record { mixes = omega arith; fits = first_choice_fits m near.0 s c (unfolded m policy near.0) known_ b.choice (λ t l. unfolded_fits m policy near.0 t known_ rules.choices l) },
        subst (λ (x : ℚ). z_ <ℚ x) (sym (first_choice-is m goals near.0 s c (unfolded m policy near.0) known_ b.state b.no_goal b.choice))
            (linear_lt 6 (λ z w q h x r. z) (λ z w q h x r. r) (λ z w q h x r. (w ⊕ ⊖ z) ⊗ h)
            (λ z w q h x r. equal (w ⊕ ⊖ z) (lit (pos 2) ⊗ h) (lit (pos 1)) ∷ known q ((w ⊕ ⊖ z) ⊗ h) ∷ equal (lit (pos 1)) (w ⊕ ⊖ q) x ∷ known x r ∷ []) refl
            z_ w q half (row_weigh (λ t. value_at z t -ℚ q) (row_at m s c)) (row_weigh (λ t. hit m goals 1 near.0 (unfolded m policy near.0 t) t) (row_at m s c))
            small half_twice (unit_fraction-le ((w -ℚ z_) *ℚ half) small) (sym shifted) less),
      )

  -- a smaller choice at s: this choice first and the policy after it, at each depth
  pub stays_below_of_better : (s c : ℕ) → IsBetterChoice Min m goals z s c → DeepTreesStayBelow m None goals z s
  stays_below_of_better s c b =
      let z_ : ℚ = value_at z s in
      let w : ℚ = row_weigh (value_at z) (row_at m s c) in
      let gap : 0ℚ <ℚ z_ -ℚ w = sub-pos _ _ b.better in
      let row : IsRow (states_of m) (row_at m s c) = IsMdp.row known_ s c b.state b.choice in
      let near : ratio (pos 1) (z_ -ℚ w).den ≤ℚ z_ -ℚ w = unit_fraction-le (z_ -ℚ w) gap in
      ((z_ -ℚ w).den, den-pos (z_ -ℚ w), λ n. tree_at s c b row (ratio (pos 1) (z_ -ℚ w).den) near n)
    where
      tree_at : (s c : ℕ) → IsBetterChoice Min m goals z s c → IsRow (states_of m) (row_at m s c) → (q : ℚ) → q ≤ℚ value_at z s -ℚ row_weigh (value_at z) (row_at m s c)
          → (n : ℕ) → (u : ℕ) × (t : Tree) × IsStrategy m u n t s × (hit m goals u n t s +ℚ q ≤ℚ value_at z s)
      tree_at s c b row q near zero = (
        1,
        leaf,
        record { mixes = omega arith; fits = tt },
        subst (λ (x : ℚ). x +ℚ q ≤ℚ value_at z s) (sym (hit-end m goals 1 leaf s (omega arith) b.no_goal))
            (linear 3 (λ z w q. lit (pos 0) ⊕ q) (λ z w q. z) (λ z w q. known q (z ⊕ ⊖ w) ∷ known (lit (pos 0)) w ∷ []) refl (value_at z s) (row_weigh (value_at z) (row_at m s c)) q near
            (weigh-nonneg (λ (y : Entry). y.target) (λ (y : Entry). y.prob) (value_at z) (row_at m s c) (probs_nonneg (states_of m) (row_at m s c) row) value-nonneg)),
      )
      tree_at s c b row q near (suc n) = (
        1,
        first_choice m s c (unfolded m policy n),
        record { mixes = omega arith; fits = first_choice_fits m n s c (unfolded m policy n) known_ b.choice (λ t l. unfolded_fits m policy n t known_ rules.choices l) },
        subst (λ (x : ℚ). x +ℚ q ≤ℚ value_at z s) (sym (first_choice-is m goals n s c (unfolded m policy n) known_ b.state b.no_goal b.choice))
            (linear 4 (λ z w q x. x ⊕ q) (λ z w q x. z) (λ z w q x. known q (z ⊕ ⊖ w) ∷ known x w ∷ []) refl (value_at z s) (row_weigh (value_at z) (row_at m s c)) q
            (row_weigh (λ t. hit m goals 1 n (unfolded m policy n t) t) (row_at m s c)) near
            (weigh-le_at (λ (y : Entry). y.target) (λ (y : Entry). y.prob) (λ t. hit m goals 1 n (unfolded m policy n t) t) (value_at z) (row_at m s c)
            (probs_nonneg (states_of m) (row_at m s c) row) (λ j d l. below_ n (Entry.target (get_or (row_at m s c) j d)) (row.in_range j d l)))),
      )

-- ---- there are no other values

module _ (m : Mdp) (stay : Option (List Bool)) (goals : List Bool) (policy : List ℕ) where
  policy_at_most : (z w : List ℚ) (s : ℕ) → PolicyBound m stay goals z policy → PolicyBound m stay goals w policy → s < states_of m → value_at z s ≤ℚ value_at w s
  policy_at_most z w s p q h =
      le_of_bounds (value_at z s) (value_at w s)
      (λ e he.
      let c = p.close s e.den h (den-pos e) in
      linear 5 (λ z w x q e. z) (λ z w x q e. w ⊕ e) (λ z w x q e. known z (x ⊕ q) ∷ known x w ∷ known q e ∷ []) refl (value_at z s) (value_at w s) (comes m stay goals 1 c.0 (unfolded m policy c.0 s) s)
      (part e.den) e c.1 (q.below c.0 s h) (unit_fraction-le e he))

-- the values of a policy are unique
pub policy_value_unique : HasOneValue
policy_value_unique m stay goals policy z w s p q h = ≤ℚ_antisymm _ _ (policy_at_most m stay goals policy z w s p q h) (policy_at_most m stay goals policy w z s q p h)
