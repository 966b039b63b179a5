-- Exact answers whose checks have no term past width: their numbers are in width.
use Rattle.std.proofs.Common.{◌≡◌, inl, inr, ℕ, ◌<◌, Bool, true, cond, List, [], ◌∷◌, ◌++◌, length, slice_index, slice_index_or, Option, Some, None, refl}
use Rattle.std.proofs.Common.{sym, subst, ◌∙◌, pos, arith, lit<}
use Rattle.std.proofs.lemmas.{Bool.{cases_Bool, cases_lt, true≢false}, List.{get_or_past}, List.Elements.{All-get_or, All-from_get_or, recursion_from_All}}
use Rattle.std.specs.{Option.{IsSome, option_and_then, option_map}, List.{All}}
use Rattle.mdp_math.specs.{Rational.{ℚ, of_int, neg_ℚ, ◌+ℚ◌}, Written.{written_add, written_compare}}
use Rattle.mdp_math.proofs.{Options.{step_told, Some_same}, Order.{≤ℚ_antisymm}}
use Rattle.mdp_num.specs.{Numeral.{limit}, Value.{IsNarrow}, Written.{written_sub}}
use borrow.Author.Tests.{leb-true}
use Rattle.mdp_spec.specs.{Mdp.{Mdp, Entry, no_state, no_choice, states_of, choices_at, choice_at, row_at, value_at}, Row.{row_sum}, Tree.{is_marked}, Unit.{reward_of}, Written.{written_sum}}
use Rattle.mdp_spec.specs.{Bounds.{reward_at, finite_part, infinite}, MeanRules.{spread_of}, RewardRules.{backup, IsTransient}}
use Rattle.mdp_spec.proofs.{Summed.{written_sum-some}, Values.{part_of_some, finite_of_some}}
use Rattle.mdp_rows.specs.{Better.{is_better}, Limits.{HasSmallTerms, IsChoiceWithin, IsStateWithin, IsModel}, declared.dir.Dir.{Dir}, declared.dir.Dir.TheVariants.{Max, Min}}
use Rattle.mdp_farkas.specs.{Bellman.{stands, sum_stands}, Compare.{0ℚ, 1ℚ, not_greater, is_equal}, Spread.{written_extreme, written_width, written_spread}, Verdict.{Check, InWidth, at_choices}}
use Rattle.mdp_farkas.specs.{Reach.{other, reach_at, reach_checks, IsReach}, Reward.{MeetsReward, IsReward}, Mean.{MeetsMean, IsMean}}
use Rattle.mdp_farkas.specs.Reward as reward
use Rattle.mdp_farkas.specs.Mean as mean
use Rattle.mdp_farkas.proofs.{Holds.{Each, each_left, each_right, each_if_false, each_flat_at, each_map_at}, Spreading.{either, written_spread-some}}
use Rattle.mdp_command_bounds_search.proofs.Narrow.{sum_took, row_sum_made, compared_with_one, whole_narrow, small_narrow}

-- ---- what is told

pub some_told : {A B : Type 0} (f : A → Option B) (o : Option A) → IsSome (option_and_then f o) → (a : A) × (Some a ≡ o) × IsSome (f a)
some_told f None w = absurd (true≢false (sym w))
some_told f (Some a) w = (a, refl, w)

map_told : {A B : Type 0} (f : A → B) (o : Option A) → IsSome (option_map f o) → IsSome o
map_told f None w = absurd (true≢false (sym w))
map_told f (Some a) w = refl

zero_narrow : IsNarrow 0ℚ
zero_narrow = whole_narrow 0 (lit< tt)

-- a number from which a row's sum stands somehow, and the sum
told_narrow : (dir : Dir) (x : ℚ) (z : List ℚ) (acc : ℚ) (row : List Entry) → IsNarrow acc → IsSome (sum_stands dir x z acc row) → IsNarrow (acc +ℚ row_sum row z)
told_narrow dir x z acc row n w =
    let t = some_told (stands dir x) (written_sum z acc row) w in
    subst IsNarrow (written_sum-some z acc row t.0 t.1) (row_sum_made z acc t.0 row n t.1)

-- ---- the rewards of a model

zero_small : HasSmallTerms 0ℚ
unfolding of_int
zero_small = record { num = leb-true 0 limit refl; den = leb-true 1 limit refl }

module _ (m : Mdp) (model : IsModel m) where
  among : (rewards : List ℚ) (r : ℕ) → All HasSmallTerms rewards → HasSmallTerms (slice_index_or rewards r (of_int (pos 0)))
  among rewards r each = elim (cases_lt r (length rewards)) [
    | inl l ↦ All-get_or HasSmallTerms rewards r (of_int (pos 0)) l each
    | inr past ↦ subst HasSmallTerms (sym (get_or_past rewards r (of_int (pos 0)) past)) zero_small
  ]

  pub earned_small : (s c r : ℕ) → s < states_of m → c < length (choices_at m s) → HasSmallTerms (reward_of (choice_at m s c) r)
  earned_small s c r h i =
      let state = All-get_or (IsStateWithin (length m.names)) m.states s no_state h model.states in
      let choice = All-get_or (IsChoiceWithin (length m.names)) (choices_at m s) c no_choice i state.choices in
      among (choice_at m s c).rewards r choice.terms

  earned_narrow : (s c r : ℕ) → s < states_of m → c < length (choices_at m s) → IsNarrow (reward_of (choice_at m s c) r)
  earned_narrow s c r h i = small_narrow _ (earned_small s c r h i)

-- ---- probabilities

module _ (dir : Dir) (m : Mdp) (goals : List Bool) (z : List ℚ) (policy ranks : List ℕ) (is : IsReach dir m goals z policy ranks) (count : length z ≡ states_of m) where
  pub reach_narrow : All IsNarrow z
  reach_narrow = All-from_get_or IsNarrow z 0ℚ (λ s l.
      let w =
      each_flat_at InWidth (λ s. reach_at dir m goals z ranks s (slice_index policy s)) (states_of m) s
      (recursion_from_All InWidth (reach_checks dir m goals z policy ranks) is.in_width) (omega (arith, l, count)) in
      compared_with_one (value_at z s) (map_told not_greater (written_compare (value_at z s) 1ℚ) w.1.1.0))

-- ---- rewards until a goal

module _ (m : Mdp) (model : IsModel m) (r : ℕ) (goals : List Bool) (v : List (Option ℚ)) (policy ranks : List ℕ) where
  earned : (dir : Dir) (s : ℕ) → MeetsReward dir m r goals v policy ranks → IsTransient m goals v s
      → (slice_index policy s < length (choices_at m s)) × (value_at (finite_part v) s ≡ backup m r s (slice_index policy s) (finite_part v))
  earned Max s h t =
      let i = h.choices.in_range s t.0 in (i, ≤ℚ_antisymm _ _ (h.reached s t) (h.covers s (slice_index policy s) t i))
  earned Min s h t =
      let i = h.choices.in_range s t.0 in (i, ≤ℚ_antisymm _ _ (h.covered s (slice_index policy s) t i (h.stays s t)) (h.reached s t))

  at_goal : (dir : Dir) (s : ℕ) → MeetsReward dir m r goals v policy ranks → s < states_of m → is_marked goals s ≡ true → reward_at v s ≡ Some 0ℚ
  at_goal Max s h l g = (h.values.at_goal s l g).0
  at_goal Min s h l g = (h.values.at_goal s l g).0

  module _ (dir : Dir) (is : IsReward dir m r goals v policy ranks) where
    abbrev last : ℕ → List Check
    last s = reward.policy_earning_check dir m r v s (slice_index policy s) ∷ reward.rank_fall_checks dir m ranks s (slice_index policy s)

    -- the sum on the policy's choice of a transient state
    policy_told : (s : ℕ) → IsTransient m goals v s → IsSome (reward.earning_stands (other dir) m r v s (slice_index policy s))
    policy_told s t =
        let choice : ℕ = slice_index policy s in
        let w =
        each_flat_at InWidth (λ s. reward.reward_checks_at dir m r goals v ranks s (slice_index policy s)) (states_of m) s
        (recursion_from_All InWidth (reward.reward_checks dir m r goals v policy ranks) is.in_width) t.0 in
        let place = each_left InWidth (reward.place_checks dir m r goals v ranks s (slice_index policy s)) (reward.sign_checks m r s) w.1.1 in
        let finite =
        each_if_false InWidth (is_marked (infinite v) s) (reward.infinite_checks dir m v ranks s (slice_index policy s)) (reward.transient_checks dir m r v ranks s (slice_index policy s)) t.2
        (each_if_false InWidth (is_marked goals s) (reward.goal_checks v ranks s)
        (cond (is_marked (infinite v) s) (reward.infinite_checks dir m v ranks s (slice_index policy s)) (reward.transient_checks dir m r v ranks s (slice_index policy s))) t.1 place) in
        let sums = each_right InWidth (reward.stay_checks dir m v s (slice_index policy s)) (reward.earning_checks dir m r v s ++ last s) finite in
        (each_right InWidth (reward.earning_checks dir m r v s) (last s) sums).0

    transient_narrow : (s : ℕ) → IsTransient m goals v s → IsNarrow (value_at (finite_part v) s)
    transient_narrow s t =
        let own = earned dir s is.rules t in
        subst IsNarrow (sym own.1)
        (told_narrow (other dir) (value_at (finite_part v) s) (finite_part v) (reward_of (choice_at m s (slice_index policy s)) r) (row_at m s (slice_index policy s))
        (earned_narrow m model s (slice_index policy s) r t.0 own.0) (policy_told s t))

    -- each finite value
    pub reward_narrow : (s : ℕ) (x : ℚ) → s < states_of m → reward_at v s ≡ Some x → IsNarrow x
    reward_narrow s x l e = elim (cases_Bool (is_marked goals s)) [
      | inl g ↦ subst IsNarrow (Some_same 0ℚ x (sym (at_goal dir s is.rules l g) ∙ e)) zero_narrow
      | inr g ↦ subst IsNarrow (part_of_some v s x e) (transient_narrow s (l, g, finite_of_some v s x e))
    ]

-- ---- mean payoffs

width_made : (z : List ℚ) (w : ℚ) → Some w ≡ written_width z → IsNarrow w
width_made z w e =
    let high = step_told (written_extreme Max z) (λ high. option_and_then (λ low. written_sub high low) (written_extreme Min z)) w e in
    let low = step_told (written_extreme Min z) (λ low. written_sub high.0 low) w high.2 in
    (sum_took high.0 (neg_ℚ low.0) w low.2).made

spread_made : (a b : List ℚ) (w : ℚ) → Some w ≡ written_spread a b → IsNarrow w
spread_made a b w e =
    let p = step_told (written_width a) _ w e in
    let q = step_told (written_width b) _ w p.2 in
    let o = step_told (written_compare q.0 p.0) _ w q.2 in
    subst IsNarrow (sym (Some_same w _ o.2)) (either IsNarrow (is_better Max o.0) q.0 p.0 (width_made b q.0 q.1) (width_made a p.0 p.1))

module _ (dir : Dir) (m : Mdp) (model : IsModel m) (r : ℕ) (g a b : List ℚ) (spread : ℚ) (policy : List ℕ) (is : IsMean dir m r g a b spread policy) where
  all_told : Each InWidth (mean.mean_checks dir m r g a b spread policy)
  all_told = recursion_from_All InWidth (mean.mean_checks dir m r g a b spread policy) is.in_width

  relative : ℕ → List Check
  relative s = at_choices m s (mean.relative_check dir m r g a s)

  followed : ℕ → List Check
  followed s = mean.policy_gain_check m g s (slice_index policy s) ∷ mean.policy_bias_check m r g b s (slice_index policy s) ∷ []

  told_at : (s : ℕ) → s < states_of m → Each InWidth (relative s ++ followed s)
  unfolding relative followed
  told_at s h =
      let states = each_left InWidth (mean.state_checks dir m r g a b policy) (mean.spread_check a b spread ∷ []) all_told in
      let w = each_flat_at InWidth (λ s. mean.mean_checks_at dir m r g a b s (slice_index policy s)) (states_of m) s states h in
      each_right InWidth (at_choices m s (mean.gain_check dir m g s)) (relative s ++ followed s) w.1

  -- the gain and the bound of a state, and its bias
  step_narrow : (s : ℕ) → s < states_of m → IsNarrow (value_at g s) × IsNarrow (value_at a s)
  unfolding relative followed
  step_narrow s h =
      let first =
      each_map_at InWidth (mean.relative_check dir m r g a s) (length (choices_at m s)) 0 (each_left InWidth (relative s) (followed s) (told_at s h)) (model.mdp.choice s h) in
      let step = some_told _ (written_add (value_at g s) (value_at a s)) first in
      let took = sum_took (value_at g s) (value_at a s) step.0 step.1 in (took.left, took.right)

  bias_narrow : (s : ℕ) → s < states_of m → IsNarrow (value_at b s)
  unfolding relative followed
  bias_narrow s h =
      let last = each_right InWidth (relative s) (followed s) (told_at s h) in
      let step = some_told _ (written_add (value_at g s) (value_at b s)) last.1.0 in
      (sum_took (value_at g s) (value_at b s) step.0 step.1).right

  widest : (d : Dir) → MeetsMean d m r g a b spread policy → spread ≡ spread_of a b
  widest Max h = h.spreads.widest
  widest Min h = h.spreads.widest

  spread_told : IsSome (option_and_then (is_equal spread) (written_spread a b))
  spread_told = (each_right InWidth (mean.state_checks dir m r g a b policy) (mean.spread_check a b spread ∷ []) all_told).0

  pub spread_narrow : IsNarrow spread
  spread_narrow =
      let t = some_told (is_equal spread) (written_spread a b) spread_told in
      subst IsNarrow (written_spread-some a b t.0 t.1 ∙ sym (widest dir is.rules)) (spread_made a b t.0 t.1)

  each_narrow : (z : List ℚ) → length z ≡ states_of m → ((s : ℕ) → s < states_of m → IsNarrow (value_at z s)) → All IsNarrow z
  each_narrow z count narrow = All-from_get_or IsNarrow z 0ℚ (λ s l. narrow s (omega (arith, l, count)))

  pub gains_narrow : length g ≡ states_of m → All IsNarrow g
  gains_narrow count = each_narrow g count (λ s h. (step_narrow s h).0)

  pub bounds_narrow : length a ≡ states_of m → All IsNarrow a
  bounds_narrow count = each_narrow a count (λ s h. (step_narrow s h).1)

  pub biases_narrow : length b ≡ states_of m → All IsNarrow b
  biases_narrow count = each_narrow b count bias_narrow
