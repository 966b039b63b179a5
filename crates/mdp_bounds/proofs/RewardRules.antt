-- The verdict on a lower and an upper reward for each state, a policy and ranks is yes exactly where the rules hold in exact numbers and no sum is
-- past width.
use Rattle.std.proofs.Common.{◌≡◌, ℕ, ◌<◌, Bool, true, false, true≢false, not, ◌||◌, lt-ltb, ltb-true, eqb-true, eq-eqb, List, [], ◌∷◌, ◌++◌, cond, length, slice_index}
use Rattle.std.proofs.{Common.{Option, Some, ◌↔◌, refl, sym, ap, subst, ◌∙◌}, lemmas.List.Elements.{All-from_recursion, recursion_from_All}}
use Rattle.mdp_math.specs.Rational.{ℚ, ◌≤ℚ◌}
use Rattle.mdp_math.proofs.{Options.{Some_same}, Extremes.{le_of_test, test_of_le}}
use Rattle.mdp_spec.specs.{Mdp.{Mdp, states_of, choices_at, choice_at, value_at}, Row.{IsMdp}, Unit.{reward_of}, Tree.{IsPolicy, is_marked}}
use Rattle.mdp_spec.specs.{Bounds.{reward_at, finite_part, infinite}, Between.{RewardMaxBetween, RewardMinBetween}}
use Rattle.mdp_spec.specs.RewardRules.{backup, IsTransient, AreRewards}
use Rattle.mdp_spec.proofs.{Values.{part-nonneg, finite_of_some}, Reward.{reward_max_between_of_rules, reward_min_between_of_rules}}
use Rattle.mdp_farkas.specs.{Verdict.{Check, verdict_of, InWidth, IsYes, IfYes}, Compare.{0ℚ}, Reach.{other}}
use Rattle.mdp_farkas.specs.Reward.{stay_check, stay_checks, is_looked_at, rank_fall_check, rank_fall_checks, all_miss_check, infinite_checks}
use Rattle.mdp_bounds.specs.Reward.{lower_on_each, MeetsRewardBetween, nonneg_check, goal_checks, earning_check, earning_checks, policy_earning_check, sign_check, sign_checks, NoneNegative}
use Rattle.mdp_bounds.specs.Reward.{half_checks, finite_checks, kind_checks, lower_checks, upper_value_checks, reward_bounds_at, reward_bounds_checks, IsRewardBounds}
use Rattle.mdp_rows.specs.{declared.dir.Dir.{Dir}, declared.dir.Dir.TheVariants.{Max, Min}}
use Rattle.mdp_claims.specs.{declared.verdict.Fault.{Fault}, declared.verdict.Verdict.{Verdict}, declared.verdict.Verdict.TheVariants.{No}}
use Rattle.mdp_farkas.proofs.Holds.{Each, Holds, Sound, each_of_yes, yes_of_each, told_of_each, if_yes, holds_of_sound, never_no}
use Rattle.mdp_farkas.proofs.Holds.{each_append, each_left, each_right, each_flat, each_flat_at, each_map, each_map_at, each_if, each_if_true, each_if_false}
use Rattle.mdp_farkas.proofs.Inequalities.{Stands}
use Rattle.mdp_farkas.proofs.RewardRules.{stays_of_test, test_of_stays, falls_of_test, test_of_falls, misses_of_test, test_of_misses, all_misses_of_test, test_of_all_misses}
use Rattle.mdp_bounds.proofs.Earnings.{some_nonneg, nonneg_true, zero_of_test, zero_true, earning_of, earning_sound}

-- ---- the order of the two values

pub implied : (a b : Bool) → (not a || b) ≡ true → a ≡ true → b ≡ true
implied true b e h = e
implied false b e h = absurd (true≢false (sym h))

pub implies : (a b : Bool) → (a ≡ true → b ≡ true) → (not a || b) ≡ true
implies true b h = h refl
implies false b h = refl

-- ---- one value: rule 9, and what belongs to its kind

module _ (m : Mdp) (goals : List Bool) (v : List (Option ℚ)) (ranks : List ℕ) (without within : ℕ → List Check) where
  abbrev side : ℕ → List Check
  side s = nonneg_check v s ∷ kind_checks goals v ranks s (without s) (within s)

  goal_of : (P : Check → Type 0) (s : ℕ) → is_marked goals s ≡ true → Each P (side s) → Each P (goal_checks v ranks s)
  goal_of P s g h = each_if_true P (is_marked goals s) (goal_checks v ranks s) (cond (is_marked (infinite v) s) (without s) (within s)) g h.1

  without_of : (P : Check → Type 0) (s : ℕ) → is_marked goals s ≡ false → is_marked (infinite v) s ≡ true → Each P (side s) → Each P (without s)
  without_of P s g i h =
      each_if_true P (is_marked (infinite v) s) (without s) (within s) i
      (each_if_false P (is_marked goals s) (goal_checks v ranks s) (cond (is_marked (infinite v) s) (without s) (within s)) g h.1)

  within_of : (P : Check → Type 0) (s : ℕ) → is_marked goals s ≡ false → is_marked (infinite v) s ≡ false → Each P (side s) → Each P (within s)
  within_of P s g f h =
      each_if_false P (is_marked (infinite v) s) (without s) (within s) f
      (each_if_false P (is_marked goals s) (goal_checks v ranks s) (cond (is_marked (infinite v) s) (without s) (within s)) g h.1)

  rewards_of : ((s : ℕ) → s < states_of m → Each Holds (side s)) → AreRewards m goals v ranks
  rewards_of h = record {
    at_least_zero = λ s x l e. some_nonneg (reward_at v s) x e (Some_same _ _ (h s l).0);
    at_goal = λ s l g. let at = goal_of Holds s g (h s l) in (zero_of_test (reward_at v s) (Some_same _ _ at.0), eqb-true (slice_index ranks s) 0 (Some_same _ _ at.1.0));
  }

  side_sound : (s : ℕ) → s < states_of m → AreRewards m goals v ranks → (is_marked (infinite v) s ≡ true → Each Sound (without s)) → (IsTransient m goals v s → Each Sound (within s))
      → Each Sound (side s)
  side_sound s l are outside inside = (
    λ w. ap Some (nonneg_true (reward_at v s) (λ x e. AreRewards.at_least_zero are s x l e)),
    each_if Sound (is_marked goals s) (goal_checks v ranks s) (cond (is_marked (infinite v) s) (without s) (within s))
        (λ g. let at = AreRewards.at_goal are s l g in (λ w. ap Some (zero_true (reward_at v s) at.0), (λ w. ap Some (eq-eqb (slice_index ranks s) 0 at.1), tt)))
        (λ g. each_if Sound (is_marked (infinite v) s) (without s) (within s) outside (λ f. inside (l, g, f))),
  )

-- a goal has no infinite value
no_goal : (m : Mdp) (goals : List Bool) (v : List (Option ℚ)) (ranks : List ℕ) → AreRewards m goals v ranks → (s : ℕ) → s < states_of m → is_marked (infinite v) s ≡ true
    → (b : Bool) → is_marked goals s ≡ b → b ≡ false
no_goal m goals v ranks are s l i true g = absurd (true≢false (sym i ∙ finite_of_some v s 0ℚ (AreRewards.at_goal are s l g).0))
no_goal m goals v ranks are s l i false g = refl

-- ---- a finite value: the half on each choice, and the half on the policy's choice

module _ (dir : Dir) (m : Mdp) (known : IsMdp m) (r : ℕ) (v : List (Option ℚ)) (s : ℕ) (l : s < states_of m) where
  abbrev earnings_by : ℕ → List Check
  earnings_by c = cond (is_looked_at dir m v s c) (earning_check dir m r v s c ∷ []) []

  module _ (values : (t : ℕ) → t < states_of m → 0ℚ ≤ℚ value_at (finite_part v) t) (none_negative : NoneNegative m r) where
    each_earns : (c : ℕ) → Each Holds (earning_checks dir m r v s) → c < length (choices_at m s) → is_looked_at dir m v s c ≡ true
        → Stands dir (value_at (finite_part v) s) (backup m r s c (finite_part v))
    each_earns c h i e =
        earning_of m known r v s c l i dir values (none_negative s c l i)
        (each_if_true Holds (is_looked_at dir m v s c) (earning_check dir m r v s c ∷ []) [] e (each_flat_at Holds earnings_by (length (choices_at m s)) c h i)).0

    choice_earns : (c : ℕ) → c < length (choices_at m s) → Each Holds (policy_earning_check dir m r v s c ∷ [])
        → Stands (other dir) (value_at (finite_part v) s) (backup m r s c (finite_part v))
    choice_earns c i h = earning_of m known r v s c l i (other dir) values (none_negative s c l i) h.0

  each_sound : ((c : ℕ) → c < length (choices_at m s) → is_looked_at dir m v s c ≡ true → Stands dir (value_at (finite_part v) s) (backup m r s c (finite_part v)))
      → Each Sound (earning_checks dir m r v s)
  each_sound earning =
      each_flat Sound earnings_by (length (choices_at m s))
      (λ c i.
      each_if Sound (is_looked_at dir m v s c) (earning_check dir m r v s c ∷ []) [] (λ e. (λ w. earning_sound m known r v s c l i dir (earning c i e) w, tt)) (λ e. tt))

  choice_sound : (c : ℕ) → c < length (choices_at m s) → Stands (other dir) (value_at (finite_part v) s) (backup m r s c (finite_part v))
      → Each Sound (policy_earning_check dir m r v s c ∷ [])
  choice_sound c i h = (λ w. earning_sound m known r v s c l i (other dir) h w, tt)

-- ---- the checks at a state

module _ (dir : Dir) (m : Mdp) (r : ℕ) (goals : List Bool) (lower upper : List (Option ℚ)) (policy ranks : List ℕ) where
  abbrev checks : List Check
  checks = reward_bounds_checks dir m r goals lower upper policy ranks

  abbrev missing : ℕ → List Check
  missing s = infinite_checks dir m lower ranks s (slice_index policy s)

  abbrev low_finite : ℕ → List Check
  low_finite s = finite_checks (lower_on_each dir) dir m r lower s (slice_index policy s) ++ rank_fall_checks dir m ranks s (slice_index policy s)

  abbrev nothing : ℕ → List Check
  nothing s = []

  abbrev high_finite : ℕ → List Check
  high_finite s = finite_checks (not (lower_on_each dir)) dir m r upper s (slice_index policy s)

  abbrev low : ℕ → List Check
  low s = lower_checks dir m r goals lower ranks s (slice_index policy s)

  abbrev high : ℕ → List Check
  high s = upper_value_checks dir m r goals upper ranks s (slice_index policy s)

  -- ---- what holds, in exact numbers

  module _ (h : Each Holds checks) where
    at : (s : ℕ) → s < states_of m → Each Holds (reward_bounds_at dir m r goals lower upper ranks s (slice_index policy s))
    at s l = each_flat_at Holds (λ s. reward_bounds_at dir m r goals lower upper ranks s (slice_index policy s)) (states_of m) s h l

    low_at : (s : ℕ) → s < states_of m → Each Holds (low s)
    low_at s l = each_left Holds (low s) (high s ++ sign_checks m r s) (at s l).1.1

    high_at : (s : ℕ) → s < states_of m → Each Holds (high s)
    high_at s l = each_left Holds (high s) (sign_checks m r s) (each_right Holds (low s) (high s ++ sign_checks m r s) (at s l).1.1)

    signs_at : (s : ℕ) → s < states_of m → Each Holds (sign_checks m r s)
    signs_at s l = each_right Holds (high s) (sign_checks m r s) (each_right Holds (low s) (high s ++ sign_checks m r s) (at s l).1.1)

    choices_of : length policy ≡ states_of m → IsPolicy m policy
    choices_of each = record { one_each = each; in_range = λ s l. ltb-true (slice_index policy s) (length (choices_at m s)) (Some_same _ _ (at s l).0) }

    lower_rewards : AreRewards m goals lower ranks
    lower_rewards = rewards_of m goals lower ranks missing low_finite low_at

    upper_rewards : AreRewards m goals upper ranks
    upper_rewards = rewards_of m goals upper ranks nothing high_finite high_at

    lower_nonneg : (t : ℕ) → t < states_of m → 0ℚ ≤ℚ value_at (finite_part lower) t
    lower_nonneg t l = part-nonneg m goals lower ranks t lower_rewards l

    upper_nonneg : (t : ℕ) → t < states_of m → 0ℚ ≤ℚ value_at (finite_part upper) t
    upper_nonneg t l = part-nonneg m goals upper ranks t upper_rewards l

    order_of : (s : ℕ) → (s < states_of m) × (is_marked (infinite lower) s ≡ true) → is_marked (infinite upper) s ≡ true
    order_of s i = implied (is_marked (infinite lower) s) (is_marked (infinite upper) s) (Some_same _ _ (at s i.0).1.0) i.1

    nonneg_of : NoneNegative m r
    nonneg_of s c l i = le_of_test 0ℚ (reward_of (choice_at m s c) r) (Some_same _ _ (each_map_at Holds (sign_check m r s) (length (choices_at m s)) c (signs_at s l) i))

    missing_at : (s : ℕ) → (s < states_of m) × (is_marked (infinite lower) s ≡ true) → Each Holds (missing s)
    missing_at s i =
        without_of m goals lower ranks missing low_finite Holds s (no_goal m goals lower ranks lower_rewards s i.0 i.1 (is_marked goals s) refl) i.1 (low_at s i.0)

    low_finite_at : (s : ℕ) → IsTransient m goals lower s → Each Holds (low_finite s)
    low_finite_at s t = within_of m goals lower ranks missing low_finite Holds s t.1 t.2 (low_at s t.0)

    low_both : (s : ℕ) → IsTransient m goals lower s → Each Holds (finite_checks (lower_on_each dir) dir m r lower s (slice_index policy s))
    low_both s t =
        each_left Holds (finite_checks (lower_on_each dir) dir m r lower s (slice_index policy s)) (rank_fall_checks dir m ranks s (slice_index policy s)) (low_finite_at s t)

    low_stays : (s : ℕ) → IsTransient m goals lower s → Each Holds (stay_checks dir m lower s (slice_index policy s))
    low_stays s t = each_left Holds (stay_checks dir m lower s (slice_index policy s)) (half_checks (lower_on_each dir) dir m r lower s (slice_index policy s)) (low_both s t)

    low_half : (s : ℕ) → IsTransient m goals lower s → Each Holds (half_checks (lower_on_each dir) dir m r lower s (slice_index policy s))
    low_half s t = each_right Holds (stay_checks dir m lower s (slice_index policy s)) (half_checks (lower_on_each dir) dir m r lower s (slice_index policy s)) (low_both s t)

    low_falls : (s : ℕ) → IsTransient m goals lower s → Each Holds (rank_fall_checks dir m ranks s (slice_index policy s))
    low_falls s t =
        each_right Holds (finite_checks (lower_on_each dir) dir m r lower s (slice_index policy s)) (rank_fall_checks dir m ranks s (slice_index policy s)) (low_finite_at s t)

    high_finite_at : (s : ℕ) → IsTransient m goals upper s → Each Holds (high_finite s)
    high_finite_at s t = within_of m goals upper ranks nothing high_finite Holds s t.1 t.2 (high_at s t.0)

    high_stays : (s : ℕ) → IsTransient m goals upper s → Each Holds (stay_checks dir m upper s (slice_index policy s))
    high_stays s t = each_left Holds (stay_checks dir m upper s (slice_index policy s)) (half_checks (not (lower_on_each dir)) dir m r upper s (slice_index policy s)) (high_finite_at s t)

    high_half : (s : ℕ) → IsTransient m goals upper s → Each Holds (half_checks (not (lower_on_each dir)) dir m r upper s (slice_index policy s))
    high_half s t = each_right Holds (stay_checks dir m upper s (slice_index policy s)) (half_checks (not (lower_on_each dir)) dir m r upper s (slice_index policy s)) (high_finite_at s t)

  -- ---- and the other way round: no check is false

  module _ (s : ℕ) (l : s < states_of m) (takes : slice_index policy s < length (choices_at m s)) (ordered : is_marked (infinite lower) s ≡ true → is_marked (infinite upper) s ≡ true)
      (lower_are : AreRewards m goals lower ranks) (upper_are : AreRewards m goals upper ranks)
      (nonneg : (c : ℕ) → c < length (choices_at m s) → 0ℚ ≤ℚ reward_of (choice_at m s c) r)
      (outside : is_marked (infinite lower) s ≡ true → Each Sound (missing s))
      (staying : IsTransient m goals lower s → Each Sound (stay_checks dir m lower s (slice_index policy s)))
      (half : IsTransient m goals lower s → Each Sound (half_checks (lower_on_each dir) dir m r lower s (slice_index policy s)))
      (falling : IsTransient m goals lower s → Each Sound (rank_fall_checks dir m ranks s (slice_index policy s)))
      (upper_staying : IsTransient m goals upper s → Each Sound (stay_checks dir m upper s (slice_index policy s)))
      (upper_half : IsTransient m goals upper s → Each Sound (half_checks (not (lower_on_each dir)) dir m r upper s (slice_index policy s))) where
    state_sound : Each Sound (reward_bounds_at dir m r goals lower upper ranks s (slice_index policy s))
    state_sound = (
      λ w. ap Some (lt-ltb (slice_index policy s) (length (choices_at m s)) takes),
      (
        λ w. ap Some (implies (is_marked (infinite lower) s) (is_marked (infinite upper) s) ordered),
        each_append Sound (low s) (high s ++ sign_checks m r s)
            (side_sound m goals lower ranks missing low_finite s l lower_are outside
            (λ t.
            each_append Sound (finite_checks (lower_on_each dir) dir m r lower s (slice_index policy s)) (rank_fall_checks dir m ranks s (slice_index policy s))
            (each_append Sound (stay_checks dir m lower s (slice_index policy s)) (half_checks (lower_on_each dir) dir m r lower s (slice_index policy s)) (staying t) (half t)) (falling t)))
            (each_append Sound (high s) (sign_checks m r s)
            (side_sound m goals upper ranks nothing high_finite s l upper_are (λ i. tt)
            (λ t.
            each_append Sound (stay_checks dir m upper s (slice_index policy s)) (half_checks (not (lower_on_each dir)) dir m r upper s (slice_index policy s)) (upper_staying t) (upper_half t)))
            (each_map Sound (sign_check m r s) (length (choices_at m s)) (λ c i w. ap Some (test_of_le 0ℚ (reward_of (choice_at m s c) r) (nonneg c i))))),
      ),
    )

-- ---- each direction

module _ (m : Mdp) (known : IsMdp m) (r : ℕ) (goals : List Bool) (lower upper : List (Option ℚ)) (policy ranks : List ℕ) where
  meets_of_holds : (dir : Dir) → r < length m.names → length lower ≡ states_of m → length upper ≡ states_of m → length policy ≡ states_of m
      → Each Holds (reward_bounds_checks dir m r goals lower upper policy ranks) → MeetsRewardBetween dir m r goals lower upper policy ranks
  meets_of_holds Max named one one_above each h = record {
    named = named;
    one_each = one;
    one_above = one_above;
    choices = choices_of Max m r goals lower upper policy ranks h each;
    lower_values = lower_rewards Max m r goals lower upper policy ranks h;
    upper_values = upper_rewards Max m r goals lower upper policy ranks h;
    ordered = order_of Max m r goals lower upper policy ranks h;
    upper_stays = λ s c t i.
        stays_of_test m upper ranks s c (Some_same _ _ (each_map_at Holds (stay_check m upper s) (length (choices_at m s)) c (high_stays Max m r goals lower upper policy ranks h s t) i));
    covers = λ s c t i. each_earns Max m known r upper s t.0 (upper_nonneg Max m r goals lower upper policy ranks h)
        (nonneg_of Max m r goals lower upper policy ranks h) c (high_half Max m r goals lower upper policy ranks h s t) i refl;
    stays = λ s c t i.
        stays_of_test m lower ranks s c (Some_same _ _ (each_map_at Holds (stay_check m lower s) (length (choices_at m s)) c (low_stays Max m r goals lower upper policy ranks h s t) i));
    reached = λ s t. choice_earns Max m known r lower s t.0 (lower_nonneg Max m r goals lower upper policy ranks h) (nonneg_of Max m r goals lower upper policy ranks h)
        (slice_index policy s) (IsPolicy.in_range (choices_of Max m r goals lower upper policy ranks h each) s t.0) (low_half Max m r goals lower upper policy ranks h s t);
    falls = λ s c t i.
        falls_of_test m lower ranks s c (Some_same _ _ (each_map_at Holds (rank_fall_check m ranks s) (length (choices_at m s)) c (low_falls Max m r goals lower upper policy ranks h s t) i));
    misses = λ s i. misses_of_test m lower ranks s (slice_index policy s) (Some_same _ _ (missing_at Max m r goals lower upper policy ranks h s i).0);
  }
  meets_of_holds Min named one one_above each h = record {
    named = named;
    one_each = one;
    one_above = one_above;
    choices = choices_of Min m r goals lower upper policy ranks h each;
    lower_values = lower_rewards Min m r goals lower upper policy ranks h;
    upper_values = upper_rewards Min m r goals lower upper policy ranks h;
    ordered = order_of Min m r goals lower upper policy ranks h;
    upper_stays = λ s t. stays_of_test m upper ranks s (slice_index policy s) (Some_same _ _ (high_stays Min m r goals lower upper policy ranks h s t).0);
    reached = λ s t. choice_earns Min m known r upper s t.0 (upper_nonneg Min m r goals lower upper policy ranks h) (nonneg_of Min m r goals lower upper policy ranks h)
        (slice_index policy s) (IsPolicy.in_range (choices_of Min m r goals lower upper policy ranks h each) s t.0) (high_half Min m r goals lower upper policy ranks h s t);
    stays = λ s t. stays_of_test m lower ranks s (slice_index policy s) (Some_same _ _ (low_stays Min m r goals lower upper policy ranks h s t).0);
    covered = λ s c t i f. each_earns Min m known r lower s t.0 (lower_nonneg Min m r goals lower upper policy ranks h)
        (nonneg_of Min m r goals lower upper policy ranks h) c (low_half Min m r goals lower upper policy ranks h s t) i (test_of_stays m lower ranks s c f);
    falls = λ s t. falls_of_test m lower ranks s (slice_index policy s) (Some_same _ _ (low_falls Min m r goals lower upper policy ranks h s t).0);
    misses = λ s c t i.
        all_misses_of_test m lower ranks s c
        (Some_same _ _ (each_map_at Holds (all_miss_check m lower ranks s) (length (choices_at m s)) c (missing_at Min m r goals lower upper policy ranks h s t) i));
  }

  module _ (nonneg : NoneNegative m r) where
    sound_at : (dir : Dir) (s : ℕ) → s < states_of m → MeetsRewardBetween dir m r goals lower upper policy ranks
        → Each Sound (reward_bounds_at dir m r goals lower upper ranks s (slice_index policy s))
    sound_at Max s l rules =
        state_sound Max m r goals lower upper policy ranks s l (rules.choices.in_range s l) (λ i. rules.ordered s (l, i)) rules.lower_values rules.upper_values (λ c i. nonneg s c l i)
        (λ i. (λ w. ap Some (test_of_misses m lower ranks s (slice_index policy s) (rules.misses s (l, i))), tt))
        (λ t. each_map Sound (stay_check m lower s) (length (choices_at m s)) (λ c i w. ap Some (test_of_stays m lower ranks s c (rules.stays s c t i))))
        (λ t. choice_sound Max m known r lower s l (slice_index policy s) (rules.choices.in_range s l) (rules.reached s t))
        (λ t. each_map Sound (rank_fall_check m ranks s) (length (choices_at m s)) (λ c i w. ap Some (test_of_falls m lower ranks s c (rules.falls s c t i))))
        (λ t. each_map Sound (stay_check m upper s) (length (choices_at m s)) (λ c i w. ap Some (test_of_stays m upper ranks s c (rules.upper_stays s c t i))))
        (λ t. each_sound Max m known r upper s l (λ c i e. rules.covers s c t i))
    sound_at Min s l rules =
        state_sound Min m r goals lower upper policy ranks s l (rules.choices.in_range s l) (λ i. rules.ordered s (l, i)) rules.lower_values rules.upper_values (λ c i. nonneg s c l i)
        (λ i. each_map Sound (all_miss_check m lower ranks s) (length (choices_at m s)) (λ c j w. ap Some (test_of_all_misses m lower ranks s c (rules.misses s c (l, i) j))))
        (λ t. (λ w. ap Some (test_of_stays m lower ranks s (slice_index policy s) (rules.stays s t)), tt))
        (λ t. each_sound Min m known r lower s l (λ c i e. rules.covered s c t i (stays_of_test m lower ranks s c e)))
        (λ t. (λ w. ap Some (test_of_falls m lower ranks s (slice_index policy s) (rules.falls s t)), tt))
        (λ t. (λ w. ap Some (test_of_stays m upper ranks s (slice_index policy s) (rules.upper_stays s t)), tt))
        (λ t. choice_sound Min m known r upper s l (slice_index policy s) (rules.choices.in_range s l) (rules.reached s t))

    pub reward_bounds_sound : (dir : Dir) → MeetsRewardBetween dir m r goals lower upper policy ranks → Each Sound (reward_bounds_checks dir m r goals lower upper policy ranks)
    reward_bounds_sound dir rules =
        each_flat Sound (λ s. reward_bounds_at dir m r goals lower upper ranks s (slice_index policy s)) (states_of m) (λ s l. sound_at dir s l rules)

    -- so what meets the rules is never answered no
    pub reward_bounds_never_no : (dir : Dir) → MeetsRewardBetween dir m r goals lower upper policy ranks → (f : Fault)
        → verdict_of (reward_bounds_checks dir m r goals lower upper policy ranks) ≡ No f → ⊥
    reward_bounds_never_no dir rules = never_no (reward_bounds_checks dir m r goals lower upper policy ranks) (reward_bounds_sound dir rules)

  module _ (dir : Dir) (verdict : Verdict) (named : r < length m.names) (one : length lower ≡ states_of m) (one_above : length upper ≡ states_of m) (each : length policy ≡ states_of m)
      (e : verdict ≡ verdict_of (reward_bounds_checks dir m r goals lower upper policy ranks)) where
    is_of_yes : IsYes verdict → IsRewardBounds dir m r goals lower upper policy ranks
    is_of_yes yes_ =
        let h = each_of_yes (reward_bounds_checks dir m r goals lower upper policy ranks) (sym e ∙ yes_) in
        record {
          rules = meets_of_holds dir named one one_above each h;
          nonneg = nonneg_of dir m r goals lower upper policy ranks h;
          in_width = All-from_recursion InWidth (reward_bounds_checks dir m r goals lower upper policy ranks)
              (told_of_each (reward_bounds_checks dir m r goals lower upper policy ranks) h);
        }

    pub reward_bounds_rules : IsYes verdict ↔ IsRewardBounds dir m r goals lower upper policy ranks
    reward_bounds_rules = (
      is_of_yes,
      λ is.
          e ∙ yes_of_each (reward_bounds_checks dir m r goals lower upper policy ranks)
          (holds_of_sound (reward_bounds_checks dir m r goals lower upper policy ranks) (reward_bounds_sound is.nonneg dir is.rules)
          (recursion_from_All InWidth (reward_bounds_checks dir m r goals lower upper policy ranks) is.in_width)),
    )

    pub reward_bounds_max : dir ≡ Max → IfYes verdict (RewardMaxBetween m r goals policy lower upper)
    reward_bounds_max is =
        if_yes verdict (RewardMaxBetween m r goals policy lower upper)
        (λ yes_. reward_max_between_of_rules m r goals lower upper policy ranks known
        (subst (λ (d : Dir). MeetsRewardBetween d m r goals lower upper policy ranks) is (IsRewardBounds.rules (is_of_yes yes_))))

    pub reward_bounds_min : dir ≡ Min → IfYes verdict (RewardMinBetween m r goals policy lower upper)
    reward_bounds_min is =
        if_yes verdict (RewardMinBetween m r goals policy lower upper)
        (λ yes_. reward_min_between_of_rules m r goals lower upper policy ranks known
        (subst (λ (d : Dir). MeetsRewardBetween d m r goals lower upper policy ranks) is (IsRewardBounds.rules (is_of_yes yes_))))
