-- Of each bound: values and a policy that meet it, and what it refuses: a policy that isn't one, a reward name that the model doesn't have, a
-- start past the last state, values and constants that are too great or too small.
use Rattle.std.proofs.Common.{◌≡◌, ℕ, zero, suc, ◌<◌, ◌⊎◌, Bool, true, false, true≢false, List, [], ◌∷◌, length, slice_index, Option, Some, None, pos, refl, sym, subst, arith, inl, inr}
use Rattle.std.proofs.lemmas.List.Elements.{All-from_recursion}
use Rattle.std.specs.List.{Any}
use Rattle.mdp_math.specs.{Gcd.{gcd, gcd_with_fuel}, Rational.{ℚ, of_int, ratio, ◌+ℚ◌, ◌*ℚ◌, ◌-ℚ◌, neg_ℚ, le_ℚ, lt_ℚ, ◌≤ℚ◌, ◌<ℚ◌}}
use Rattle.mdp_math.proofs.{Order.{≤ℚ_of_eq, ≤ℚ_of_lt, ≤ℚ_trans, ratio-nonneg}, Ring.{◌⊕◌, lit}, Linear.{linear, known}}
use Rattle.mdp_spec.specs.{Mdp.{Mdp, states_of, choices_at, row_at, value_at}, Row.{IsRow, IsMdp, row_sum}, Unit.{unit_of, scale_of}}
use Rattle.mdp_spec.specs.{Tree.{IsStrategy, IsPolicy, unfolded, is_marked}, Hit.{hit}, Pay.{pay, total, Enters}, Sub.{sub_of, policy_on}}
use Rattle.mdp_spec.specs.{Rules.{AreProbabilities, MeetsReachMax, MeetsReachMin}, BetweenRules.{MeetsReachMaxBetween}}
use Rattle.mdp_spec.specs.Bounds.{ReachMax, ReachMin, RewardMax, RewardMin, MaxFinite, MinFinite, MeanMax, MeanMin, SubMax, SubMaxWithin, SubMin, Above, greatest_finite, infinite, part, whole}
use Rattle.mdp_spec.proofs.{Keeping.{unfolded_is_strategy}, Reach.{reach_max_of_rules, reach_min_of_rules, reach_max_unique, reach_min_unique, above_of_rules}}
use Rattle.mdp_spec.proofs.{Subsystem.{loop_is_row, sub-states, sub_is_mdp, policy_on_sub}, Examples.{choice, three, goals}, Small.{entry, nought, one, third}}

pub below_3 : (P : ℕ → Type 0) → P 0 → P 1 → P 2 → (s : ℕ) → s < 3 → P s
below_3 P a b c zero h = a
below_3 P a b c (suc zero) h = b
below_3 P a b c (suc (suc zero)) h = c
below_3 P a b c (suc (suc (suc s))) h = absurd (omega arith)

below_2 : (P : ℕ → Type 0) → P 0 → P 1 → (s : ℕ) → s < 2 → P s
below_2 P a b zero h = a
below_2 P a b (suc zero) h = b
below_2 P a b (suc (suc s)) h = absurd (omega arith)

-- ---- policies. In the model `three` of Examples state 0 has two choices, and 1 and 2 have one each

abbrev pub goes_on : List ℕ
goes_on = 1 ∷ 0 ∷ 0 ∷ []

pub policy_three : IsPolicy three goes_on
policy_three = record { one_each = refl; in_range = below_3 (λ s. slice_index goes_on s < length (choices_at three s)) (omega arith) (omega arith) (omega arith) }

-- choice 7 where there is one, and too few and too many entries
not_seventh : IsPolicy three (1 ∷ 7 ∷ 0 ∷ []) → ⊥
not_seventh p = let h = p.in_range 1 (omega arith) in omega (arith, h)

not_short : IsPolicy three (1 ∷ 0 ∷ []) → ⊥
not_short p = let e = p.one_each in omega (arith, e)

not_long : IsPolicy three (1 ∷ 0 ∷ 0 ∷ 0 ∷ []) → ⊥
not_long p = let e = p.one_each in omega (arith, e)

-- so none of the bounds is met with such a policy, whatever the values
wrong_policy-reach : (z : List ℚ) → (ReachMax three goals z (1 ∷ 7 ∷ 0 ∷ []) → ⊥) × (ReachMin three goals z (1 ∷ 7 ∷ 0 ∷ []) → ⊥)
wrong_policy-reach z = (λ b. not_seventh b.takes, λ b. not_seventh b.takes)

wrong_policy-reward : (v : List (Option ℚ)) → (RewardMax three 0 goals (1 ∷ 7 ∷ 0 ∷ []) v → ⊥) × (RewardMin three 0 goals (1 ∷ 7 ∷ 0 ∷ []) v → ⊥)
wrong_policy-reward v = (λ b. not_seventh b.takes, λ b. not_seventh b.takes)

wrong_policy-mean : (g : List ℚ) (spread : ℚ) → (MeanMax three 0 g spread (1 ∷ 7 ∷ 0 ∷ []) → ⊥) × (MeanMin three 0 g spread (1 ∷ 7 ∷ 0 ∷ []) → ⊥)
wrong_policy-mean g spread = (λ b. not_seventh b.takes, λ b. not_seventh b.takes)

-- the model has one reward name, that of place 0
no_such_name : (v : List (Option ℚ)) (g : List ℚ) (spread : ℚ) (policy : List ℕ)
    → (RewardMax three 1 goals policy v → ⊥) × (RewardMin three 1 goals policy v → ⊥) × (MeanMax three 1 g spread policy → ⊥) × (MeanMin three 1 g spread policy → ⊥)
no_such_name v g spread policy = (
  λ b. let h = b.named in omega (arith, h),
  λ b. let h = b.named in omega (arith, h),
  λ b. let h = b.named in omega (arith, h),
  λ b. let h = b.named in omega (arith, h),
)

-- ---- `three` is a model

goes_on_row : IsRow 3 (row_at three 0 1)
unfolding gcd gcd_with_fuel ratio of_int ◌+ℚ◌ lt_ℚ
goes_on_row = record {
  distribution = record { ascending = refl; positive = All-from_recursion (λ x. nought <ℚ x.prob) (row_at three 0 1) (record { lt = tt }, (record { lt = tt }, tt)); total = refl };
  in_range = All-from_recursion (λ x. x.target < 3) (row_at three 0 1) (omega arith, (omega arith, tt));
}

pub three_model : IsMdp three
three_model = record { some = omega arith; few = omega arith; choice = below_3 (λ s. 0 < length (choices_at three s)) (omega arith) (omega arith) (omega arith); row = rows }
  where
    rows : (s c : ℕ) → s < 3 → c < length (choices_at three s) → IsRow 3 (row_at three s c)
    rows zero zero h l = loop_is_row 3 0 (omega arith)
    rows zero (suc zero) h l = goes_on_row
    rows zero (suc (suc c)) h l = absurd (omega arith)
    rows (suc zero) zero h l = loop_is_row 3 1 (omega arith)
    rows (suc zero) (suc c) h l = absurd (omega arith)
    rows (suc (suc zero)) zero h l = loop_is_row 3 2 (omega arith)
    rows (suc (suc zero)) (suc c) h l = absurd (omega arith)
    rows (suc (suc (suc s))) c h l = absurd (omega arith)

-- ---- the greatest probabilities: 1/3 from state 0, by going on

-- z at state 0, where 1 is the goal and state 2 never leads there
abbrev pub chances : ℚ → List ℚ
chances z = z ∷ one ∷ nought ∷ []

probabilities_three : (z : ℚ) → nought ≤ℚ z → z ≤ℚ one → AreProbabilities three goals (chances z)
unfolding of_int le_ℚ
probabilities_three z low high = record {
  at_least_zero = below_3 (λ s. nought ≤ℚ value_at (chances z) s) low (record { le = tt }) (record { le = tt });
  at_most_one = below_3 (λ s. value_at (chances z) s ≤ℚ one) high (record { le = tt }) (record { le = tt });
  at_goal = below_3 (λ s. is_marked goals s ≡ true → value_at (chances z) s ≡ one) (λ g. absurd (true≢false (sym g))) (λ g. refl) (λ g. absurd (true≢false (sym g)));
}

-- the choices at the states that are no goal
each_choice : (C : ℕ → ℕ → Type 0) → C 0 0 → C 0 1 → C 2 0 → (s c : ℕ) → s < 3 → is_marked goals s ≡ false → c < length (choices_at three s) → C s c
each_choice C a b d zero zero h g l = a
each_choice C a b d zero (suc zero) h g l = b
each_choice C a b d zero (suc (suc c)) h g l = absurd (omega arith)
each_choice C a b d (suc zero) c h g l = absurd (true≢false g)
each_choice C a b d (suc (suc zero)) zero h g l = d
each_choice C a b d (suc (suc zero)) (suc c) h g l = absurd (omega arith)
each_choice C a b d (suc (suc (suc s))) c h g l = absurd (omega arith)

-- going on meets the rules with lower values up to 1/3 and upper ones from there
pub goes_on_rules : (low high : ℚ) → nought <ℚ low → low ≤ℚ third → third ≤ℚ high → high ≤ℚ one → row_sum (row_at three 0 0) (chances high) ≤ℚ high
    → MeetsReachMaxBetween three goals (chances low) (chances high) goes_on (1 ∷ 0 ∷ 0 ∷ [])
unfolding gcd gcd_with_fuel ratio of_int ◌+ℚ◌ ◌*ℚ◌ le_ℚ lt_ℚ
goes_on_rules low high above at_most at_least below loop = record {
  choices = policy_three;
  lower_values = probabilities_three low (≤ℚ_of_lt nought low above) (≤ℚ_trans low third one at_most (record { le = tt }));
  upper_values = probabilities_three high (≤ℚ_trans nought third high (record { le = tt }) at_least) below;
  covers = each_choice (λ s c. row_sum (row_at three s c) (chances high) ≤ℚ value_at (chances high) s) loop at_least (record { le = tt });
  reached =
      below_3 (λ s. is_marked goals s ≡ false → value_at (chances low) s ≤ℚ row_sum (row_at three s (slice_index goes_on s)) (chances low))
      (λ g. at_most) (λ g. absurd (true≢false g)) (λ g. record { le = tt });
  ends = λ s h which. ranks s h which;
  falls = below_3
      (λ s. is_marked goals s ≡ false → nought <ℚ value_at (chances low) s
      → Any (λ y. (nought <ℚ value_at (chances low) y.target) × (slice_index (1 ∷ 0 ∷ 0 ∷ []) y.target < slice_index (1 ∷ 0 ∷ 0 ∷ []) s)) (row_at three s (slice_index goes_on s)))
      (λ g p. (0, entry 1 third, omega arith, refl, (record { lt = tt }, omega arith)))
      (λ g p. absurd (true≢false g)) (λ g p. absurd p.lt);
}
  where
    ranks : (s : ℕ) → s < 3 → (is_marked goals s ≡ true) ⊎ (value_at (chances low) s ≡ nought) → slice_index (1 ∷ 0 ∷ 0 ∷ []) s ≡ 0
    ranks zero h (inl g) = absurd (true≢false (sym g))
    ranks zero h (inr e) = let h : nought <ℚ nought = subst (λ (x : ℚ). nought <ℚ x) e above in absurd h.lt
    ranks (suc zero) h which = refl
    ranks (suc (suc zero)) h which = refl
    ranks (suc (suc (suc s))) h which = absurd (omega arith)

abbrev pub greatest_chances : List ℚ
greatest_chances = chances third

max_rules : MeetsReachMax three goals greatest_chances goes_on (1 ∷ 0 ∷ 0 ∷ [])
unfolding gcd gcd_with_fuel ratio of_int ◌+ℚ◌ ◌*ℚ◌ le_ℚ lt_ℚ
max_rules =
    let k = goes_on_rules third third (record { lt = tt }) (record { le = tt }) (record { le = tt }) (record { le = tt }) (record { le = tt }) in
    record { choices = k.choices; probabilities = k.lower_values; covers = k.covers; reached = k.reached; ends = k.ends; falls = k.falls }

pub three_max : ReachMax three goals greatest_chances goes_on
three_max = reach_max_of_rules three goals greatest_chances goes_on (1 ∷ 0 ∷ 0 ∷ []) three_model max_rules

-- nothing comes close to 1/2, so no policy meets the bound with it
not_half : (policy : List ℕ) → ReachMax three goals (chances (ratio (pos 1) 2)) policy → ⊥
unfolding gcd gcd_with_fuel ratio of_int le_ℚ
not_half policy b =
    let h : ratio (pos 1) 2 ≤ℚ third = ≤ℚ_of_eq (ratio (pos 1) 2) third
    (reach_max_unique three goals three_model (chances (ratio (pos 1) 2)) greatest_chances policy goes_on 0 b three_max (omega arith)) in
    h.le

-- 1/4 is passed by the tree that goes on
not_quarter : (policy : List ℕ) → ReachMax three goals (chances (ratio (pos 1) 4)) policy → ⊥
unfolding gcd gcd_with_fuel ratio of_int le_ℚ unit_of hit
not_quarter policy b =
    let h : hit three goals 1 1 (unfolded three goes_on 1 0) 0 ≤ℚ ratio (pos 1) 4 = b.above.above 1 1 (unfolded three goes_on 1 0) 0 (omega arith)
    (unfolded_is_strategy three goes_on 1 0 three_model policy_three (omega arith)) in
    h.le

-- ---- the least probabilities: 0 from state 0, by its loop

abbrev pub loops : List ℕ
loops = 0 ∷ 0 ∷ 0 ∷ []

policy_loops : IsPolicy three loops
policy_loops = record { one_each = refl; in_range = below_3 (λ s. slice_index loops s < length (choices_at three s)) (omega arith) (omega arith) (omega arith) }

abbrev pub least_chances : List ℚ
least_chances = chances nought

min_rules : MeetsReachMin three goals least_chances loops loops
unfolding gcd gcd_with_fuel ratio of_int ◌+ℚ◌ ◌*ℚ◌ le_ℚ lt_ℚ
min_rules = record {
  choices = policy_loops;
  probabilities = probabilities_three nought (record { le = tt }) (record { le = tt });
  covered =
      each_choice (λ s c. value_at least_chances s ≤ℚ row_sum (row_at three s c) least_chances) (record { le = tt }) (record { le = tt }) (record { le = tt });
  reached =
      below_3 (λ s. is_marked goals s ≡ false → row_sum (row_at three s (slice_index loops s)) least_chances ≤ℚ value_at least_chances s) (λ g. record { le = tt })
      (λ g. absurd (true≢false g)) (λ g. record { le = tt });
  ends = λ s h which. below_3 (λ s. slice_index loops s ≡ 0) refl refl refl s h;
  falls = λ s c h g p l.
      below_3 (λ s. is_marked goals s ≡ false → nought <ℚ value_at least_chances s → Any (λ y. slice_index loops y.target < slice_index loops s) (row_at three s c)) (λ g p. absurd p.lt)
      (λ g p. absurd (true≢false g)) (λ g p. absurd p.lt) s h g p;
}

pub three_min : ReachMin three goals least_chances loops
three_min = reach_min_of_rules three goals least_chances loops loops three_model min_rules

-- the greatest probabilities aren't the least ones, and no policy makes them so
not_greatest : (policy : List ℕ) → ReachMin three goals greatest_chances policy → ⊥
unfolding gcd gcd_with_fuel ratio of_int le_ℚ
not_greatest policy b = let h : third ≤ℚ nought = ≤ℚ_of_eq third nought (reach_min_unique three goals three_model greatest_chances least_chances policy loops 0 b three_min (omega arith)) in h.le

-- ---- a model where state 0 goes to the goal 1 and earns 1 by that. A policy that takes a seventh choice would lose all paths, and make 0 the
-- least probability

abbrev goes : Mdp
goes = record {
  names = (99 ∷ []) ∷ [];
  labels = [];
  states = record { labels = []; choices = choice (entry 1 one ∷ []) (one ∷ []) ∷ [] } ∷ record { labels = []; choices = choice (entry 1 one ∷ []) (nought ∷ []) ∷ [] } ∷ [];
}

abbrev goal : List Bool
goal = false ∷ true ∷ []

goes_model : IsMdp goes
goes_model = record { some = omega arith; few = omega arith; choice = below_2 (λ s. 0 < length (choices_at goes s)) (omega arith) (omega arith); row = rows }
  where
    rows : (s c : ℕ) → s < 2 → c < length (choices_at goes s) → IsRow 2 (row_at goes s c)
    rows zero zero h l = loop_is_row 2 1 (omega arith)
    rows zero (suc c) h l = absurd (omega arith)
    rows (suc zero) zero h l = loop_is_row 2 1 (omega arith)
    rows (suc zero) (suc c) h l = absurd (omega arith)
    rows (suc (suc s)) c h l = absurd (omega arith)

policy_goes : IsPolicy goes (0 ∷ 0 ∷ [])
policy_goes = record { one_each = refl; in_range = below_2 (λ s. slice_index (0 ∷ 0 ∷ []) s < length (choices_at goes s)) (omega arith) (omega arith) }

-- the tree of depth 1 from state 0
first_tree : IsStrategy goes 1 1 (unfolded goes (0 ∷ 0 ∷ []) 1 0) 0
first_tree = unfolded_is_strategy goes (0 ∷ 0 ∷ []) 1 0 goes_model policy_goes (omega arith)

lost : hit goes goal 1 1 (unfolded goes (7 ∷ 7 ∷ []) 1 0) 0 ≡ nought
unfolding gcd gcd_with_fuel ratio of_int unit_of hit
lost = refl

not_lost : ReachMin goes goal (nought ∷ one ∷ []) (7 ∷ 7 ∷ []) → ⊥
not_lost b = let h = b.takes.in_range 0 (omega arith) in omega (arith, h)

-- ---- rewards

-- the greatest finite value is computed, and a value past the last state isn't taken for one
greatest_finite-three : greatest_finite (Some one ∷ None ∷ Some (of_int (pos 3)) ∷ Some nought ∷ []) ≡ of_int (pos 3)
unfolding of_int le_ℚ
greatest_finite-three = refl

greatest_finite-none : greatest_finite (None ∷ None ∷ []) ≡ nought
unfolding of_int le_ℚ
greatest_finite-none = refl

not_padded : (policy : List ℕ) → RewardMin goes 0 goal policy (Some one ∷ Some nought ∷ Some (of_int (pos 100)) ∷ []) → ⊥
not_padded policy b = let e = b.one_each in omega (arith, e)

-- of the one tree of depth 1, which earns 1 and arrives: 5 is more than the least reward, and 0 less than the greatest
five_too_much : (policy : List ℕ) → RewardMin goes 0 goal policy (Some (of_int (pos 5)) ∷ Some nought ∷ []) → ⊥
unfolding gcd gcd_with_fuel ratio of_int ◌+ℚ◌ ◌*ℚ◌ neg_ℚ le_ℚ unit_of scale_of hit pay
five_too_much policy b = covers (MinFinite.covered (b.value 0 (omega arith)) 1 1 (unfolded goes (0 ∷ 0 ∷ []) 1 0) first_tree)
  where
    covers : Enters goes goal (infinite (Some (of_int (pos 5)) ∷ Some nought ∷ [])) 1 (unfolded goes (0 ∷ 0 ∷ []) 1 0) 0
        ⊎ (of_int (pos 5) ≤ℚ pay goes 0 goal 1 1 (unfolded goes (0 ∷ 0 ∷ []) 1 0) 0 +ℚ greatest_finite (Some (of_int (pos 5)) ∷ Some nought ∷ []) *ℚ
        (one -ℚ hit goes goal 1 1 (unfolded goes (0 ∷ 0 ∷ []) 1 0) 0))
        → ⊥
    covers (inl (inl e)) = true≢false (sym e)
    covers (inl (inr (g, inl (p, inl e)))) = true≢false (sym e)
    covers (inl (inr (g, inl (p, inr n)))) = n
    covers (inl (inr (g, inr n))) = n
    covers (inr h) = h.le

none_too_little : (policy : List ℕ) → RewardMax goes 0 goal policy (Some nought ∷ Some nought ∷ []) → ⊥
unfolding gcd gcd_with_fuel ratio of_int le_ℚ unit_of scale_of pay
none_too_little policy b =
    let h : pay goes 0 goal 1 1 (unfolded goes (0 ∷ 0 ∷ []) 1 0) 0 ≤ℚ nought = MaxFinite.above (b.value 0 (omega arith)) 1 1 (unfolded goes (0 ∷ 0 ∷ []) 1 0) first_tree in
    h.le

-- ---- mean payoff: the gains are 0, and since 1 is earned at first, a spread of 1/2 is too small for both directions

not_spread_max : (policy : List ℕ) → MeanMax goes 0 (nought ∷ nought ∷ []) (ratio (pos 1) 2) policy → ⊥
unfolding gcd gcd_with_fuel ratio of_int ◌+ℚ◌ ◌*ℚ◌ le_ℚ unit_of scale_of total
not_spread_max policy b =
    let h : total goes 0 1 1 (unfolded goes (0 ∷ 0 ∷ []) 1 0) 0 ≤ℚ whole 1 *ℚ nought +ℚ ratio (pos 1) 2 = b.above 1 1 (unfolded goes (0 ∷ 0 ∷ []) 1 0) 0 (omega arith) first_tree in
    h.le

not_spread_min : MeanMin goes 0 (nought ∷ nought ∷ []) (ratio (pos 1) 2) (0 ∷ 0 ∷ []) → ⊥
unfolding gcd gcd_with_fuel ratio of_int ◌+ℚ◌ ◌*ℚ◌ le_ℚ unit_of scale_of total
not_spread_min b =
    let h : total goes 0 1 1 (unfolded goes (0 ∷ 0 ∷ []) 1 0) 0 ≤ℚ whole 1 *ℚ nought +ℚ ratio (pos 1) 2 = b.policy_below 1 0 (omega arith) in
    h.le

-- a gain of 1 with a spread of 1 is too great: after three steps the tree has earned 1, and not 2
not_gain : (policy : List ℕ) → MeanMin goes 0 (one ∷ nought ∷ []) one policy → ⊥
unfolding gcd gcd_with_fuel ratio of_int ◌+ℚ◌ ◌*ℚ◌ le_ℚ unit_of scale_of total
not_gain policy b =
    let h : whole 3 *ℚ one ≤ℚ total goes 0 1 3 (unfolded goes (0 ∷ 0 ∷ []) 3 0) 0 +ℚ one = b.below 3 1 (unfolded goes (0 ∷ 0 ∷ []) 3 0) 0 (omega arith)
    (unfolded_is_strategy goes (0 ∷ 0 ∷ []) 3 0 goes_model policy_goes (omega arith)) in
    h.le

-- ---- subsystems. State 2 is past the last state of `goes`

no_such_start : (kept : List Bool) (t flows : ℚ) → (SubMax goes goal kept 2 t → ⊥) × (SubMaxWithin goes goal kept 2 t flows → ⊥) × (SubMin goes goal kept 2 t → ⊥)
no_such_start kept t flows = (λ b. let h = b.starts in omega (arith, h), λ b. let h = b.starts in omega (arith, h), λ b. let h = b.starts in omega (arith, h))

-- with state 0 kept, the goal is met in one step
sub_max_kept : SubMax goes goal (true ∷ []) 0 one
unfolding gcd gcd_with_fuel ratio of_int unit_of hit sub_of
sub_max_kept = record {
  starts = omega arith;
  close = λ k hk. (
    1,
    1,
    unfolded (sub_of goes goal (true ∷ [])) (0 ∷ 0 ∷ []) 1 0,
    unfolded_is_strategy (sub_of goes goal (true ∷ [])) (0 ∷ 0 ∷ []) 1 0 (sub_is_mdp goes goal (true ∷ []) goes_model)
        (policy_on_sub goes goal (true ∷ []) (0 ∷ 0 ∷ []) policy_goes) (omega arith),
    linear 1 (λ p. lit (pos 1)) (λ p. lit (pos 1) ⊕ p) (λ p. known (lit (pos 0)) p ∷ []) refl (part k) (ratio-nonneg 1 k hk),
  );
}

-- with none kept, state 0 loops: no tree passes 0, and 1/2 is out of reach
none_kept_above : Above (sub_of goes goal []) goal (nought ∷ one ∷ [])
unfolding gcd gcd_with_fuel ratio of_int ◌+ℚ◌ ◌*ℚ◌ le_ℚ sub_of
none_kept_above =
    above_of_rules (sub_of goes goal []) goal (nought ∷ one ∷ []) (sub_is_mdp goes goal [] goes_model)
    (record {
      at_least_zero = below_2 (λ s. nought ≤ℚ value_at (nought ∷ one ∷ []) s) (record { le = tt }) (record { le = tt });
      at_most_one = below_2 (λ s. value_at (nought ∷ one ∷ []) s ≤ℚ one) (record { le = tt }) (record { le = tt });
      at_goal = below_2 (λ s. is_marked goal s ≡ true → value_at (nought ∷ one ∷ []) s ≡ one) (λ g. absurd (true≢false (sym g))) (λ g. refl);
    })
    covered
  where
    covered : (s c : ℕ) → s < 2 → is_marked goal s ≡ false → c < length (choices_at (sub_of goes goal []) s)
        → row_sum (row_at (sub_of goes goal []) s c) (nought ∷ one ∷ []) ≤ℚ value_at (nought ∷ one ∷ []) s
    covered zero zero h g l = record { le = tt }
    covered zero (suc c) h g l = absurd (omega arith)
    covered (suc zero) c h g l = absurd (true≢false g)
    covered (suc (suc s)) c h g l = absurd (omega arith)

half_at_most_quarter : (x : ℚ) → ratio (pos 1) 2 ≤ℚ x +ℚ ratio (pos 1) 4 → x ≤ℚ nought → ⊥
unfolding gcd gcd_with_fuel ratio of_int le_ℚ
half_at_most_quarter x h k =
    let less : ratio (pos 1) 2 ≤ℚ ratio (pos 1) 4 = linear 3 (λ x t q. t) (λ x t q. q) (λ x t q. known t (x ⊕ q) ∷ known x (lit (pos 0)) ∷ []) refl x (ratio (pos 1) 2) (ratio (pos 1) 4) h k in
    less.le

none_kept_max : SubMax goes goal [] 0 (ratio (pos 1) 2) → ⊥
none_kept_max b =
    let c = b.close 4 (omega arith) in
    half_at_most_quarter (hit (sub_of goes goal []) goal c.1 c.0 c.2 0) c.4 (none_kept_above.above c.0 c.1 c.2 0 (omega (arith, sub-states goes goal [])) c.3)

none_kept_min : SubMin goes goal [] 0 (ratio (pos 1) 2) → ⊥
none_kept_min b =
    let c = b.close 4 (omega arith) in
    let h : 0 < states_of (sub_of goes goal []) = omega (arith, sub-states goes goal []) in
    let policy : IsPolicy (sub_of goes goal []) (policy_on goal [] (0 ∷ 0 ∷ [])) = policy_on_sub goes goal [] (0 ∷ 0 ∷ []) policy_goes in
    let tree : IsStrategy (sub_of goes goal []) 1 c.0 (unfolded (sub_of goes goal []) (0 ∷ 0 ∷ []) c.0 0) 0 = unfolded_is_strategy (sub_of goes goal []) (0 ∷ 0 ∷ []) c.0 0
    (sub_is_mdp goes goal [] goes_model) policy h in
    half_at_most_quarter (hit (sub_of goes goal []) goal 1 c.0 (unfolded (sub_of goes goal []) (0 ∷ 0 ∷ []) c.0 0) 0)
    (c.1 c.0 1 (unfolded (sub_of goes goal []) (0 ∷ 0 ∷ []) c.0 0) (omega arith) tree)
    (none_kept_above.above c.0 1 (unfolded (sub_of goes goal []) (0 ∷ 0 ∷ []) c.0 0) 0 h tree)
