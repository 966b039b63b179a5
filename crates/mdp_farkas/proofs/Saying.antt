-- What the rules say of all places is together what they ask in exact numbers.
use Rattle.std.proofs.Common.{◌≡◌, ◌↔◌, ℕ, ◌<◌, Bool, List, length, slice_index, Option, Some, None, refl, sym, subst}
use Rattle.mdp_math.specs.Rational.{ℚ, ◌+ℚ◌, ◌≤ℚ◌}
use Rattle.mdp_spec.specs.{Mdp.{Mdp, states_of, choices_at, choice_at, row_at, value_at}, Row.{row_sum}, Unit.{reward_of}, Tree.{IsPolicy}}
use Rattle.mdp_spec.specs.{Rules.{AreProbabilities, MeetsUpper}, RewardRules.{backup, Falls, StaysFinite, AreRewards}, MeanRules.{IsEvaluation}}
use Rattle.mdp_farkas.specs.{Compare.{0ℚ}, Reach.{MeetsReach}, Reward.{MeetsReward}, Mean.{MeetsMean}}
use Rattle.mdp_farkas.specs.Says.{IsRowBound, LeadsOn, IsEarningBound, Misses, UpperSays, ReachSays, RewardSays, MeanSays}
use Rattle.mdp_rows.specs.{declared.dir.Dir.{Dir}, declared.dir.Dir.TheVariants.{Max, Min}}
use Rattle.mdp_claims.specs.declared.rule.Rule.{Rule}
use Rattle.mdp_claims.specs.declared.rule.Rule.TheVariants.{ChoiceExists, Probability, GoalValue, ValueOnEachChoice, ValueOnPolicy, RankZero, RankFalls}
use Rattle.mdp_claims.specs.declared.rule.Rule.TheVariants.{RewardValue, FiniteTargets, RewardOnEachChoice, RewardOnPolicy, FiniteRankFalls, PolicyMisses, EachChoiceMisses}
use Rattle.mdp_claims.specs.declared.rule.Rule.TheVariants.{RewardNotNegative, GainOnEachChoice, BoundOnEachChoice, GainOnPolicy, BiasOnPolicy, SpreadIsGreatest}

-- what is said of all places
abbrev Everywhere : (Rule → Option ℕ → Option ℕ → Type 0) → Type 0
Everywhere Says = (rule : Rule) (state choice : Option ℕ) → Says rule state choice

-- what holds of the policy's choice holds of c, where the policy takes c
taken : (P : ℕ → Type 0) (policy : List ℕ) (s c : ℕ) → c ≡ slice_index policy s → P (slice_index policy s) → P c
taken P policy s c e h = subst P (sym e) h

exists : (m : Mdp) (policy : List ℕ) (s c : ℕ) → IsPolicy m policy → s < states_of m → c ≡ slice_index policy s → c < length (choices_at m s)
exists m policy s c takes l e = subst (λ (c : ℕ). c < length (choices_at m s)) (sym e) (takes.in_range s l)

-- ---- upper bounds

module _ (m : Mdp) (goals : List Bool) (z : List ℚ) where
  upper_says : MeetsUpper m goals z → Everywhere (UpperSays m goals z)
  upper_says k Probability (Some s) None = λ l. (k.probabilities.at_least_zero s l, k.probabilities.at_most_one s l)
  upper_says k GoalValue (Some s) None = λ l g. k.probabilities.at_goal s l g
  upper_says k ValueOnEachChoice (Some s) (Some c) = λ l g i. k.covers s c l g i
  upper_says k rule state choice = tt

  upper_meets : Everywhere (UpperSays m goals z) → MeetsUpper m goals z
  upper_meets says = record {
    probabilities = record {
      at_least_zero = λ s l. (says Probability (Some s) None l).0;
      at_most_one = λ s l. (says Probability (Some s) None l).1;
      at_goal = λ s l g. says GoalValue (Some s) None l g;
    };
    covers = λ s c l g i. says ValueOnEachChoice (Some s) (Some c) l g i;
  }

pub upper_says_all : (m : Mdp) (goals : List Bool) (z : List ℚ) → MeetsUpper m goals z ↔ ((rule : Rule) (state choice : Option ℕ) → UpperSays m goals z rule state choice)
upper_says_all m goals z = (upper_says m goals z, upper_meets m goals z)

-- ---- reaching a goal

module _ (m : Mdp) (goals : List Bool) (z : List ℚ) (policy ranks : List ℕ) where
  pub reach_says : (dir : Dir) → MeetsReach dir m goals z policy ranks → (rule : Rule) (state choice : Option ℕ) → ReachSays dir m goals z policy ranks rule state choice
  reach_says Max k ChoiceExists (Some s) (Some c) = λ l e. exists m policy s c k.choices l e
  reach_says Max k Probability (Some s) None = λ l. (k.probabilities.at_least_zero s l, k.probabilities.at_most_one s l)
  reach_says Max k GoalValue (Some s) None = λ l g. k.probabilities.at_goal s l g
  reach_says Max k ValueOnEachChoice (Some s) (Some c) = λ l g i. k.covers s c l g i
  reach_says Max k ValueOnPolicy (Some s) (Some c) = λ l g e. taken (λ c. IsRowBound Min m z s c) policy s c e (k.reached s l g)
  reach_says Max k RankZero (Some s) None = λ l e. k.ends s l e
  reach_says Max k RankFalls (Some s) (Some c) = λ l g p e. taken (λ c. LeadsOn Max m z ranks s c) policy s c e (k.falls s l g p)
  reach_says Max k rule state choice = tt
  reach_says Min k ChoiceExists (Some s) (Some c) = λ l e. exists m policy s c k.choices l e
  reach_says Min k Probability (Some s) None = λ l. (k.probabilities.at_least_zero s l, k.probabilities.at_most_one s l)
  reach_says Min k GoalValue (Some s) None = λ l g. k.probabilities.at_goal s l g
  reach_says Min k ValueOnEachChoice (Some s) (Some c) = λ l g i. k.covered s c l g i
  reach_says Min k ValueOnPolicy (Some s) (Some c) = λ l g e. taken (λ c. IsRowBound Max m z s c) policy s c e (k.reached s l g)
  reach_says Min k RankZero (Some s) None = λ l e. k.ends s l e
  reach_says Min k RankFalls (Some s) (Some c) = λ l g p i. k.falls s c l g p i
  reach_says Min k rule state choice = tt

  module _ (dir : Dir) (says : (rule : Rule) (state choice : Option ℕ) → ReachSays dir m goals z policy ranks rule state choice) where
    probabilities_said : AreProbabilities m goals z
    probabilities_said = record {
      at_least_zero = λ s l. (says Probability (Some s) None l).0;
      at_most_one = λ s l. (says Probability (Some s) None l).1;
      at_goal = λ s l g. says GoalValue (Some s) None l g;
    }

    policy_said : length policy ≡ states_of m → IsPolicy m policy
    policy_said each = record { one_each = each; in_range = λ s l. says ChoiceExists (Some s) (Some (slice_index policy s)) l refl }

  reach_meets : (dir : Dir) → length policy ≡ states_of m → ((rule : Rule) (state choice : Option ℕ) → ReachSays dir m goals z policy ranks rule state choice)
      → MeetsReach dir m goals z policy ranks
  reach_meets Max each says = record {
    choices = policy_said Max says each;
    probabilities = probabilities_said Max says;
    covers = λ s c l g i. says ValueOnEachChoice (Some s) (Some c) l g i;
    reached = λ s l g. says ValueOnPolicy (Some s) (Some (slice_index policy s)) l g refl;
    ends = λ s l e. says RankZero (Some s) None l e;
    falls = λ s l g p. says RankFalls (Some s) (Some (slice_index policy s)) l g p refl;
  }
  reach_meets Min each says = record {
    choices = policy_said Min says each;
    probabilities = probabilities_said Min says;
    covered = λ s c l g i. says ValueOnEachChoice (Some s) (Some c) l g i;
    reached = λ s l g. says ValueOnPolicy (Some s) (Some (slice_index policy s)) l g refl;
    ends = λ s l e. says RankZero (Some s) None l e;
    falls = λ s c l g p i. says RankFalls (Some s) (Some c) l g p i;
  }

  pub reach_says_all : (dir : Dir) → length policy ≡ states_of m
      → MeetsReach dir m goals z policy ranks ↔ ((rule : Rule) (state choice : Option ℕ) → ReachSays dir m goals z policy ranks rule state choice)
  reach_says_all dir each = (reach_says dir, reach_meets dir each)

-- ---- rewards until a goal

module _ (m : Mdp) (r : ℕ) (goals : List Bool) (v : List (Option ℚ)) (policy ranks : List ℕ) where
  abbrev NoneNegative : Type 0
  NoneNegative = (s c : ℕ) → s < states_of m → c < length (choices_at m s) → 0ℚ ≤ℚ reward_of (choice_at m s c) r

  reward_says : (dir : Dir) → NoneNegative → MeetsReward dir m r goals v policy ranks → (rule : Rule) (state choice : Option ℕ)
      → RewardSays dir m r goals v policy ranks rule state choice
  reward_says Max nonneg k ChoiceExists (Some s) (Some c) = λ l e. exists m policy s c k.choices l e
  reward_says Max nonneg k RewardValue (Some s) None = λ l. (λ x e. k.values.at_least_zero s x l e, λ g. k.values.at_goal s l g)
  reward_says Max nonneg k FiniteTargets (Some s) (Some c) = λ t i. k.stays s c t i
  reward_says Max nonneg k RewardOnEachChoice (Some s) (Some c) = λ t i seen. k.covers s c t i
  reward_says Max nonneg k RewardOnPolicy (Some s) (Some c) = λ t e. taken (λ c. IsEarningBound Min m r v s c) policy s c e (k.reached s t)
  reward_says Max nonneg k FiniteRankFalls (Some s) (Some c) = λ t i. k.falls s c t i
  reward_says Max nonneg k PolicyMisses (Some s) (Some c) = λ d i e. taken (λ c. Misses m v ranks s c) policy s c e (k.misses s i)
  reward_says Max nonneg k EachChoiceMisses (Some s) (Some c) = λ d. absurd cc
  reward_says Max nonneg k RewardNotNegative (Some s) (Some c) = λ l i. nonneg s c l i
  reward_says Max nonneg k rule state choice = tt
  reward_says Min nonneg k ChoiceExists (Some s) (Some c) = λ l e. exists m policy s c k.choices l e
  reward_says Min nonneg k RewardValue (Some s) None = λ l. (λ x e. k.values.at_least_zero s x l e, λ g. k.values.at_goal s l g)
  reward_says Min nonneg k FiniteTargets (Some s) (Some c) = λ t e. taken (λ c. StaysFinite m v s c) policy s c e (k.stays s t)
  reward_says Min nonneg k RewardOnEachChoice (Some s) (Some c) = λ t i seen. k.covered s c t i seen
  reward_says Min nonneg k RewardOnPolicy (Some s) (Some c) = λ t e. taken (λ c. IsEarningBound Max m r v s c) policy s c e (k.reached s t)
  reward_says Min nonneg k FiniteRankFalls (Some s) (Some c) = λ t e. taken (λ c. Falls m ranks s c) policy s c e (k.falls s t)
  reward_says Min nonneg k PolicyMisses (Some s) (Some c) = λ d. absurd cc
  reward_says Min nonneg k EachChoiceMisses (Some s) (Some c) = λ d i j. k.misses s c i j
  reward_says Min nonneg k RewardNotNegative (Some s) (Some c) = λ l i. nonneg s c l i
  reward_says Min nonneg k rule state choice = tt

  module _ (dir : Dir) (says : (rule : Rule) (state choice : Option ℕ) → RewardSays dir m r goals v policy ranks rule state choice) where
    values_said : AreRewards m goals v ranks
    values_said = record {
      at_least_zero = λ s x l e. (says RewardValue (Some s) None l).0 x e;
      at_goal = λ s l g. (says RewardValue (Some s) None l).1 g;
    }

    takes_said : length policy ≡ states_of m → IsPolicy m policy
    takes_said each = record { one_each = each; in_range = λ s l. says ChoiceExists (Some s) (Some (slice_index policy s)) l refl }

  reward_meets : (dir : Dir) → r < length m.names → length v ≡ states_of m → length policy ≡ states_of m
      → ((rule : Rule) (state choice : Option ℕ) → RewardSays dir m r goals v policy ranks rule state choice) → MeetsReward dir m r goals v policy ranks
  reward_meets Max named one each says = record {
    named = named;
    one_each = one;
    choices = takes_said Max says each;
    values = values_said Max says;
    stays = λ s c t i. says FiniteTargets (Some s) (Some c) t i;
    covers = λ s c t i. says RewardOnEachChoice (Some s) (Some c) t i tt;
    reached = λ s t. says RewardOnPolicy (Some s) (Some (slice_index policy s)) t refl;
    falls = λ s c t i. says FiniteRankFalls (Some s) (Some c) t i;
    misses = λ s i. says PolicyMisses (Some s) (Some (slice_index policy s)) refl i refl;
  }
  reward_meets Min named one each says = record {
    named = named;
    one_each = one;
    choices = takes_said Min says each;
    values = values_said Min says;
    stays = λ s t. says FiniteTargets (Some s) (Some (slice_index policy s)) t refl;
    covered = λ s c t i f. says RewardOnEachChoice (Some s) (Some c) t i f;
    reached = λ s t. says RewardOnPolicy (Some s) (Some (slice_index policy s)) t refl;
    falls = λ s t. says FiniteRankFalls (Some s) (Some (slice_index policy s)) t refl;
    misses = λ s c i j. says EachChoiceMisses (Some s) (Some c) refl i j;
  }

  pub reward_says_all : (dir : Dir) → r < length m.names → length v ≡ states_of m → length policy ≡ states_of m
      → (MeetsReward dir m r goals v policy ranks × ((s c : ℕ) → s < states_of m → c < length (choices_at m s) → 0ℚ ≤ℚ reward_of (choice_at m s c) r))
      ↔ ((rule : Rule) (state choice : Option ℕ) → RewardSays dir m r goals v policy ranks rule state choice)
  reward_says_all dir named one each = (
    λ h. reward_says dir h.1 h.0,
    λ says. (reward_meets dir named one each says, λ s c l i. says RewardNotNegative (Some s) (Some c) l i),
  )

-- ---- mean payoffs

module _ (m : Mdp) (r : ℕ) (g a b : List ℚ) (spread : ℚ) (policy : List ℕ) where
  mean_says : (dir : Dir) → MeetsMean dir m r g a b spread policy → (rule : Rule) (state choice : Option ℕ) → MeanSays dir m r g a b spread policy rule state choice
  mean_says Max k ChoiceExists (Some s) (Some c) = λ l e. exists m policy s c k.choices l e
  mean_says Max k GainOnEachChoice (Some s) (Some c) = λ l i. k.gain_covers s c l i
  mean_says Max k BoundOnEachChoice (Some s) (Some c) = λ l i. k.bound_covers s c l i
  mean_says Max k GainOnPolicy (Some s) (Some c) = λ l e. taken (λ c. row_sum (row_at m s c) g ≡ value_at g s) policy s c e (k.evaluation.gain s l)
  mean_says Max k BiasOnPolicy (Some s) (Some c) = λ l e. taken (λ c. backup m r s c b ≡ value_at g s +ℚ value_at b s) policy s c e (k.evaluation.bias s l)
  mean_says Max k SpreadIsGreatest None None = k.spreads.widest
  mean_says Max k rule state choice = tt
  mean_says Min k ChoiceExists (Some s) (Some c) = λ l e. exists m policy s c k.choices l e
  mean_says Min k GainOnEachChoice (Some s) (Some c) = λ l i. k.gain_covered s c l i
  mean_says Min k BoundOnEachChoice (Some s) (Some c) = λ l i. k.bound_covered s c l i
  mean_says Min k GainOnPolicy (Some s) (Some c) = λ l e. taken (λ c. row_sum (row_at m s c) g ≡ value_at g s) policy s c e (k.evaluation.gain s l)
  mean_says Min k BiasOnPolicy (Some s) (Some c) = λ l e. taken (λ c. backup m r s c b ≡ value_at g s +ℚ value_at b s) policy s c e (k.evaluation.bias s l)
  mean_says Min k SpreadIsGreatest None None = k.spreads.widest
  mean_says Min k rule state choice = tt

  module _ (dir : Dir) (says : (rule : Rule) (state choice : Option ℕ) → MeanSays dir m r g a b spread policy rule state choice) where
    evaluation_said : IsEvaluation m r g b policy
    evaluation_said = record {
      gain = λ s l. says GainOnPolicy (Some s) (Some (slice_index policy s)) l refl;
      bias = λ s l. says BiasOnPolicy (Some s) (Some (slice_index policy s)) l refl;
    }

    choices_said : length policy ≡ states_of m → IsPolicy m policy
    choices_said each = record { one_each = each; in_range = λ s l. says ChoiceExists (Some s) (Some (slice_index policy s)) l refl }

  mean_meets : (dir : Dir) → r < length m.names → length a ≡ states_of m → length b ≡ states_of m → length policy ≡ states_of m
      → ((rule : Rule) (state choice : Option ℕ) → MeanSays dir m r g a b spread policy rule state choice) → MeetsMean dir m r g a b spread policy
  mean_meets Max named bounds biases each says = record {
    named = named;
    choices = choices_said Max says each;
    spreads = record { bounds = bounds; biases = biases; widest = says SpreadIsGreatest None None };
    gain_covers = λ s c l i. says GainOnEachChoice (Some s) (Some c) l i;
    bound_covers = λ s c l i. says BoundOnEachChoice (Some s) (Some c) l i;
    evaluation = evaluation_said Max says;
  }
  mean_meets Min named bounds biases each says = record {
    named = named;
    choices = choices_said Min says each;
    spreads = record { bounds = bounds; biases = biases; widest = says SpreadIsGreatest None None };
    gain_covered = λ s c l i. says GainOnEachChoice (Some s) (Some c) l i;
    bound_covered = λ s c l i. says BoundOnEachChoice (Some s) (Some c) l i;
    evaluation = evaluation_said Min says;
  }

  pub mean_says_all : (dir : Dir) → r < length m.names → length a ≡ states_of m → length b ≡ states_of m → length policy ≡ states_of m
      → MeetsMean dir m r g a b spread policy ↔ ((rule : Rule) (state choice : Option ℕ) → MeanSays dir m r g a b spread policy rule state choice)
  mean_says_all dir named bounds biases each = (mean_says dir, mean_meets dir named bounds biases each)
