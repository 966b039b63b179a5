-- Bounds that meet their rules in exact numbers meet what each rule says of a place.
use Rattle.std.proofs.Common.{◌≡◌, ℕ, ◌<◌, ◌⊎◌, Bool, List, length, slice_index, Option, Some, None, sym, subst}
use Rattle.mdp_math.specs.Rational.{ℚ}
use Rattle.mdp_spec.specs.{Mdp.{Mdp, states_of, choices_at}, Tree.{IsPolicy}, RewardRules.{Falls, StaysFinite, FallsInfinite, StaysInfinite, AreRewards}}
use Rattle.mdp_rows.specs.{declared.dir.Dir.{Dir}, declared.dir.Dir.TheVariants.{Max, Min}}
use Rattle.mdp_claims.specs.declared.rule.Rule.{Rule}
use Rattle.mdp_claims.specs.declared.rule.Rule.TheVariants.{ChoiceExists, Probability, GoalValue, ValueOnEachChoice, ValueOnPolicy, RankZero, RankFalls}
use Rattle.mdp_claims.specs.declared.rule.Rule.TheVariants.{RewardValue, FiniteTargets, RewardOnEachChoice, RewardOnPolicy, FiniteRankFalls, PolicyMisses, EachChoiceMisses}
use Rattle.mdp_claims.specs.declared.rule.Rule.TheVariants.{RewardNotNegative, GainOnEachChoice, BoundOnEachChoice, GainOnPolicy, BiasOnPolicy, SpreadIsGreatest}
use Rattle.mdp_bounds.specs.{Reach.{MeetsReachBetween}, Reward.{NoneNegative, MeetsRewardBetween}, Mean.{MeetsMeanBetween}}
use Rattle.mdp_bounds.specs.Says.{Column, lower_column, upper_column, IsRowBound, LeadsOn, IsRewardValue, IsEarningBound, IsStepBound, ReachSays, RewardSays, MeanSays}

-- what holds of the policy's choice holds of c, where the policy takes c
taken : (P : ℕ → Type 0) (policy : List ℕ) (s c : ℕ) → c ≡ slice_index policy s → P (slice_index policy s) → P c
taken P policy s c e h = subst P (sym e) h

exists : (m : Mdp) (policy : List ℕ) (s c : ℕ) → IsPolicy m policy → s < states_of m → c ≡ slice_index policy s → c < length (choices_at m s)
exists m policy s c takes l e = subst (λ (c : ℕ). c < length (choices_at m s)) (sym e) (takes.in_range s l)

-- ---- reaching a goal

module _ (m : Mdp) (goals : List Bool) (lower upper : List ℚ) (policy ranks : List ℕ) where
  pub reach_says : (dir : Dir) → MeetsReachBetween dir m goals lower upper policy ranks → (side : Column) (rule : Rule) (state choice : Option ℕ)
      → ReachSays dir m goals lower upper policy ranks side rule state choice
  reach_says Max r side ChoiceExists (Some s) (Some c) = λ l e. exists m policy s c r.choices l e
  reach_says Max r lower_column Probability (Some s) None = λ l. (r.lower_values.at_least_zero s l, r.lower_values.at_most_one s l)
  reach_says Max r upper_column Probability (Some s) None = λ l. (r.upper_values.at_least_zero s l, r.upper_values.at_most_one s l)
  reach_says Max r lower_column GoalValue (Some s) None = r.lower_values.at_goal s
  reach_says Max r upper_column GoalValue (Some s) None = r.upper_values.at_goal s
  reach_says Max r side ValueOnEachChoice (Some s) (Some c) = λ l g i. r.covers s c l g i
  reach_says Max r side ValueOnPolicy (Some s) (Some c) = λ l g e. taken (λ c. IsRowBound Min m lower s c) policy s c e (r.reached s l g)
  reach_says Max r side RankZero (Some s) None = λ l e. r.ends s l e
  reach_says Max r side RankFalls (Some s) (Some c) = λ l g p e. taken (λ c. LeadsOn Max m lower ranks s c) policy s c e (r.falls s l g p)
  reach_says Max r side rule state choice = tt
  reach_says Min r side ChoiceExists (Some s) (Some c) = λ l e. exists m policy s c r.choices l e
  reach_says Min r lower_column Probability (Some s) None = λ l. (r.lower_values.at_least_zero s l, r.lower_values.at_most_one s l)
  reach_says Min r upper_column Probability (Some s) None = λ l. (r.upper_values.at_least_zero s l, r.upper_values.at_most_one s l)
  reach_says Min r lower_column GoalValue (Some s) None = r.lower_values.at_goal s
  reach_says Min r upper_column GoalValue (Some s) None = r.upper_values.at_goal s
  reach_says Min r side ValueOnEachChoice (Some s) (Some c) = λ l g i. r.covered s c l g i
  reach_says Min r side ValueOnPolicy (Some s) (Some c) = λ l g e. taken (λ c. IsRowBound Max m upper s c) policy s c e (r.reached s l g)
  reach_says Min r side RankZero (Some s) None = λ l e. r.ends s l e
  reach_says Min r side RankFalls (Some s) (Some c) = λ l g p i. r.falls s c l g p i
  reach_says Min r side rule state choice = tt

-- ---- rewards until a goal

module _ (m : Mdp) (r : ℕ) (goals : List Bool) (lower upper : List (Option ℚ)) (policy ranks : List ℕ) (nonneg : NoneNegative m r) where
  value_says : (v : List (Option ℚ)) (s : ℕ) → AreRewards m goals v ranks → s < states_of m → IsRewardValue goals v ranks s
  value_says v s are l = (λ x e. are.at_least_zero s x l e, λ g. are.at_goal s l g)

  pub reward_says : (dir : Dir) → MeetsRewardBetween dir m r goals lower upper policy ranks → (side : Column) (rule : Rule) (state choice : Option ℕ)
      → RewardSays dir m r goals lower upper policy ranks side rule state choice
  reward_says Max k side ChoiceExists (Some s) (Some c) = λ l e. exists m policy s c k.choices l e
  reward_says Max k lower_column RewardValue (Some s) None = λ l. (λ i. k.ordered s (l, i), value_says lower s k.lower_values l)
  reward_says Max k upper_column RewardValue (Some s) None = λ l. (λ i. k.ordered s (l, i), value_says upper s k.upper_values l)
  reward_says Max k lower_column FiniteTargets (Some s) (Some c) = λ t i. k.stays s c t i
  reward_says Max k upper_column FiniteTargets (Some s) (Some c) = λ t i. k.upper_stays s c t i
  reward_says Max k side RewardOnEachChoice (Some s) (Some c) = λ t i seen. k.covers s c t i
  reward_says Max k side RewardOnPolicy (Some s) (Some c) = λ t e. taken (λ c. IsEarningBound Min m r lower s c) policy s c e (k.reached s t)
  reward_says Max k side FiniteRankFalls (Some s) (Some c) = λ t i. k.falls s c t i
  reward_says Max k side PolicyMisses (Some s) (Some c) =
      λ d i e. taken (λ c. ((slice_index ranks s ≡ 0) × StaysInfinite m lower ranks 0 s c) ⊎ FallsInfinite m lower ranks s c) policy s c e (k.misses s i)
  reward_says Max k side EachChoiceMisses (Some s) (Some c) = λ d. absurd cc
  reward_says Max k side RewardNotNegative (Some s) (Some c) = λ l i. nonneg s c l i
  reward_says Max k side rule state choice = tt
  reward_says Min k side ChoiceExists (Some s) (Some c) = λ l e. exists m policy s c k.choices l e
  reward_says Min k lower_column RewardValue (Some s) None = λ l. (λ i. k.ordered s (l, i), value_says lower s k.lower_values l)
  reward_says Min k upper_column RewardValue (Some s) None = λ l. (λ i. k.ordered s (l, i), value_says upper s k.upper_values l)
  reward_says Min k lower_column FiniteTargets (Some s) (Some c) = λ t e. taken (λ c. StaysFinite m lower s c) policy s c e (k.stays s t)
  reward_says Min k upper_column FiniteTargets (Some s) (Some c) = λ t e. taken (λ c. StaysFinite m upper s c) policy s c e (k.upper_stays s t)
  reward_says Min k side RewardOnEachChoice (Some s) (Some c) = λ t i seen. k.covered s c t i seen
  reward_says Min k side RewardOnPolicy (Some s) (Some c) = λ t e. taken (λ c. IsEarningBound Max m r upper s c) policy s c e (k.reached s t)
  reward_says Min k side FiniteRankFalls (Some s) (Some c) = λ t e. taken (λ c. Falls m ranks s c) policy s c e (k.falls s t)
  reward_says Min k side PolicyMisses (Some s) (Some c) = λ d. absurd cc
  reward_says Min k side EachChoiceMisses (Some s) (Some c) = λ d i j. k.misses s c i j
  reward_says Min k side RewardNotNegative (Some s) (Some c) = λ l i. nonneg s c l i
  reward_says Min k side rule state choice = tt

-- ---- mean payoff

module _ (m : Mdp) (r : ℕ) (lower upper a b : List ℚ) (spread : ℚ) (policy : List ℕ) where
  pub mean_says : (dir : Dir) → MeetsMeanBetween dir m r lower upper a b spread policy → (rule : Rule) (state choice : Option ℕ)
      → MeanSays dir m r lower upper a b spread policy rule state choice
  mean_says Max k ChoiceExists (Some s) (Some c) = λ l e. exists m policy s c k.choices l e
  mean_says Max k GainOnEachChoice (Some s) (Some c) = λ l i. k.gain_covers s c l i
  mean_says Max k BoundOnEachChoice (Some s) (Some c) = λ l i. k.bound_covers s c l i
  mean_says Max k GainOnPolicy (Some s) (Some c) = λ l e. taken (λ c. IsRowBound Min m lower s c) policy s c e (k.gain_reached s l)
  mean_says Max k BiasOnPolicy (Some s) (Some c) = λ l e. taken (λ c. IsStepBound Min m r lower b s c) policy s c e (k.bias_reached s l)
  mean_says Max k SpreadIsGreatest None None = k.spreads.widest
  mean_says Max k rule state choice = tt
  mean_says Min k ChoiceExists (Some s) (Some c) = λ l e. exists m policy s c k.choices l e
  mean_says Min k GainOnEachChoice (Some s) (Some c) = λ l i. k.gain_covered s c l i
  mean_says Min k BoundOnEachChoice (Some s) (Some c) = λ l i. k.bound_covered s c l i
  mean_says Min k GainOnPolicy (Some s) (Some c) = λ l e. taken (λ c. IsRowBound Max m upper s c) policy s c e (k.gain_reached s l)
  mean_says Min k BiasOnPolicy (Some s) (Some c) = λ l e. taken (λ c. IsStepBound Max m r upper b s c) policy s c e (k.bias_reached s l)
  mean_says Min k SpreadIsGreatest None None = k.spreads.widest
  mean_says Min k rule state choice = tt
