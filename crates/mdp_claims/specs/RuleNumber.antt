-- The number of a rule, by which the program names it.
use Rattle.std.specs.Prelude.{◌≡◌, ℕ, ◌≤◌, ◌↔◌}
use Rattle.mdp_claims.specs.declared.rule.Rule.{Rule}
use Rattle.mdp_claims.specs.declared.rule.Rule.TheVariants.{InitialState, ChoiceExists, Probability, GoalValue, ValueOnEachChoice, ValueOnPolicy}
use Rattle.mdp_claims.specs.declared.rule.Rule.TheVariants.{RankZero, RankFalls, RewardValue, FiniteTargets, RewardOnEachChoice, RewardOnPolicy}
use Rattle.mdp_claims.specs.declared.rule.Rule.TheVariants.{FiniteRankFalls, PolicyMisses, EachChoiceMisses, GainOnEachChoice, BoundOnEachChoice, GainOnPolicy}
use Rattle.mdp_claims.specs.declared.rule.Rule.TheVariants.{BiasOnPolicy, SpreadIsGreatest, StateIsKept, FlowsBalance, FlowsReachGoals, StartReachesThreshold}
use Rattle.mdp_claims.specs.declared.rule.Rule.TheVariants.{RewardNotNegative, DiscountedOnEachChoice, DiscountedOnPolicy, RemainderIsGreatest}

abbrev pub number_of : Rule → ℕ
number_of InitialState = 1
number_of ChoiceExists = 2
number_of Probability = 3
number_of GoalValue = 4
number_of ValueOnEachChoice = 5
number_of ValueOnPolicy = 6
number_of RankZero = 7
number_of RankFalls = 8
number_of RewardValue = 9
number_of FiniteTargets = 10
number_of RewardOnEachChoice = 11
number_of RewardOnPolicy = 12
number_of FiniteRankFalls = 13
number_of PolicyMisses = 14
number_of EachChoiceMisses = 15
number_of GainOnEachChoice = 16
number_of BoundOnEachChoice = 17
number_of GainOnPolicy = 18
number_of BiasOnPolicy = 19
number_of SpreadIsGreatest = 20
number_of StateIsKept = 21
number_of FlowsBalance = 22
number_of FlowsReachGoals = 23
number_of StartReachesThreshold = 24
number_of RewardNotNegative = 25
number_of DiscountedOnEachChoice = 26
number_of DiscountedOnPolicy = 27
number_of RemainderIsGreatest = 28

-- each rule has a number of its own
abbrev pub OneRuleEach : Type 0
OneRuleEach = (a b : Rule) → number_of a ≡ number_of b → a ≡ b

-- the numbers of the rules are those from 1 to 28
abbrev pub NumbersFromOne : Type 0
NumbersFromOne = (n : ℕ) → ((rule : Rule) × (number_of rule ≡ n)) ↔ ((1 ≤ n) × (n ≤ 28))
