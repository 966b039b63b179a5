-- The rule of a number.
use Rattle.std.proofs.Common.{◌≡◌, ℕ, zero, suc, ◌+◌, ◌-◌, ◌<◌, ◌≤◌, Bool, true, ◌&&◌, eqb, eqb-true, List, [], ◌∷◌, length, refl, sym, ap, ◌∙◌, arith}
use Rattle.mdp_math.proofs.Booleans.{and-parts}
use Rattle.mdp_claims.specs.{RuleNumber.{number_of}, declared.rule.Rule.{Rule}}
use Rattle.mdp_claims.specs.declared.rule.Rule.TheVariants.{InitialState, ChoiceExists, Probability, GoalValue, ValueOnEachChoice, ValueOnPolicy}
use Rattle.mdp_claims.specs.declared.rule.Rule.TheVariants.{RankZero, RankFalls, RewardValue, FiniteTargets, RewardOnEachChoice, RewardOnPolicy}
use Rattle.mdp_claims.specs.declared.rule.Rule.TheVariants.{FiniteRankFalls, PolicyMisses, EachChoiceMisses, GainOnEachChoice, BoundOnEachChoice, GainOnPolicy}
use Rattle.mdp_claims.specs.declared.rule.Rule.TheVariants.{BiasOnPolicy, SpreadIsGreatest, StateIsKept, FlowsBalance, FlowsReachGoals, StartReachesThreshold}
use Rattle.mdp_claims.specs.declared.rule.Rule.TheVariants.{RewardNotNegative, DiscountedOnEachChoice, DiscountedOnPolicy, RemainderIsGreatest}

-- the rules in the order of their numbers
abbrev rules : List Rule
rules =
    InitialState
    ∷ ChoiceExists
    ∷ Probability
    ∷ GoalValue
    ∷ ValueOnEachChoice
    ∷ ValueOnPolicy
    ∷ RankZero
    ∷ RankFalls
    ∷ RewardValue
    ∷ FiniteTargets
    ∷ RewardOnEachChoice
    ∷ RewardOnPolicy
    ∷ FiniteRankFalls
    ∷ PolicyMisses
    ∷ EachChoiceMisses
    ∷ GainOnEachChoice
    ∷ BoundOnEachChoice
    ∷ GainOnPolicy
    ∷ BiasOnPolicy
    ∷ SpreadIsGreatest
    ∷ StateIsKept
    ∷ FlowsBalance
    ∷ FlowsReachGoals
    ∷ StartReachesThreshold
    ∷ RewardNotNegative
    ∷ DiscountedOnEachChoice
    ∷ DiscountedOnPolicy
    ∷ RemainderIsGreatest
    ∷ []

abbrev nth : List Rule → ℕ → Rule
nth [] i = InitialState
nth (rule ∷ rest) zero = rule
nth (rule ∷ rest) (suc i) = nth rest i

abbrev rule_of : ℕ → Rule
rule_of n = nth rules (n - 1)

numbered : (rule : Rule) → (rule_of (number_of rule) ≡ rule) × ((1 ≤ number_of rule) × (number_of rule ≤ 28))
numbered InitialState = (refl, (omega arith, omega arith))
numbered ChoiceExists = (refl, (omega arith, omega arith))
numbered Probability = (refl, (omega arith, omega arith))
numbered GoalValue = (refl, (omega arith, omega arith))
numbered ValueOnEachChoice = (refl, (omega arith, omega arith))
numbered ValueOnPolicy = (refl, (omega arith, omega arith))
numbered RankZero = (refl, (omega arith, omega arith))
numbered RankFalls = (refl, (omega arith, omega arith))
numbered RewardValue = (refl, (omega arith, omega arith))
numbered FiniteTargets = (refl, (omega arith, omega arith))
numbered RewardOnEachChoice = (refl, (omega arith, omega arith))
numbered RewardOnPolicy = (refl, (omega arith, omega arith))
numbered FiniteRankFalls = (refl, (omega arith, omega arith))
numbered PolicyMisses = (refl, (omega arith, omega arith))
numbered EachChoiceMisses = (refl, (omega arith, omega arith))
numbered GainOnEachChoice = (refl, (omega arith, omega arith))
numbered BoundOnEachChoice = (refl, (omega arith, omega arith))
numbered GainOnPolicy = (refl, (omega arith, omega arith))
numbered BiasOnPolicy = (refl, (omega arith, omega arith))
numbered SpreadIsGreatest = (refl, (omega arith, omega arith))
numbered StateIsKept = (refl, (omega arith, omega arith))
numbered FlowsBalance = (refl, (omega arith, omega arith))
numbered FlowsReachGoals = (refl, (omega arith, omega arith))
numbered StartReachesThreshold = (refl, (omega arith, omega arith))
numbered RewardNotNegative = (refl, (omega arith, omega arith))
numbered DiscountedOnEachChoice = (refl, (omega arith, omega arith))
numbered DiscountedOnPolicy = (refl, (omega arith, omega arith))
numbered RemainderIsGreatest = (refl, (omega arith, omega arith))

pub one_rule_each : (a b : Rule) → number_of a ≡ number_of b → a ≡ b
one_rule_each a b e = sym (numbered a).0 ∙ ap rule_of e ∙ (numbered b).0

pub number-in_range : (n : ℕ) → ((rule : Rule) × (number_of rule ≡ n)) → (1 ≤ n) × (n ≤ 28)
number-in_range n h = let range = (numbered h.0).1 in (omega (arith, range.0, h.1), omega (arith, range.1, h.1))

-- the numbers of these rules count up from n
abbrev count_up : ℕ → List Rule → Bool
count_up n [] = true
count_up n (rule ∷ rest) = eqb (number_of rule) n && count_up (suc n) rest

number-nth : (n : ℕ) (rest : List Rule) → count_up n rest ≡ true → (i : ℕ) → i < length rest → number_of (nth rest i) ≡ n + i
number-nth n [] e i l = absurd (omega arith)
number-nth n (rule ∷ rest) e zero l = omega (arith, eqb-true (number_of rule) n (and-parts (eqb (number_of rule) n) (count_up (suc n) rest) e).0)
number-nth n (rule ∷ rest) e (suc i) l = omega (arith, number-nth (suc n) rest (and-parts (eqb (number_of rule) n) (count_up (suc n) rest) e).1 i (omega arith))

pub rule_has_number : (n : ℕ) → (1 ≤ n) × (n ≤ 28) → (rule : Rule) × (number_of rule ≡ n)
rule_has_number n h = (rule_of n, omega (arith, number-nth 1 rules refl (n - 1) (omega (arith, h.0, h.1)), h.0))
