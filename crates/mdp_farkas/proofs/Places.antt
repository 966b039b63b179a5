-- A rule says nothing of a state that the model doesn't have, so where what it says is false the state is one of the model.
use Rattle.std.proofs.Common.{◌≡◌, ℕ, ◌<◌, ◌≤◌, ⊎_elim, Bool, List, Option, Some, None, arith}
use Rattle.mdp_math.specs.Rational.{ℚ}
use Rattle.mdp_math.proofs.{Numbers.{le_or}, Options.{Some_same}}
use Rattle.mdp_spec.specs.Mdp.{Mdp, states_of}
use Rattle.mdp_farkas.specs.{Says.{UpperSays, ReachSays, RewardSays, MeanSays}, Laws.{IsInModel}}
use Rattle.mdp_rows.specs.declared.dir.Dir.{Dir}
use Rattle.mdp_claims.specs.declared.rule.Rule.{Rule}
use Rattle.mdp_claims.specs.declared.rule.Rule.TheVariants.{ChoiceExists, Probability, GoalValue, ValueOnEachChoice, ValueOnPolicy, RankZero, RankFalls}
use Rattle.mdp_claims.specs.declared.rule.Rule.TheVariants.{RewardValue, FiniteTargets, RewardOnEachChoice, RewardOnPolicy, FiniteRankFalls, PolicyMisses, EachChoiceMisses}
use Rattle.mdp_claims.specs.declared.rule.Rule.TheVariants.{RewardNotNegative, GainOnEachChoice, BoundOnEachChoice, GainOnPolicy, BiasOnPolicy, SpreadIsGreatest}
use Rattle.mdp_claims.specs.declared.verdict.Fault.{Fault}

no_state : (m : Mdp) (t s : ℕ) → Some t ≡ Some s → states_of m ≤ s → t < states_of m → ⊥
no_state m t s e h l = let same = Some_same t s e in omega arith

module _ (m : Mdp) (goals : List Bool) (z : List ℚ) where
  upper_outside : (rule : Rule) (state choice : Option ℕ) (s : ℕ) → state ≡ Some s → states_of m ≤ s → UpperSays m goals z rule state choice
  upper_outside Probability (Some t) None s e h = λ l. absurd (no_state m t s e h l)
  upper_outside GoalValue (Some t) None s e h = λ l. absurd (no_state m t s e h l)
  upper_outside ValueOnEachChoice (Some t) (Some c) s e h = λ l. absurd (no_state m t s e h l)
  upper_outside rule state choice s e h = tt

  module _ (dir : Dir) (policy ranks : List ℕ) where
    reach_outside : (rule : Rule) (state choice : Option ℕ) (s : ℕ) → state ≡ Some s → states_of m ≤ s → ReachSays dir m goals z policy ranks rule state choice
    reach_outside ChoiceExists (Some t) (Some c) s e h = λ l. absurd (no_state m t s e h l)
    reach_outside Probability (Some t) None s e h = λ l. absurd (no_state m t s e h l)
    reach_outside GoalValue (Some t) None s e h = λ l. absurd (no_state m t s e h l)
    reach_outside ValueOnEachChoice (Some t) (Some c) s e h = λ l. absurd (no_state m t s e h l)
    reach_outside ValueOnPolicy (Some t) (Some c) s e h = λ l. absurd (no_state m t s e h l)
    reach_outside RankZero (Some t) None s e h = λ l. absurd (no_state m t s e h l)
    reach_outside RankFalls (Some t) (Some c) s e h = λ l. absurd (no_state m t s e h l)
    reach_outside rule state choice s e h = tt

module _ (dir : Dir) (m : Mdp) (r : ℕ) (goals : List Bool) (v : List (Option ℚ)) (policy ranks : List ℕ) where
  reward_outside : (rule : Rule) (state choice : Option ℕ) (s : ℕ) → state ≡ Some s → states_of m ≤ s → RewardSays dir m r goals v policy ranks rule state choice
  reward_outside ChoiceExists (Some t) (Some c) s e h = λ l. absurd (no_state m t s e h l)
  reward_outside RewardValue (Some t) None s e h = λ l. absurd (no_state m t s e h l)
  reward_outside FiniteTargets (Some t) (Some c) s e h = λ k. absurd (no_state m t s e h k.0)
  reward_outside RewardOnEachChoice (Some t) (Some c) s e h = λ k. absurd (no_state m t s e h k.0)
  reward_outside RewardOnPolicy (Some t) (Some c) s e h = λ k. absurd (no_state m t s e h k.0)
  reward_outside FiniteRankFalls (Some t) (Some c) s e h = λ k. absurd (no_state m t s e h k.0)
  reward_outside PolicyMisses (Some t) (Some c) s e h = λ d k. absurd (no_state m t s e h k.0)
  reward_outside EachChoiceMisses (Some t) (Some c) s e h = λ d k. absurd (no_state m t s e h k.0)
  reward_outside RewardNotNegative (Some t) (Some c) s e h = λ l. absurd (no_state m t s e h l)
  reward_outside rule state choice s e h = tt

module _ (dir : Dir) (m : Mdp) (r : ℕ) (g a b : List ℚ) (spread : ℚ) (policy : List ℕ) where
  mean_outside : (rule : Rule) (state choice : Option ℕ) (s : ℕ) → state ≡ Some s → states_of m ≤ s → MeanSays dir m r g a b spread policy rule state choice
  mean_outside ChoiceExists (Some t) (Some c) s e h = λ l. absurd (no_state m t s e h l)
  mean_outside GainOnEachChoice (Some t) (Some c) s e h = λ l. absurd (no_state m t s e h l)
  mean_outside BoundOnEachChoice (Some t) (Some c) s e h = λ l. absurd (no_state m t s e h l)
  mean_outside GainOnPolicy (Some t) (Some c) s e h = λ l. absurd (no_state m t s e h l)
  mean_outside BiasOnPolicy (Some t) (Some c) s e h = λ l. absurd (no_state m t s e h l)
  mean_outside SpreadIsGreatest None None s e h = cc
  mean_outside rule state choice s e h = tt

-- so a fault whose rule is refuted is at a state of the model
in_model : (Says : Rule → Option ℕ → Option ℕ → Type 0) (m : Mdp)
    → ((rule : Rule) (state choice : Option ℕ) (s : ℕ) → state ≡ Some s → states_of m ≤ s → Says rule state choice)
    → (fault : Fault) → (Says fault.rule fault.state fault.choice → ⊥) → IsInModel m fault × (Says fault.rule fault.state fault.choice → ⊥)
in_model Says m outside fault refutes = (
  λ s e. ⊎_elim (λ h. absurd (refutes (outside fault.rule fault.state fault.choice s e h))) (λ l. l) (le_or (states_of m) s),
  refutes,
)

pub upper_in_model : (m : Mdp) (goals : List Bool) (z : List ℚ) (fault : Fault) → (UpperSays m goals z fault.rule fault.state fault.choice → ⊥)
    → IsInModel m fault × (UpperSays m goals z fault.rule fault.state fault.choice → ⊥)
upper_in_model m goals z fault = in_model (UpperSays m goals z) m (upper_outside m goals z) fault

pub reach_in_model : (dir : Dir) (m : Mdp) (goals : List Bool) (z : List ℚ) (policy ranks : List ℕ) (fault : Fault)
    → (ReachSays dir m goals z policy ranks fault.rule fault.state fault.choice → ⊥)
    → IsInModel m fault × (ReachSays dir m goals z policy ranks fault.rule fault.state fault.choice → ⊥)
reach_in_model dir m goals z policy ranks fault = in_model (ReachSays dir m goals z policy ranks) m (reach_outside m goals z dir policy ranks) fault

pub reward_in_model : (dir : Dir) (m : Mdp) (r : ℕ) (goals : List Bool) (v : List (Option ℚ)) (policy ranks : List ℕ) (fault : Fault)
    → (RewardSays dir m r goals v policy ranks fault.rule fault.state fault.choice → ⊥)
    → IsInModel m fault × (RewardSays dir m r goals v policy ranks fault.rule fault.state fault.choice → ⊥)
reward_in_model dir m r goals v policy ranks fault = in_model (RewardSays dir m r goals v policy ranks) m (reward_outside dir m r goals v policy ranks) fault

pub mean_in_model : (dir : Dir) (m : Mdp) (r : ℕ) (g a b : List ℚ) (spread : ℚ) (policy : List ℕ) (fault : Fault)
    → (MeanSays dir m r g a b spread policy fault.rule fault.state fault.choice → ⊥)
    → IsInModel m fault × (MeanSays dir m r g a b spread policy fault.rule fault.state fault.choice → ⊥)
mean_in_model dir m r g a b spread policy fault = in_model (MeanSays dir m r g a b spread policy) m (mean_outside dir m r g a b spread policy) fault
