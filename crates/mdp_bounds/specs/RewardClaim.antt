-- The checks of one column of values, and of what is claimed of the reward until a goal, by the fields of these.
use Rattle.std.specs.Prelude.{ℕ, List, ◌++◌, Bool, Option}
use Rattle.mdp_math.specs.Rational.{ℚ}
use Rattle.mdp_spec.specs.Mdp.{Mdp}
use Rattle.mdp_farkas.specs.{Reward.{rank_fall_checks}, Verdict.{Check}}
use Rattle.mdp_rows.specs.declared.dir.Dir.{Dir}
use Rattle.mdp_bounds.specs.Reward.{lower_on_each, finite_checks, reward_bounds_at}
use Rattle.mdp_bounds.specs.declared.{column.RewardColumn.{RewardColumn}, reward.RewardBoundsClaim.{RewardBoundsClaim}}

-- a rule that is asked of the values
abbrev pub asked_of : {A : Type 0} → RewardColumn → (Dir → Mdp → ℕ → List (Option ℚ) → A) → A
asked_of x rule = rule x.dir x.model.now x.name x.values.now

-- a rule that is asked of values, goals and ranks
abbrev pub asked_of_all : {A : Type 0} → RewardColumn → (Dir → Mdp → ℕ → List Bool → List (Option ℚ) → List ℕ → A) → A
asked_of_all x rule = rule x.dir x.model.now x.name x.goals.now x.values.now x.ranks.now

-- rules 10, 11 or 12, and 13: those of a finite lower value at a state s that is no goal
abbrev pub finite_lower_checks : RewardColumn → ℕ → ℕ → List Check
finite_lower_checks x s choice = asked_of x (finite_checks (lower_on_each x.dir)) s choice ++ rank_fall_checks x.dir x.model.now x.ranks.now s choice

-- all rules at state s, where the policy takes this choice
abbrev pub rules_at : RewardBoundsClaim → ℕ → ℕ → List Check
rules_at x s choice = reward_bounds_at x.dir x.model.now x.name x.goals.now x.lower.now x.upper.now x.ranks.now s choice
