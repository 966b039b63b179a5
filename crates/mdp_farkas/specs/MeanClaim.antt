-- The checks of what is claimed of the mean payoff, by the fields of the claim.
use Rattle.std.specs.Prelude.{ℕ, List, [], ◌∷◌, ◌++◌}
use Rattle.mdp_farkas.specs.{Verdict.{Check, at_choices}, declared.mean.MeanClaim.{MeanClaim}}
use Rattle.mdp_farkas.specs.Mean.{gain_check, relative_check, policy_gain_check, policy_bias_check, state_checks}

-- rule 16 at each choice of state s
abbrev pub gains_at : MeanClaim → ℕ → List Check
gains_at x s = at_choices x.model.now s (gain_check x.dir x.model.now x.gains.now s)

-- rule 17 at choice c, and at each choice
abbrev pub bound_at : MeanClaim → ℕ → ℕ → Check
bound_at x s c = relative_check x.dir x.model.now x.name x.gains.now x.bound.now s c

abbrev pub bounds_at : MeanClaim → ℕ → List Check
bounds_at x s = at_choices x.model.now s (bound_at x s)

-- rules 18 and 19 of the policy's choice, and with those of each choice
abbrev pub policy_at : MeanClaim → ℕ → ℕ → List Check
policy_at x s choice = policy_gain_check x.model.now x.gains.now s choice ∷ policy_bias_check x.model.now x.name x.gains.now x.bias.now s choice ∷ []

abbrev pub rules_at : MeanClaim → ℕ → ℕ → List Check
rules_at x s choice = gains_at x s ++ (bounds_at x s ++ policy_at x s choice)

-- all rules but that of the spread
abbrev pub each_state : MeanClaim → List Check
each_state x = state_checks x.dir x.model.now x.name x.gains.now x.bound.now x.bias.now x.choices.now
