-- The checks of one column of gains, and of what is claimed of the mean payoff, by the fields of these.
use Rattle.std.specs.Prelude.{ℕ, List, Bool, Option}
use Rattle.mdp_math.specs.Rational.{ℚ}
use Rattle.mdp_spec.specs.Mdp.{Mdp}
use Rattle.mdp_farkas.specs.Verdict.{Check}
use Rattle.mdp_rows.specs.declared.dir.Dir.{Dir}
use Rattle.mdp_bounds.specs.{Reach.{covering, followed}, Mean.{gain_stands, bound_stands, gains_cover, gains_follow, mean_bounds_at, mean_bounds_checks}}
use Rattle.mdp_bounds.specs.declared.mean.{MeanHalf.{MeanHalf}, MeanBoundsClaim.{MeanBoundsClaim}}

-- how the gain stands to the sum of the gains over the row of choice c
abbrev pub sum_stands : Dir → MeanHalf → ℕ → Option Bool
sum_stands dir h c = gain_stands dir h.model.now h.gains.values.now h.state c

-- how the gain and the relative value together stand to what choice c earns
abbrev pub step_stands : Dir → MeanHalf → ℕ → Option Bool
step_stands dir h c = bound_stands dir h.model.now h.name h.gains.values.now h.relative.now h.state c

-- a rule that is asked of gains and relative values at the state
abbrev pub asked_of : {A : Type 0} → MeanHalf → (Dir → Mdp → ℕ → List ℚ → List ℚ → ℕ → A) → A
asked_of h rule = rule h.dir h.model.now h.name h.gains.values.now h.relative.now h.state

-- rules 16 and 17 at state s: the half on each choice
abbrev pub covers_at : MeanBoundsClaim → ℕ → List Check
covers_at x s = gains_cover x.dir x.model.now x.name (covering x.dir x.lower.values.now x.upper.values.now) x.bound.now s

-- rules 18 and 19 at state s: the half on the policy's choice
abbrev pub follows_at : MeanBoundsClaim → ℕ → ℕ → List Check
follows_at x s choice = gains_follow x.dir x.model.now x.name (followed x.dir x.lower.values.now x.upper.values.now) x.bias.now s choice

-- all rules at state s, where the policy takes this choice
abbrev pub rules_at : MeanBoundsClaim → ℕ → ℕ → List Check
rules_at x s choice = mean_bounds_at x.dir x.model.now x.name x.lower.values.now x.upper.values.now x.bound.now x.bias.now s choice

-- all rules, with this spread
abbrev pub all_checks : MeanBoundsClaim → ℚ → List Check
all_checks x spread = mean_bounds_checks x.dir x.model.now x.name x.lower.values.now x.upper.values.now x.bound.now x.bias.now spread x.choices.now
