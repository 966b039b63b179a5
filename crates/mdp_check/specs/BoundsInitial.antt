-- Rule 1 of certificates of bounds: the line `init`, with a lower and an upper value.
use Rattle.std.specs.Prelude.{ℕ, Bool, false, Option, Some, None, ◌&&◌}
use Rattle.mdp_math.specs.Rational.{ℚ}
use Rattle.mdp_farkas.specs.Initial.{init_fault, is_value, state_check}
use Rattle.mdp_claims.specs.{declared.verdict.Verdict.{Verdict}, declared.verdict.Verdict.TheVariants.{Yes}}
use Rattle.mdp_cert.specs.{BoundsCert.{PlainBounds, probabilities, rewards, gains}, declared.init.BoundsInit.{BoundsInit}}
use Rattle.mdp_cert.specs.declared.init.BoundsInit.TheVariants.{Missing, Between}
use Rattle.mdp_check.specs.Initial.{is_reward}

-- the lower and the upper value of state s in the body are these, which are infinite where there is none; of mean payoffs the gains are the values
abbrev pub has_bounds : PlainBounds → ℕ → Option ℚ → Option ℚ → Bool
has_bounds (probabilities lower upper choices ranks) s (Some x) (Some y) = is_value lower s x && is_value upper s y
has_bounds (rewards lower upper choices ranks) s x y = is_reward lower s x && is_reward upper s y
has_bounds (gains lower upper bound bias choices spread) s (Some x) (Some y) = is_value lower s x && is_value upper s y
has_bounds body s x y = false

-- the line names the model's one initial state and has its two values; it names none where there isn't exactly one
abbrev pub bounds_init_check : BoundsInit → Option ℕ → PlainBounds → Verdict
bounds_init_check Missing None body = Yes
bounds_init_check Missing (Some t) body = init_fault None
bounds_init_check (Between s x y) initial body = state_check s initial (has_bounds body s x y)
