-- The same of certificates of bounds: the line `init` has a lower and an upper value.
use Rattle.std.specs.Prelude.{◌≡◌, ℕ, Option, Some, None}
use Rattle.mdp_math.specs.Rational.{ℚ}
use Rattle.mdp_cert.specs.{BoundsCert.{PlainBounds, probabilities, rewards, gains}, declared.init.BoundsInit.{BoundsInit}}
use Rattle.mdp_cert.specs.declared.init.BoundsInit.TheVariants.{Missing, Between}
use Rattle.mdp_check.specs.Says.{IsValueAt, IsRewardAt}

-- the lower and the upper value of state s in the body are x and y, or infinite where there is none; of mean payoffs the gains are the values
abbrev pub HasBounds : PlainBounds → ℕ → Option ℚ → Option ℚ → Type 0
HasBounds (probabilities lower upper choices ranks) s (Some x) (Some y) = IsValueAt lower s x × IsValueAt upper s y
HasBounds (rewards lower upper choices ranks) s x y = IsRewardAt lower s x × IsRewardAt upper s y
HasBounds (gains lower upper bound bias choices spread) s (Some x) (Some y) = IsValueAt lower s x × IsValueAt upper s y
HasBounds body s x y = ⊥

abbrev pub BoundsInitSays : BoundsInit → Option ℕ → PlainBounds → Type 0
BoundsInitSays Missing initial body = initial ≡ None
BoundsInitSays (Between s x y) initial body = (initial ≡ Some s) × HasBounds body s x y
