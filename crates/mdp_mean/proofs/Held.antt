-- What the rules of the mean payoff say of the lists of a certificate.
use Rattle.std.proofs.Common.{ℕ, List}
use Rattle.mdp_math.specs.Rational.{ℚ}
use Rattle.mdp_spec.specs.{Mdp.{Mdp}, MeanRules.{HasSpread}, Tree.{IsPolicy}}
use Rattle.mdp_farkas.specs.Mean.{MeetsMean}
use Rattle.mdp_rows.specs.{declared.dir.Dir.{Dir}, declared.dir.Dir.TheVariants.{Max, Min}}

module _ (m : Mdp) (r : ℕ) (g a b : List ℚ) (spread : ℚ) (policy : List ℕ) where
  pub has-spread : (dir : Dir) → MeetsMean dir m r g a b spread policy → HasSpread m a b spread
  has-spread Max rules = rules.spreads
  has-spread Min rules = rules.spreads

  pub has-policy : (dir : Dir) → MeetsMean dir m r g a b spread policy → IsPolicy m policy
  has-policy Max rules = rules.choices
  has-policy Min rules = rules.choices
