-- One item of each list of an exact answer of mean payoffs for each state, by its rules.
use Rattle.std.proofs.Common.{ℕ, List}
use Rattle.mdp_math.specs.Rational.{ℚ}
use Rattle.mdp_spec.specs.{Mdp.{Mdp}, Tree.{IsPolicy}, MeanRules.{HasSpread}}
use Rattle.mdp_rows.specs.{declared.dir.Dir.{Dir}, declared.dir.Dir.TheVariants.{Max, Min}}
use Rattle.mdp_farkas.specs.Mean.{MeetsMean}

module _ (m : Mdp) (r : ℕ) (g a b : List ℚ) (spread : ℚ) (policy : List ℕ) where
  pub spread_each : (dir : Dir) → MeetsMean dir m r g a b spread policy → HasSpread m a b spread
  spread_each Max h = h.spreads
  spread_each Min h = h.spreads

  pub policy_each : (dir : Dir) → MeetsMean dir m r g a b spread policy → IsPolicy m policy
  policy_each Max h = h.choices
  policy_each Min h = h.choices
