-- What each rule says of a place, in exact numbers: of a choice c of a state, or of no place. A rule that is never asked at such a place says nothing.
use Rattle.std.specs.Prelude.{◌≡◌, ℕ, ◌<◌, List, Option, Some, None}
use Rattle.mdp_math.specs.Rational.{ℚ}
use Rattle.mdp_spec.specs.Mdp.{Mdp, states_of}
use Rattle.mdp_farkas.specs.Reach.{other}
use Rattle.mdp_rows.specs.declared.dir.Dir.{Dir}
use Rattle.mdp_claims.specs.declared.rule.Rule.{Rule}
use Rattle.mdp_claims.specs.declared.rule.Rule.TheVariants.{ChoiceExists, DiscountedOnEachChoice, DiscountedOnPolicy, RemainderIsGreatest}
use Rattle.mdp_bounds.specs.Says.{IsChoice, IsTaken, covering_rewards}
use Rattle.mdp_discount_rules.specs.BoundsRules.{Allows, greatest_magnitude}

module _ (dir : Dir) (m : Mdp) (r : ℕ) (f : ℚ) (lower upper : List (Option ℚ)) (remainder : ℚ) (policy : List ℕ) where
  abbrev pub DiscountSays : Rule → Option ℕ → Option ℕ → Type 0
  DiscountSays ChoiceExists (Some s) (Some c) = s < states_of m → IsTaken policy s c → IsChoice m s c
  DiscountSays DiscountedOnEachChoice (Some s) (Some c) = s < states_of m → IsChoice m s c → Allows dir m r f (covering_rewards dir lower upper) s c
  DiscountSays DiscountedOnPolicy (Some s) (Some c) =
      s < states_of m → IsTaken policy s c → Allows (other dir) m r f (covering_rewards (other dir) lower upper) s c
  DiscountSays RemainderIsGreatest None None = remainder ≡ greatest_magnitude lower upper
  DiscountSays rule state choice = Unit {0}
