-- What each rule says of a place, in exact numbers: of a choice c of a state, or of no place. A rule that is never asked at such a place says nothing.
use Rattle.std.specs.Prelude.{◌≡◌, ℕ, ◌<◌, List, map, Option, Some, None}
use Rattle.mdp_math.specs.{Rational.{ℚ}, Extremes.{greatest}}
use Rattle.mdp_spec.specs.Mdp.{Mdp, states_of, value_at}
use Rattle.mdp_farkas.specs.Says.{IsChoice, IsTaken}
use Rattle.mdp_rows.specs.{declared.dir.Dir.{Dir}, Better.{IsAsGood}}
use Rattle.mdp_claims.specs.declared.rule.Rule.{Rule}
use Rattle.mdp_claims.specs.declared.rule.Rule.TheVariants.{ChoiceExists, DiscountedOnEachChoice, DiscountedOnPolicy, RemainderIsGreatest}
use Rattle.mdp_discount_rules.specs.Rules.{discounted, magnitude}

module _ (dir : Dir) (m : Mdp) (r : ℕ) (f : ℚ) (v : List ℚ) (remainder : ℚ) (policy : List ℕ) where
  abbrev pub DiscountSays : Rule → Option ℕ → Option ℕ → Type 0
  DiscountSays ChoiceExists (Some s) (Some c) = s < states_of m → IsTaken policy s c → IsChoice m s c
  DiscountSays DiscountedOnEachChoice (Some s) (Some c) = s < states_of m → IsChoice m s c → IsAsGood dir (value_at v s) (discounted m r f s c v)
  DiscountSays DiscountedOnPolicy (Some s) (Some c) = s < states_of m → IsTaken policy s c → value_at v s ≡ discounted m r f s c v
  DiscountSays RemainderIsGreatest None None = remainder ≡ greatest (map magnitude v)
  DiscountSays rule state choice = Unit {0}
