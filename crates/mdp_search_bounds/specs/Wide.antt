-- Queries whose exact answer is too wide.
use Rattle.std.specs.{Prelude.{ℕ, ◌⊎◌, Bool, List, [], map, slice_index_or, Option, Some, Ok, Err}, List.{All}}
use Rattle.mdp_math.specs.Rational.{ℚ}
use Rattle.mdp_spec.specs.Mdp.{Mdp}
use Rattle.mdp_rows.specs.declared.dir.Dir.{Dir}
use Rattle.mdp_wide.specs.Term.{WideTerm}
use Rattle.mdp_reach.specs.Query as reach
use Rattle.mdp_reward.specs.Query as reward
use Rattle.mdp_mean.specs.Query as mean
use Rattle.mdp_discount.specs.Query as discount
use Rattle.mdp_discount_rules.specs.Cert.{Certificate}
use Rattle.mdp_farkas.specs.Verdict.{InWidth}
use Rattle.mdp_discount_rules.specs.{BoundsChecks.{discount_bounds_checks}, BoundsRules.{greatest_magnitude}}

-- the query of the greatest, or the least, probability to reach a goal ends with a term past width
abbrev pub IsReachWide : Dir → Mdp → List Bool → Type 0
IsReachWide dir m goals = (w : WideTerm) × reach.EndsSo dir m goals (Err w)

-- that of the reward of name r until a goal does
abbrev pub IsRewardWide : Dir → Mdp → ℕ → List Bool → Type 0
IsRewardWide dir m r goals = (w : WideTerm) × reward.EndsSo dir m r goals (Err w)

-- that of the mean payoff of name r does
abbrev pub IsMeanWide : Dir → Mdp → ℕ → Type 0
IsMeanWide dir m r = (w : WideTerm) × mean.EndsSo dir m r (Err w)

-- no term of a check is past width where these values are the lower and the upper bounds of discounted rewards
abbrev pub IsInWidth : Dir → Mdp → ℕ → ℚ → List (Option ℚ) → List ℕ → Type 0
IsInWidth dir m r f v policy = All InWidth (discount_bounds_checks dir m r f v v (greatest_magnitude v v) policy)

-- that of the discounted reward of name r does; or it ends with an answer whose check as bounds comes to a term past width: these make other sums
abbrev pub IsDiscountWide : Dir → Mdp → ℕ → ℚ → Type 0
IsDiscountWide dir m r f =
    ((w : WideTerm) × discount.EndsSo dir m r (slice_index_or m.names r []) f (Err w))
    ⊎ ((a : Certificate) × discount.EndsSo dir m r (slice_index_or m.names r []) f (Ok a) × (IsInWidth dir m r f (map Some a.values) a.choices → ⊥))
