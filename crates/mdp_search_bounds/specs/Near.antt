-- How near an upper value comes to a lower one.
use Rattle.std.specs.Prelude.{ℕ, ◌<◌, ◌^◌, List, [], ◌∷◌, Option, Some, None, pos}
use Rattle.mdp_math.specs.{Rational.{ℚ, of_int, ratio, neg_ℚ, ◌+ℚ◌, ◌*ℚ◌, ◌≤ℚ◌}, Extremes.{greatest}}
use Rattle.mdp_spec.specs.{Mdp.{Mdp, states_of, value_at}, Bounds.{reward_at}}

-- the greater of 1 and the magnitude of x
abbrev pub scale_of : ℚ → ℚ
scale_of x = greatest (of_int (pos 1) ∷ x ∷ neg_ℚ x ∷ [])

-- the upper value is at most 10^-digits above the lower one, or that times its own magnitude where this is above 1
abbrev pub IsNear : ℕ → ℚ → ℚ → Type 0
IsNear digits lower upper = upper ≤ℚ lower +ℚ ratio (pos 1) (10 ^ digits) *ℚ scale_of upper

-- the same of two values of which both are there; or both are infinite
abbrev pub IsRewardNear : ℕ → Option ℚ → Option ℚ → Type 0
IsRewardNear digits (Some lower) (Some upper) = IsNear digits lower upper
IsRewardNear digits None None = Unit {0}
IsRewardNear digits lower upper = ⊥

-- the same of two values of which both are there
abbrev pub IsValueNear : ℕ → Option ℚ → Option ℚ → Type 0
IsValueNear digits (Some lower) (Some upper) = IsNear digits lower upper
IsValueNear digits lower upper = ⊥

-- ---- at each state

abbrev pub AreNear : ℕ → Mdp → List ℚ → List ℚ → Type 0
AreNear digits m lower upper = (s : ℕ) → s < states_of m → IsNear digits (value_at lower s) (value_at upper s)

abbrev pub AreRewardsNear : ℕ → Mdp → List (Option ℚ) → List (Option ℚ) → Type 0
AreRewardsNear digits m lower upper = (s : ℕ) → s < states_of m → IsRewardNear digits (reward_at lower s) (reward_at upper s)

abbrev pub AreValuesNear : ℕ → Mdp → List (Option ℚ) → List (Option ℚ) → Type 0
AreValuesNear digits m lower upper = (s : ℕ) → s < states_of m → IsValueNear digits (reward_at lower s) (reward_at upper s)
