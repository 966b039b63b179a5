-- The checks of what is claimed of the reward until a goal, by the fields of the claim.
use Rattle.std.specs.Prelude.{ℕ, List, [], ◌∷◌, ◌++◌, Option, if◌then◌else◌}
use Rattle.mdp_math.specs.Rational.{ℚ}
use Rattle.mdp_spec.specs.Mdp.{Mdp}
use Rattle.mdp_rows.specs.declared.dir.Dir.{Dir}
use Rattle.mdp_farkas.specs.{Verdict.{Check}, declared.infinite.Missing.{Missing}, declared.reward.RewardClaim.{RewardClaim}}
use Rattle.mdp_farkas.specs.Reward.{is_looked_at, earning_check, policy_earning_check, rank_fall_checks, transient_checks, place_checks, sign_checks}

-- a rule on the row of a choice, which is asked at the state of infinite value
abbrev pub asked_of : {A : Type 0} → Missing → (Mdp → List (Option ℚ) → List ℕ → ℕ → A) → A
asked_of x rule = rule x.model.now x.values.now x.ranks.now x.state

-- a rule that is asked of the values
abbrev pub asked_of_values : {A : Type 0} → RewardClaim → (Dir → Mdp → ℕ → List (Option ℚ) → A) → A
asked_of_values x rule = rule x.dir x.model.now x.name x.values.now

-- rule 11 at choice c of state s, where it looks at that one
abbrev pub earns_at : RewardClaim → ℕ → ℕ → List Check
earns_at x s c = if is_looked_at x.dir x.model.now x.values.now s c then asked_of_values x earning_check s c ∷ [] else []

-- rules 12 and 13, and all from 10 to 13
abbrev pub policy_at : RewardClaim → ℕ → ℕ → List Check
policy_at x s choice = asked_of_values x policy_earning_check s choice ∷ rank_fall_checks x.dir x.model.now x.ranks.now s choice

abbrev pub transient_at : RewardClaim → ℕ → ℕ → List Check
transient_at x s choice = transient_checks x.dir x.model.now x.name x.values.now x.ranks.now s choice

-- rules 9 to 15 of the value and the rank of state s, and with rule 25 of its rewards
abbrev pub places_at : RewardClaim → ℕ → ℕ → List Check
places_at x s choice = place_checks x.dir x.model.now x.name x.goals.now x.values.now x.ranks.now s choice

abbrev pub rules_at : RewardClaim → ℕ → ℕ → List Check
rules_at x s choice = places_at x s choice ++ sign_checks x.model.now x.name s
