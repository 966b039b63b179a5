-- The checks of one column of values, and of what is claimed of the discounted reward with bounds, by the fields of these.
use Rattle.std.specs.Prelude.{ℕ, List, [], ◌∷◌, Option}
use Rattle.mdp_math.specs.Rational.{ℚ}
use Rattle.mdp_spec.specs.Mdp.{Mdp}
use Rattle.mdp_farkas.specs.{Reach.{other}, Verdict.{Check, at_choices}}
use Rattle.mdp_rows.specs.declared.dir.Dir.{Dir}
use Rattle.mdp_bounds.specs.Says.{covering_rewards}
use Rattle.mdp_discount_rules.specs.BoundsChecks.{each_check, policy_check, bounds_at, discount_bounds_checks}
use Rattle.mdp_discount_rules.specs.declared.{half.DiscountHalf.{DiscountHalf}, bounds_holds.DiscountBoundsClaim.{DiscountBoundsClaim}}

-- a rule that is asked of the values at the state
abbrev pub asked_of : {A : Type 0} → DiscountHalf → (Dir → Mdp → ℕ → ℚ → List (Option ℚ) → ℕ → A) → A
asked_of h rule = rule h.dir h.model.now h.name h.factor.now h.values.now h.state

-- rule 26 at state s
abbrev pub covers_at : DiscountBoundsClaim → ℕ → List Check
covers_at x s = at_choices x.model.now s (each_check x.dir x.model.now x.name x.factor.now (covering_rewards x.dir x.lower.now x.upper.now) s)

-- rule 27 at state s, where the policy takes this choice
abbrev pub follows_at : DiscountBoundsClaim → ℕ → ℕ → List Check
follows_at x s choice = policy_check (other x.dir) x.model.now x.name x.factor.now (covering_rewards (other x.dir) x.lower.now x.upper.now) s choice ∷ []

-- all rules at state s, where the policy takes this choice
abbrev pub rules_at : DiscountBoundsClaim → ℕ → ℕ → List Check
rules_at x s choice = bounds_at x.dir x.model.now x.name x.factor.now x.lower.now x.upper.now s choice

-- all rules, with this remainder
abbrev pub all_checks : DiscountBoundsClaim → ℚ → List Check
all_checks x remainder = discount_bounds_checks x.dir x.model.now x.name x.factor.now x.lower.now x.upper.now remainder x.choices.now
