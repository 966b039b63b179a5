-- The checks of what is claimed of the discounted reward, by the fields of the claim.
use Rattle.std.specs.Prelude.{ℕ, List}
use Rattle.mdp_math.specs.Rational.{ℚ}
use Rattle.mdp_farkas.specs.Verdict.{Check}
use Rattle.mdp_discount_rules.specs.Checks.{covers_check, reached_check, checks_at, discount_checks}
use Rattle.mdp_discount_rules.specs.declared.holds.DiscountClaim.{DiscountClaim}

-- rule 26 of choice c at state s
abbrev pub covers_at : DiscountClaim → ℕ → ℕ → Check
covers_at x s c = covers_check x.dir x.model.now x.name x.factor.now x.values.now s c

-- rule 27 of choice c at state s
abbrev pub reached_at : DiscountClaim → ℕ → ℕ → Check
reached_at x s c = reached_check x.model.now x.name x.factor.now x.values.now s c

-- all rules at state s, where the policy takes this choice
abbrev pub rules_at : DiscountClaim → ℕ → ℕ → List Check
rules_at x s choice = checks_at x.dir x.model.now x.name x.factor.now x.values.now s choice

-- all rules, with this remainder
abbrev pub all_checks : DiscountClaim → ℚ → List Check
all_checks x remainder = discount_checks x.dir x.model.now x.name x.factor.now x.values.now remainder x.choices.now
