-- The checks of what is claimed of a floor, by the fields of the claim.
use Rattle.std.specs.Prelude.{ℕ, List}
use Rattle.mdp_math.specs.Rational.{ℚ}
use Rattle.mdp_farkas.specs.Verdict.{Check}
use Rattle.mdp_subsystem_rules.specs.FloorChecks.{line_values, line_rank, cover_check, cover_checks, rank_checks}
use Rattle.mdp_subsystem_rules.specs.FloorChecks.{line_checks, checks_of_line, each_line, floor_checks}
use Rattle.mdp_subsystem_rules.specs.declared.floor.FloorClaim.{FloorClaim}

-- what each state counts as, and which rank state s counts with
abbrev pub counted_values : FloorClaim → List ℚ
counted_values x = line_values x.model.now x.goals.now x.cert.now.kept.items x.cert.now.values.items

abbrev pub rank_of : FloorClaim → ℕ → ℕ
rank_of x s = line_rank x.model.now x.goals.now x.cert.now.kept.items x.cert.now.ranks.items s

-- rule 5 at the kept state s of this value, of choice c and of each choice
abbrev pub cover_at : FloorClaim → ℕ → ℚ → ℕ → Check
cover_at x s value c = cover_check x.model.now (counted_values x) s value c

abbrev pub covers_at : FloorClaim → ℕ → ℚ → List Check
covers_at x s value = cover_checks x.model.now x.goals.now (counted_values x) s value

-- rules 7 and 8 at the kept state s of this value and rank
abbrev pub falls_at : FloorClaim → ℕ → ℚ → ℕ → List Check
falls_at x s value rank = rank_checks x.model.now x.goals.now (rank_of x) s value rank

-- all rules at the kept state s of this value and rank, at that of line i, and at each kept state
abbrev pub rules_at : FloorClaim → ℕ → ℚ → ℕ → List Check
rules_at x s value rank = line_checks x.model.now x.goals.now x.cert.now.kept.items x.cert.now.values.items x.cert.now.ranks.items s value rank

abbrev pub line_at : FloorClaim → ℕ → List Check
line_at x i = checks_of_line x.model.now x.goals.now x.cert.now.kept.items x.cert.now.values.items x.cert.now.ranks.items i

abbrev pub each_state : FloorClaim → List Check
each_state x = each_line x.model.now x.goals.now x.cert.now.kept.items x.cert.now.values.items x.cert.now.ranks.items

-- all rules, from this start and with this threshold
abbrev pub all_checks : FloorClaim → ℕ → ℚ → List Check
all_checks x start threshold =
    floor_checks x.model.now x.goals.now start threshold x.cert.now.kept.items x.cert.now.values.items x.cert.now.ranks.items
