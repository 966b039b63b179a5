-- The checks of one column of values, and of what is claimed of reaching a goal, by the fields of these.
use Rattle.std.specs.Prelude.{ℕ, List, Bool}
use Rattle.mdp_math.specs.Rational.{ℚ}
use Rattle.mdp_spec.specs.Mdp.{Mdp}
use Rattle.mdp_farkas.specs.Verdict.{Check}
use Rattle.mdp_rows.specs.declared.dir.Dir.{Dir}
use Rattle.mdp_bounds.specs.Reach.{covering, followed, cover_at, follow_at, bounds_at}
use Rattle.mdp_bounds.specs.declared.reach.{ReachHalf.{ReachHalf}, ReachBoundsClaim.{ReachBoundsClaim}}

-- a rule that is asked of the values at the state
abbrev pub asked_of : {A : Type 0} → ReachHalf → (Dir → Mdp → List Bool → List ℚ → ℕ → A) → A
asked_of h rule = rule h.dir h.model.now h.goals.now h.values.now h.state

-- rules 3 to 5 at state s: the half on each choice
abbrev pub covers_at : ReachBoundsClaim → ℕ → List Check
covers_at x s = cover_at x.dir x.model.now x.goals.now (covering x.dir x.lower.now x.upper.now) s

-- rules 3, 4 and 6 at state s: the half on the policy's choice
abbrev pub follows_at : ReachBoundsClaim → ℕ → ℕ → List Check
follows_at x s choice = follow_at x.dir x.model.now x.goals.now (followed x.dir x.lower.now x.upper.now) s choice

-- all rules at state s, where the policy takes this choice
abbrev pub rules_at : ReachBoundsClaim → ℕ → ℕ → List Check
rules_at x s choice = bounds_at x.dir x.model.now x.goals.now x.lower.now x.upper.now x.ranks.now s choice
