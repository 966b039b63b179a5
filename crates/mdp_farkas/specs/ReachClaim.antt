-- The checks of what is claimed of reaching a goal, by the fields of the claim.
use Rattle.std.specs.Prelude.{ℕ, List, [], ◌∷◌, ◌++◌, Option, Bool}
use Rattle.mdp_farkas.specs.{Verdict.{Check}, Bellman.{stands_at}, Reach.{policy_check, value_checks, rank_checks}}
use Rattle.mdp_farkas.specs.{declared.bellman.Held.{Held}, declared.reach.ReachClaim.{ReachClaim}}
use Rattle.mdp_rows.specs.declared.dir.Dir.{Dir}

-- how the value stands to the sum over the row of choice c
abbrev pub row_stands : Dir → Held → ℕ → Option Bool
row_stands dir h c = stands_at dir h.model.now h.values.now h.state c

-- rule 6, of the policy's choice c
abbrev pub policy_checks : Held → ℕ → List Check
policy_checks h c = policy_check h.dir h.model.now h.values.now h.state c ∷ []

-- rules 4 to 6 of the value of state s, and with rules 7 and 8 of its rank
abbrev pub values_at : ReachClaim → ℕ → ℕ → List Check
values_at x s choice = value_checks x.dir x.model.now x.goals.now x.values.now s choice

abbrev pub places_at : ReachClaim → ℕ → ℕ → List Check
places_at x s choice = values_at x s choice ++ rank_checks x.dir x.model.now x.goals.now x.values.now x.ranks.now s choice
