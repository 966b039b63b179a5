-- What is due to `bounds` of a bounded until and of a total reward, and to the model: the values that are rounded outward, in units as fine as the
-- steps cost.
use Rattle.std.specs.Prelude.{◌≡◌, ℕ, ◌*◌, List, Option, Ok, Err, pos, nat_lt, if◌then◌else◌}
use Rattle.mdp_math.specs.Result.{◌>>=◌}
use Rattle.mdp_spec.specs.{Labels.{place_of}, Mdp.{Mdp, states_of}}
use Rattle.mdp_rows.specs.declared.dir.Dir.{Dir}
use Rattle.mdp_horizon.specs.{Objective.{Objective}, Objective.Objective.{until as until_objective, total as total_objective}}
use Rattle.mdp_horizon.specs.{Columns.{bounds_of}, Finer.{unit_of}}
use Rattle.mdp_horizon.specs.{BoundsSpelling.{PlainClaim, bounds_text}, BoundsSpelling.PlainClaim.{until as until_claim, total as total_claim}}
use Rattle.mdp_job.specs.Refusal.{query_steps}
use Rattle.mdp_command.specs.Said.{Said}
use Rattle.mdp_command_horizon.specs.Due.{most_choices, states_with, states_that_stay, stay_word, name_at}

-- the text of the bounds, where the table of so many steps isn't too large
abbrev pub said_of_bounds : Dir → PlainClaim → Objective → ℕ → ℕ → Mdp → Said
said_of_bounds dir asked o steps digits m =
    if nat_lt most_choices (steps * states_of m) then Err query_steps
    else Ok (bounds_text dir asked m (bounds_of dir (pos (unit_of m o digits steps)) m o steps))

-- the labels first, then the number of steps
abbrev pub IsUntilBoundsDue : Dir → Option (List ℕ) → List ℕ → ℕ → ℕ → Mdp → Said → Type 0
IsUntilBoundsDue dir stay label steps digits m said =
    said ≡ states_that_stay m stay
    >>= (λ stays. states_with m label
    >>= (λ goals. said_of_bounds dir (until_claim (stay_word stay) label) (until_objective stays goals) steps digits m))

-- the name first, then the number of steps
abbrev pub IsTotalBoundsDue : Dir → List ℕ → ℕ → ℕ → Mdp → Said → Type 0
IsTotalBoundsDue dir name steps digits m said =
    said ≡ name_at (place_of name m.names) >>= (λ r. said_of_bounds dir (total_claim name) (total_objective r) steps digits m)
