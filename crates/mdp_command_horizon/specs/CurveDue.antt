-- What is due to `curve` of a bounded until and of a total reward, and to the model: the values of its one initial state with each number of steps.
use Rattle.std.specs.Prelude.{◌≡◌, ℕ, List, Option, Some, None, Ok, Err, pos}
use Rattle.mdp_math.specs.Result.{◌>>=◌}
use Rattle.mdp_spec.specs.{Labels.{place_of, initial_of}, Mdp.{Mdp}}
use Rattle.mdp_rows.specs.declared.dir.Dir.{Dir}
use Rattle.mdp_horizon.specs.{Objective.{Objective}, Objective.Objective.{until as until_objective, total as total_objective}, Finer.{unit_of}, Curve.{curve_of}}
use Rattle.mdp_horizon.specs.{CurveSpelling.{curve_text}, BoundsSpelling.{PlainClaim}, BoundsSpelling.PlainClaim.{until as until_claim, total as total_claim}}
use Rattle.mdp_job.specs.Refusal.{query_init}
use Rattle.mdp_command.specs.Said.{Said}
use Rattle.mdp_command_horizon.specs.Due.{states_with, states_that_stay, stay_word, name_at}

-- the text of the curve of this state, where there is exactly one initial state
abbrev pub said_of_curve : Dir → PlainClaim → Objective → ℕ → ℕ → Mdp → Option ℕ → Said
said_of_curve dir asked o steps digits m None = Err query_init
said_of_curve dir asked o steps digits m (Some s) = Ok (curve_text dir asked s (curve_of dir (pos (unit_of m o digits steps)) m o s steps))

-- the labels first, then the initial state
abbrev pub IsUntilCurveDue : Dir → Option (List ℕ) → List ℕ → ℕ → ℕ → Mdp → Said → Type 0
IsUntilCurveDue dir stay label steps digits m said =
    said ≡ states_that_stay m stay
    >>= (λ stays. states_with m label
    >>= (λ goals. said_of_curve dir (until_claim (stay_word stay) label) (until_objective stays goals) steps digits m (initial_of m)))

-- the name first, then the initial state
abbrev pub IsTotalCurveDue : Dir → List ℕ → ℕ → ℕ → Mdp → Said → Type 0
IsTotalCurveDue dir name steps digits m said =
    said ≡ name_at (place_of name m.names) >>= (λ r. said_of_curve dir (total_claim name) (total_objective r) steps digits m (initial_of m))
