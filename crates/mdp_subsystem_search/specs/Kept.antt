-- Kept states that reach the threshold.
use Rattle.std.specs.Prelude.{◌≡◌, Bool, ℕ, List, length}
use Rattle.mdp_math.specs.Rational.{ℚ}
use Rattle.mdp_spec.specs.{Mdp.{Mdp, states_of}, Sub.{sub_of}}
use Rattle.mdp_rows.specs.declared.dir.Dir.{Dir}
use Rattle.mdp_subsystem_search.specs.Steps.{IsReaching}
use Rattle.mdp_subsystem_search.specs.declared.found.Found.{Found}

-- there is one mark for each state, and on the marked ones the best probability comes to the threshold by the certificate
pub record IsFound (dir : Dir) (m : Mdp) (goals : List Bool) (start : ℕ) (threshold : ℚ) (found : Found) : Type 0 where
  pub each : length found.kept ≡ states_of m
  pub reaching : IsReaching dir (sub_of m goals found.kept) goals start threshold found.cert
