-- The certificate of a witness.
use Rattle.std.specs.Prelude.{ℕ, List, Option}
use Rattle.mdp_math.specs.Rational.{ℚ}
use Rattle.mdp_spec.specs.Mdp.{Mdp, states_of}
use Rattle.mdp_rows.specs.{declared.dir.Dir.{Dir}, declared.dir.Dir.TheVariants.{Max, Min}}
use Rattle.mdp_cert.specs.Cert as certificate
use Rattle.mdp_cert.specs.Cert.{PlainBody, Certificate}
use Rattle.mdp_text.specs.declared.init.Init.TheVariants.{Start}
use Rattle.mdp_witness.specs.Query.{PlainSubsystem, flow, floor}

-- a subsystem with flows reaches the threshold by some policy, one with values and ranks by each
abbrev pub dir_of : PlainSubsystem → Dir
dir_of (flow kept wide flows) = Max
dir_of (floor kept wide values ranks) = Min

-- what its lines list: the kept states, with their marks; then the flows, or the kept states' values and ranks
abbrev pub body_of : PlainSubsystem → PlainBody
body_of (flow kept wide flows) = certificate.flow kept wide flows
body_of (floor kept wide values ranks) = certificate.floor kept wide values ranks

-- the claim that on the kept states the greatest, or the least, probability of reaching the label from the start, by way of states with the label `stay`
-- alone where there is one, is the threshold at least
abbrev pub certificate_of : Dir → Option (List ℕ) → List ℕ → ℚ → ℕ → Mdp → PlainSubsystem → Certificate
certificate_of dir stay label threshold start m found = record {
  claim = certificate.witness dir stay label threshold;
  states = states_of m;
  init = Start start;
  body = body_of found;
}
