-- The certificate of a subsystem that was found is accepted for the model, and so its claim is true.
use Rattle.std.proofs.Common.{◌≡◌, ℕ, Bool, true, cond, List, Option, Some, refl, ap, ap₂, ◌∙◌, ◌&&◌, eq-eqb}
use Rattle.mdp_math.specs.Rational.{ℚ}
use Rattle.mdp_spec.specs.{Labels.{initial_of}, Mdp.{Mdp, states_of}}
use Rattle.mdp_rows.specs.{declared.dir.Dir.{Dir}, declared.dir.Dir.TheVariants.{Max, Min}}
use Rattle.mdp_claims.specs.declared.verdict.Verdict.TheVariants as verdict
use Rattle.mdp_cert.specs.Cert as certificate
use Rattle.mdp_cert.specs.Cert.{PlainBody, is_body_of}
use Rattle.mdp_text.specs.declared.init.Init.TheVariants.{Start}
use Rattle.mdp_check.specs.{Initial.{init_check, is_subsystem}, Check.{way_by, valid_by, IsAccepted}}
use Rattle.mdp_farkas.specs.Initial.{init_fault}
use Rattle.mdp_witness.specs.{Query.{PlainSubsystem, flow, floor}, Shown.{HasShape, Holds}}
use Rattle.mdp_command_solve.specs.{Ways.{goals_by}, WitnessCertificate.{body_of, certificate_of}}
use Rattle.mdp_command_solve.proofs.{OnWay.{witness_marked}, WitnessFitting.{flow_fits, floor_fits}}

-- ---- the initial state

start_named : (s : ℕ) (initial : Option ℕ) (body : PlainBody) → initial ≡ Some s → is_subsystem body ≡ true → init_check (Start s) initial body ≡ verdict.Yes
start_named s initial body e sub =
    ap (λ (i : Option ℕ). init_check (Start s) i body) e ∙ ap₂ (λ (a b : Bool). cond (a && b) verdict.Yes (init_fault (Some s))) (eq-eqb s s refl) sub

-- ---- the body

is_subsystem_of : (found : PlainSubsystem) → is_subsystem (body_of found) ≡ true
is_subsystem_of (flow kept wide flows) = refl
is_subsystem_of (floor kept wide values ranks) = refl

module _ (stay : Option (List ℕ)) (label : List ℕ) (threshold : ℚ) (start : ℕ) (m : Mdp) where
  entries_of : (dir : Dir) (found : PlainSubsystem) → HasShape dir m found → is_body_of (certificate.witness dir stay label threshold) (states_of m) (body_of found) ≡ true
  entries_of Max (flow kept wide flows) shape = flow_fits m (states_of m) refl kept wide flows shape
  entries_of Max (floor kept wide values ranks) shape = absurd shape
  entries_of Min (flow kept wide flows) shape = absurd shape
  entries_of Min (floor kept wide values ranks) shape = floor_fits m (states_of m) refl kept wide values ranks shape

  valid_of : (dir : Dir) (goals : List Bool) (found : PlainSubsystem) → Holds dir (way_by m goals stay) goals start threshold found
      → valid_by m 0 goals start (certificate.witness dir stay label threshold) (body_of found)
  valid_of Max goals (flow kept wide flows) holds = holds
  valid_of Max goals (floor kept wide values ranks) holds = absurd holds
  valid_of Min goals (flow kept wide flows) holds = absurd holds
  valid_of Min goals (floor kept wide values ranks) holds = holds

  -- a subsystem of this shape whose rules hold is accepted
  pub witness_accepted : (dir : Dir) (goals : List Bool) (found : PlainSubsystem) → goals_by m stay label ≡ Some goals → initial_of m ≡ Some start → HasShape dir m found
      → Holds dir (way_by m goals stay) goals start threshold found → IsAccepted m (certificate_of dir stay label threshold start m found)
  witness_accepted dir goals found named initial shape holds = record {
    states = refl;
    entries = entries_of dir found shape;
    reward = 0;
    named = refl;
    goals = goals;
    marked = witness_marked m dir stay label threshold goals named;
    init = start_named start (initial_of m) (body_of found) initial (is_subsystem_of found);
    body = valid_of dir goals found holds;
  }
