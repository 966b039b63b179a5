-- Laws of checking certificates of bounds, over the definitions alone.
use Rattle.std.specs.Prelude.{◌≡◌, ◌↔◌, IsTrue}
use Rattle.mdp_spec.specs.{Mdp.{Mdp}, Row.{IsMdp}, Labels.{initial_of}}
use Rattle.mdp_cert.specs.BoundsCert.{Certificate, is_body_of}
use Rattle.mdp_claims.specs.{declared.rule.Rule.TheVariants.{InitialState}, declared.verdict.Fault.{Fault}}
use Rattle.mdp_check.specs.{Bounds.{bounds_answer_to, IsBoundsAccepted, IsBoundsTrue}, BoundsSays.{BoundsInitSays}, declared.answer.Answer.TheVariants.{Yes, No}}

-- of a model the answer is yes exactly where the certificate is accepted
abbrev pub YesAcceptsBounds : Type 0
YesAcceptsBounds = (m : Mdp) (c : Certificate) → IsMdp m → (bounds_answer_to m c ≡ Yes) ↔ IsBoundsAccepted m c

-- the claim of an accepted certificate is true
abbrev pub AcceptedBoundsAreTrue : Type 0
AcceptedBoundsAreTrue = (m : Mdp) (c : Certificate) → IsMdp m → IsBoundsAccepted m c → IsBoundsTrue m c

-- where the answer for a model is no, it names rule 1 exactly where what the line `init` says is false
abbrev pub BoundsNoOfInit : Type 0
BoundsNoOfInit =
    (m : Mdp) (c : Certificate) (fault : Fault) → IsMdp m → IsTrue (is_body_of c.claim c.states c.body) → bounds_answer_to m c ≡ No fault
    → (fault.rule ≡ InitialState) ↔ (BoundsInitSays c.init (initial_of m) c.body → ⊥)
