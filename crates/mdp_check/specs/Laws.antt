-- Laws of checking, over the definitions alone.
use Rattle.std.specs.Prelude.{◌≡◌, ◌↔◌, ℕ, IsTrue, Option}
use Rattle.mdp_spec.specs.{Mdp.{Mdp}, Row.{IsMdp}, Labels.{initial_of}}
use Rattle.mdp_cert.specs.Cert.{Certificate, PlainBody, is_body_of}
use Rattle.mdp_text.specs.declared.init.Init.{Init}
use Rattle.mdp_claims.specs.{declared.rule.Rule.TheVariants.{InitialState}, declared.verdict.Fault.{Fault}}
use Rattle.mdp_claims.specs.declared.verdict.Verdict.TheVariants as verdict
use Rattle.mdp_check.specs.{Initial.{init_check}, Says.{InitSays}, Check.{answer_to, IsAccepted, IsBound}, declared.answer.Answer.TheVariants.{Yes, No}}

-- the answer is yes exactly where the certificate is accepted
abbrev pub YesIsAccepted : Type 0
YesIsAccepted = (m : Mdp) (c : Certificate) → (answer_to m c ≡ Yes) ↔ IsAccepted m c

-- the claim of an accepted certificate is true
abbrev pub AcceptedIsBound : Type 0
AcceptedIsBound = (m : Mdp) (c : Certificate) → IsMdp m → IsAccepted m c → IsBound m c

-- rule 1 holds exactly where what the line `init` says is true
abbrev pub InitIsChecked : Type 0
InitIsChecked = (init : Init) (initial : Option ℕ) (body : PlainBody) → (init_check init initial body ≡ verdict.Yes) ↔ InitSays init initial body

-- where the answer is no, it names rule 1 exactly where what the line `init` says is false
abbrev pub NoOfInit : Type 0
NoOfInit =
    (m : Mdp) (c : Certificate) (fault : Fault) → IsTrue (is_body_of c.claim c.states c.body) → answer_to m c ≡ No fault
    → (fault.rule ≡ InitialState) ↔ (InitSays c.init (initial_of m) c.body → ⊥)
