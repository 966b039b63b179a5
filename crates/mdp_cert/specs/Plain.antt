-- What a certificate of the program says.
use Rattle.mdp_cert.specs.{declared.cert.Cert.{Cert}, Cert.{plain_claim, plain_body, Certificate}}

abbrev pub plain : Cert → Certificate
plain c = record { claim = plain_claim c.claim; states = c.states; init = c.init; body = plain_body c.body }
