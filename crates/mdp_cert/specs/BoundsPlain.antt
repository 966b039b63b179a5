-- What a certificate of the program says.
use Rattle.mdp_cert.specs.{Cert.{plain_claim}, declared.bounds_cert.BoundsCert.{BoundsCert}, BoundsCert.{plain_body, Certificate}}

abbrev pub plain : BoundsCert → Certificate
plain c = record { claim = plain_claim c.claim; states = c.states; init = c.init; body = plain_body c.body }
