-- What the code has read, as the definitions see it.
use Rattle.mdp_cert.specs.{Cert.{plain_claim}, declared.bounds_head.Head.{Head}, BoundsReading.{BoundsHead}}

abbrev pub plain_head : Head → BoundsHead
plain_head h = record { claim = plain_claim h.claim; states = h.states; init = h.init }
