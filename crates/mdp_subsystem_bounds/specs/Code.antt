-- What the code has read, as the definitions see it.
use Rattle.std.specs.Prelude.{option_map}
use Rattle.mdp_subsystem_bounds.specs.{Cert.{SubsystemClaim}, Reading.{SubsystemHead}, declared.head_lines.ClaimLine.{ClaimLine}, declared.head_lines.Head.{Head}}

abbrev pub plain_claim : ClaimLine → SubsystemClaim
plain_claim c = record { dir = c.dir; stay = option_map (λ name. name.items) c.stay; label = c.label.items; threshold = c.threshold }

abbrev pub plain_head : Head → SubsystemHead
plain_head h = record { claim = plain_claim h.claim; states = h.states; init = h.init }
