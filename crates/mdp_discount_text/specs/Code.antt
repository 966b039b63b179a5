-- What the code has read, as the definitions see it.
use Rattle.mdp_text.specs.declared.init.Init.{Init}
use Rattle.mdp_discount_text.specs.{Text.{Claim, DiscountHead}, declared.claim_line.ClaimLine.{ClaimLine}, declared.claim_line.ClaimWords.{ClaimWords}}
use Rattle.mdp_discount_text.specs.declared.head_lines.Head.{Head}

abbrev pub said_claim : ClaimWords → Claim
said_claim c = record { dir = c.dir; name = c.name.now; factor = c.factor }

abbrev pub plain_claim : ClaimLine → Claim
plain_claim c = record { dir = c.dir; name = c.name.items; factor = c.factor }

abbrev pub plain_head : Head → DiscountHead Init
plain_head h = record { front = record { claim = plain_claim h.claim; states = h.states; init = h.init }; remainder = h.remainder }
