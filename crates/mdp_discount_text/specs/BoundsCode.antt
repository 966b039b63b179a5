-- What the code has read, as the definitions see it.
use Rattle.mdp_discount_text.specs.{Code.{plain_claim}, declared.bounds_head_lines.Head.{Head}, Reading.{BoundsHead}}

abbrev pub plain_head : Head → BoundsHead
plain_head h = record { front = record { claim = plain_claim h.claim; states = h.states; init = h.init }; remainder = h.remainder }
