-- What a certificate of the program says.
use Rattle.mdp_discount_rules.specs.{Cert.{Certificate}, declared.cert.DiscountCert.{DiscountCert}}

abbrev pub plain : DiscountCert → Certificate
plain c = record { dir = c.dir; name = c.name.items; factor = c.factor; init = c.init; remainder = c.remainder; values = c.values.items; choices = c.choices.items }
