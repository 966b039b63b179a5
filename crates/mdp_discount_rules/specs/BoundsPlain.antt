-- What a certificate of the program says.
use Rattle.mdp_discount_rules.specs.{BoundsCert.{Certificate}, declared.bounds_cert.DiscountBoundsCert.{DiscountBoundsCert}}

abbrev pub plain : DiscountBoundsCert → Certificate
plain c = record {
  dir = c.dir;
  name = c.name.items;
  factor = c.factor;
  init = c.init;
  remainder = c.bounds.remainder;
  lower = c.bounds.lower.items;
  upper = c.bounds.upper.items;
  choices = c.bounds.choices.items;
}
