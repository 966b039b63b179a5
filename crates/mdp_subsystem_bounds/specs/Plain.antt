-- What a certificate of the program says.
use Rattle.std.specs.Prelude.{option_map}
use Rattle.mdp_subsystem_bounds.specs.{Cert.{Lists, Certificate}, declared.lists.SubsystemBounds.{SubsystemBounds}, declared.cert.SubsystemBoundsCert.{SubsystemBoundsCert}}

abbrev pub plain_lists : SubsystemBounds → Lists
plain_lists l = record { lower = l.bounds.lower.items; choices = l.bounds.choices.items; ranks = l.bounds.ranks.items; marks = l.marks.items }

abbrev pub plain : SubsystemBoundsCert → Certificate
plain c = record {
  claim = record { dir = c.dir; stay = option_map (λ name. name.items) c.stay; label = c.label.items; threshold = c.threshold };
  start = c.start;
  lists = plain_lists c.lists;
}
