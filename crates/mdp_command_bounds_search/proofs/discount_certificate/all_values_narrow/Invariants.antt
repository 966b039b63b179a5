use Rattle.std.specs.List.{AllWithin}
use Rattle.mdp_discount_rules.specs.BoundsCert.{IsValueNarrow}
use Rattle.mdp_command_bounds_search.proofs.discount_certificate.all_values_narrow.Given as goal

abbrev pub invariant-loop-value : goal.invariant-loop-value
invariant-loop-value l = AllWithin IsValueNarrow l.values 0 l.value-index
