use Rattle.std.proofs.Common.{◌≡◌, drop, map}
use Rattle.mdp_spec.specs.Bounds.{finite_part}
use Rattle.mdp_rows.specs.declared.dir.Dir.TheVariants.{Max}
use Rattle.mdp_bounds.specs.Mean.{exact_best}
use Rattle.mdp_discount_rules.specs.Rules.{magnitude}
use Rattle.mdp_discount_rules.proofs.bounds_remainder.greatest_from.Given as goal

abbrev pub invariant-loop-value : goal.invariant-loop-value
invariant-loop-value l = exact_best Max l.fn.first (map magnitude (finite_part l.values)) ≡ exact_best Max l.best (map magnitude (finite_part (drop l.value-index l.values)))
