use Rattle.std.proofs.Common.{◌≡◌, drop, map}
use Rattle.mdp_farkas.specs.Spread.{written_best}
use Rattle.mdp_rows.specs.declared.dir.Dir.TheVariants.{Max}
use Rattle.mdp_discount_rules.specs.Rules.{magnitude}
use Rattle.mdp_discount_rules.proofs.remainder.greatest_from.Given as goal

abbrev pub invariant-loop-number : goal.invariant-loop-number
invariant-loop-number l = written_best Max l.fn.first (map magnitude l.numbers) ≡ written_best Max l.best (map magnitude (drop l.number-index l.numbers))
