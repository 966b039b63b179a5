use Rattle.std.specs.List.{AllWithin}
use Rattle.mdp_cert.specs.Cert.{IsValueNarrow}
use Rattle.mdp_cert.proofs.widths.all_values_narrow.Given as goal

abbrev pub invariant-loop-value : goal.invariant-loop-value
invariant-loop-value l = AllWithin IsValueNarrow l.values 0 l.value-index
