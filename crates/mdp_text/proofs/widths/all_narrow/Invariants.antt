use Rattle.std.specs.List.{AllWithin}
use Rattle.mdp_num.specs.Value.{IsNarrow}
use Rattle.mdp_text.proofs.widths.all_narrow.Given as goal

abbrev pub invariant-loop-value : goal.invariant-loop-value
invariant-loop-value l = AllWithin IsNarrow l.values 0 l.value-index
