use Rattle.std.specs.List.{filter, range_with_len}
use Rattle.mdp_spec.specs.Mdp.{has_label}
use Rattle.mdp_rows.proofs.Queries.Tally.{IsTally}
use Rattle.mdp_rows.proofs.model.Model.initial.Given as goal

abbrev pub invariant-loop-s : goal.invariant-loop-s
invariant-loop-s l = IsTally (filter (has_label l.self l.init) (range_with_len 0 l.s)) l.first l.more
