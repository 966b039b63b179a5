use Rattle.std.proofs.Common.{ap, ◌==◌, ◌∙◌}
use Rattle.std.specs.List.{list_any}
use Rattle.mdp_rows.proofs.model.Model.has.Goals as goal

pub returns : goal.returns
returns c = c.contains.ensures.value ∙ ap (list_any (λ k. k == c.args.l)) c.labels_of.ensures
