use Rattle.std.proofs.Common.{◌∙◌, ap, List}
use Rattle.mdp_spec.specs.Mdp.{Entry}
use Rattle.mdp_witness.specs.FrontCode.{with_row}
use Rattle.mdp_witness.proofs.Fronts.{states_row}
use Rattle.mdp_witness.proofs.first.Query.find_by.Goals as goal

pub returns-clause-found : goal.returns-clause-found
returns-clause-found c =
    (c.in_ok-find_each.ensures {u = tt}).found
    ∙ states_row c.args.self.now.goals.now c.args.self.now.values.now c.row-row.result.targets.now c.row-row.result.probs.now c.args.front.now c.row-row.result.same_length
    ∙ ap (λ (row : List Entry). with_row c.args.self.now.goals.now c.args.self.now.values.now c.args.front.now row) c.row-row.ensures.row
