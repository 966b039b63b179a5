use Rattle.std.proofs.Common.{map, is_some, sym, ap, subst, ◌∙◌}
use Rattle.mdp_graph.specs.SureAll.{IsSureAll}
use Rattle.mdp_graph.proofs.always.sure_all.Goals as goal

pub returns-clause-marks : goal.returns-clause-marks
returns-clause-marks c =
    subst (IsSureAll c.args.model.now c.args.goals.now) (sym ((c.in_ok-without_choices.ensures {u = tt}).marks ∙ ap (map is_some) c.deref.ensures.value)) (c.in_ok-ranks.ensures {u = tt}).sure
