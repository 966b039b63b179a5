use Rattle.std.proofs.Common.{sym, ◌∙◌}
use Rattle.mdp_drn.specs.HeaderView.{view, view_next}
use Rattle.mdp_drn.proofs.LinesRead.HeaderKeeps.{at_model, begun_model, begun_other}
use Rattle.mdp_drn.proofs.document.begin.Goals as goal

pub returns-then-not-is_model-clause-begun : goal.returns-then-not-is_model-clause-begun
returns-then-not-is_model-clause-begun c =
    sym (begun_other c.args.rule (view c.args.header.now) (view_next c.args.next) (sym c.is_model.ensures ∙ c.if-not-is_model.true))

pub begin_body-requires : goal.begin_body-requires
begin_body-requires c = at_model (view c.args.header.now) (view_next c.args.next) (sym c.is_model.ensures ∙ c.if-not-is_model.false) c.requires

pub returns-in-Ok-clause-begun : goal.returns-in-Ok-clause-begun
returns-in-Ok-clause-begun c =
    c.in-Ok.ensures.body ∙ sym (begun_model c.args.rule (view c.args.header.now) (view_next c.args.next) (sym c.is_model.ensures ∙ c.if-not-is_model.false))
