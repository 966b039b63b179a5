use Rattle.std.proofs.Common.{refl, sym, ap, ◌∙◌}
use Rattle.mdp_job.specs.{Job.{plain_job}, declared.job.Job.{Job}}
use Rattle.mdp_app.specs.InRange.{asked_for}
use Rattle.mdp_app.proofs.{Deciding.{refused_words, alone_decided, model_decided, pair_decided, decided_as}, InRange.{in_range_of, can_draw_of}}
use Rattle.mdp_app.proofs.run.answer_to_words.Goals as goal

pub returns-in-Err : goal.returns-in-Err
returns-in-Err g c = refused_words _ c.in-Err.error _ _ c.in-Err.ensures refl refl refl refl

pub on_model-requires : goal.on_model-requires
on_model-requires g c = in_range_of c.args.words.now _ (sym (ap (λ (job : Job). asked_for (plain_job job)) c.in-OnModel.is) ∙ c.in-Ok.ensures)

pub returns-in-OnModel : goal.returns-in-OnModel
returns-in-OnModel g c =
    decided_as _ _ _ _ _ (sym (ap (λ (job : Job). asked_for (plain_job job)) c.in-OnModel.is) ∙ c.in-Ok.ensures)
    (model_decided _ _ _ _ _ _ refl refl (λ bytes other said due. due) (λ bytes other text shown. shown) refl refl _ c.on_model.ensures.read c.on_model.ensures.end)

pub returns-in-OnPair : goal.returns-in-OnPair
returns-in-OnPair g c =
    decided_as _ _ _ _ _ (sym (ap (λ (job : Job). asked_for (plain_job job)) c.in-OnPair.is) ∙ c.in-Ok.ensures)
    (pair_decided _ _ _ _ _ _ refl refl (λ bytes other said due. due) (λ bytes other text shown. shown) (λ bytes read. read) _ c.on_pair.ensures.read
    c.on_pair.ensures.unread c.on_pair.ensures.model_end c.on_pair.ensures.second_end)

pub drill-requires-clause-some_layers : goal.drill-requires-clause-some_layers
drill-requires-clause-some_layers g c = (can_draw_of c.in-Drill.number c.in-Drill.layers c.in-Drill.width
    (in_range_of c.args.words.now _ (sym (ap (λ (job : Job). asked_for (plain_job job)) c.in-Drill.is) ∙ c.in-Ok.ensures))).some_layers

pub drill-requires-clause-few_layers : goal.drill-requires-clause-few_layers
drill-requires-clause-few_layers g c = (can_draw_of c.in-Drill.number c.in-Drill.layers c.in-Drill.width
    (in_range_of c.args.words.now _ (sym (ap (λ (job : Job). asked_for (plain_job job)) c.in-Drill.is) ∙ c.in-Ok.ensures))).few_layers

pub drill-requires-clause-some_width : goal.drill-requires-clause-some_width
drill-requires-clause-some_width g c = (can_draw_of c.in-Drill.number c.in-Drill.layers c.in-Drill.width
    (in_range_of c.args.words.now _ (sym (ap (λ (job : Job). asked_for (plain_job job)) c.in-Drill.is) ∙ c.in-Ok.ensures))).some_width

pub drill-requires-clause-few_states : goal.drill-requires-clause-few_states
drill-requires-clause-few_states g c = (can_draw_of c.in-Drill.number c.in-Drill.layers c.in-Drill.width
    (in_range_of c.args.words.now _ (sym (ap (λ (job : Job). asked_for (plain_job job)) c.in-Drill.is) ∙ c.in-Ok.ensures))).few_states

pub returns-in-Drill : goal.returns-in-Drill
returns-in-Drill g c =
    decided_as _ _ _ _ _ (sym (ap (λ (job : Job). asked_for (plain_job job)) c.in-Drill.is) ∙ c.in-Ok.ensures)
    (alone_decided _ _ _ _ _ refl refl (λ bytes other said due. due) (λ bytes other text shown. shown) refl refl refl refl _ c.drill.ensures.due c.drill.ensures.shown)
