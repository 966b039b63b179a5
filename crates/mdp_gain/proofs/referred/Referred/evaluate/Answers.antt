use Rattle.std.proofs.Common.{◌∙◌, map, sym, ap}
use Rattle.mdp_gain.proofs.Columns.{second_of, steps-positive}
use Rattle.mdp_gain.proofs.referred.Referred.evaluate.Goals as goal

pub values-requires : goal.values-requires
values-requires c =
    steps-positive c.args.self.now c.requires.given c.requires.leads c.solution_law.ensures.solves (map (λ x. x.items) c.in_ok-found.found.items) (c.in_ok-found.ensures {u = tt}).value c.deref-2.result.now
    (c.deref-2.ensures.value ∙ ap (λ x. x.items) c.index-2.ensures ∙ sym (second_of (λ x. x.items) c.in_ok-found.found.items c.index-2.result.now (c.in_ok-found.ensures {u = tt}).count))
