use Rattle.std.proofs.Common.{◌∙◌, ◌<◌, ℕ, List, sym, ap, subst, inl, true≢false}
use Rattle.std.specs.List.{All, range_with_len}
use Rattle.mdp_rows.specs.Preds.{is_among}
use Rattle.mdp_policy_iteration.specs.{Problem.{count}, Changes.{Ascend}}
use Rattle.mdp_policy_iteration.proofs.AllNodes.{all-below, all-ascend, all-among}
use Rattle.mdp_policy_iteration.proofs.round.first_round.Goals as goal

pub round_of-requires-clause-affected_below : goal.round_of-requires-clause-affected_below
round_of-requires-clause-affected_below g c =
    let p = g.P.ShortestPath.problem c.args.problem.now in
    let is = (c.in_ok-scope.ensures {u = tt}).affected ∙ ap (range_with_len 0) c.count.ensures in
    subst (λ (xs : List ℕ). All (λ s. s < count p) xs) (sym is) (all-below (count p))

pub round_of-requires-clause-affected_ascend : goal.round_of-requires-clause-affected_ascend
round_of-requires-clause-affected_ascend g c = subst Ascend (sym (c.in_ok-scope.ensures {u = tt}).affected) (all-ascend c.count.result)

pub round_of-requires-clause-compared_below : goal.round_of-requires-clause-compared_below
round_of-requires-clause-compared_below g c =
    let p = g.P.ShortestPath.problem c.args.problem.now in
    let is = (c.in_ok-scope.ensures {u = tt}).compared ∙ ap (range_with_len 0) c.count.ensures in
    subst (λ (xs : List ℕ). All (λ s. s < count p) xs) (sym is) (all-below (count p))

pub round_of-requires-clause-compared_ascend : goal.round_of-requires-clause-compared_ascend
round_of-requires-clause-compared_ascend g c = subst Ascend (sym (c.in_ok-scope.ensures {u = tt}).compared) (all-ascend c.count.result)

pub round_of-requires-clause-serves : goal.round_of-requires-clause-serves
round_of-requires-clause-serves g c =
    let p = g.P.ShortestPath.problem c.args.problem.now in
    let is = (c.in_ok-scope.ensures {u = tt}).affected ∙ ap (range_with_len 0) c.count.ensures in
    record {
      room = c.requires.room;
      others = inl (λ s l. ap (is_among s) is ∙ all-among (count p) s l);
    }

pub round_of-requires-clause-others : goal.round_of-requires-clause-others
round_of-requires-clause-others g c = λ x agree s l out.
    let p = g.P.ShortestPath.problem c.args.problem.now in
    let is = (c.in_ok-scope.ensures {u = tt}).compared ∙ ap (range_with_len 0) c.count.ensures in
    absurd (true≢false (sym (ap (is_among s) is ∙ all-among (count p) s l) ∙ out))

pub round_of-requires-clause-policy : goal.round_of-requires-clause-policy
round_of-requires-clause-policy g c = c.requires.policy

pub round_of-requires-clause-leaves : goal.round_of-requires-clause-leaves
round_of-requires-clause-leaves g c = c.requires.leaves

pub round_of-requires-clause-loops : goal.round_of-requires-clause-loops
round_of-requires-clause-loops g c = c.requires.loops

pub returns-clause-evaluated : goal.returns-clause-evaluated
returns-clause-evaluated g c = c.round_of.ensures.evaluated

pub returns-clause-changes : goal.returns-clause-changes
returns-clause-changes g c = c.round_of.ensures.changes

pub returns-clause-each : goal.returns-clause-each
returns-clause-each g c = c.round_of.ensures.each

pub returns-clause-ascend : goal.returns-clause-ascend
returns-clause-ascend g c = c.round_of.ensures.ascend

pub returns-clause-step : goal.returns-clause-step
returns-clause-step g c = c.round_of.ensures.step
