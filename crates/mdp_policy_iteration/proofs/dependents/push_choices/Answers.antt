use Rattle.std.proofs.Common.{subst, arith}
use Rattle.mdp_policy_iteration.specs.DependentsOf.{AreDependentsTo}
use Rattle.mdp_policy_iteration.proofs.Listing.{listed-more, listed-node}
use Rattle.mdp_policy_iteration.proofs.dependents.push_choices.Goals as goal

pub loop-c-preserved : goal.loop-c-preserved
loop-c-preserved g c =
    let p = g.P.ShortestPath.problem c.args.problem.now in
    listed-more p c.args.s c.loop-c.c c.loop-c.dependents c.push.new.self c.reads.result.now c.loop-c.invariant c.requires.node (omega arith) c.reads.ensures
    (record { count = c.in_ok-push.ensures.count; at = c.in_ok-push.ensures.added })

pub returns : goal.returns
returns g c =
    let p = g.P.ShortestPath.problem c.args.problem.now in
    listed-node p c.args.s c.loop-c.dependents (subst (λ d. AreDependentsTo p c.args.s d c.loop-c.dependents) (omega (arith, c.choices-c-end.ensures)) c.loop-c.invariant)
