use Rattle.std.proofs.Common.{◌≡◌, drop}
use Rattle.mdp_spec.specs.Row.{entries}
use Rattle.mdp_witness.specs.Evaluation.{with_arrivals}
use Rattle.mdp_witness.proofs.visited.with_arrivals.Given as goal

abbrev pub invariant-loop-i : goal.invariant-loop-i
invariant-loop-i l =
    with_arrivals l.goals l.visits l.fn.start (entries l.row.targets.now l.row.probs.now) ≡ with_arrivals l.goals l.visits l.sum (entries (drop l.i l.row.targets.now) (drop l.i l.row.probs.now))
