use Rattle.mdp_gain.proofs.GainLaws.{solves_best}
use Rattle.mdp_gain.proofs.solve.solve_inner.Goals as goal

pub invariant_of-component : goal.invariant_of-component
invariant_of-component c = record { mdp = c.known.ensures.mdp; found = ∣ c.requires.ends ∣₁; below = c.requires.part; named = c.requires.name }

pub returns-clause-best : goal.returns-clause-best
returns-clause-best c =
    solves_best c.solution_law.ensures.solves c.args.dir c.args.model.now c.args.ends.now.parts c.args.i c.args.m
    (record { model = c.known.ensures.mdp; ends = c.requires.ends.ends; below = c.requires.part }) c.solve.result c.solve.ensures
