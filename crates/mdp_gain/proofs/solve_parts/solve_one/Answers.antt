use Rattle.mdp_gain.proofs.OneSolved.{has_part, one_solved}
use Rattle.mdp_gain.proofs.solve_parts.solve_one.Goals as goal

pub solve_inner-end-requires-clause-part : goal.solve_inner-end-requires-clause-part
solve_inner-end-requires-clause-part c =
    has_part c.args.part.now c.requires c.known.ensures.model c.in_ok-small.small c.in_ok-ends.ends.parts (c.in_ok-small.ensures {u = tt})
    (c.in_ok-ends.ensures {u = tt}).ends

pub returns : goal.returns
returns c = record {
  path =
      one_solved c.args.part.now c.requires c.known.ensures.model c.in_ok-small.small c.in_ok-ends.ends.parts (c.in_ok-small.ensures {u = tt})
      (c.in_ok-ends.ensures {u = tt}).ends c.args.dir c.solve_inner-end.result c.end_in.result c.end_in.ensures c.solve_inner-end.ensures.path;
}
