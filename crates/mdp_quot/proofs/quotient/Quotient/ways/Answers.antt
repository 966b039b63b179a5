use Rattle.mdp_quot.proofs.LiftedFound.{ways_are}
use Rattle.mdp_quot.proofs.quotient.Quotient.ways.Goals as goal

pub returns : goal.returns
returns c =
    ways_are c.args.model.now c.args.ends.now.parts c.requires.ends.ends.count c.args.self.now c.requires.quotient c.known.ensures.mdp c.requires.ends.ends c.args.outer.now c.requires.outer c.in_ok-states.states
    c.in_ok-pass.pass.marks c.in_ok-pass.pass.ranks.items c.in_ok-pass.pass.choices.items c.in_ok-states.ensures c.in_ok-pass.ensures.toward
