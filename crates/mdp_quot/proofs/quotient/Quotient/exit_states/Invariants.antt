use Rattle.mdp_quot.specs.Lifting.{AreTaken}
use Rattle.mdp_quot.proofs.quotient.Quotient.exit_states.Given as goal

abbrev pub invariant-loop-q : goal.invariant-loop-q
invariant-loop-q l = AreTaken l.model l.ends.parts l.self.nodes l.outer l.q l.states
