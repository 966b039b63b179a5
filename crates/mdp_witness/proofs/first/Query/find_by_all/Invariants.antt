use Rattle.std.specs.List.{range_with_len}
use Rattle.mdp_spec.specs.Mdp.{states_of}
use Rattle.mdp_witness.specs.FrontCode.{with_choice}
use Rattle.mdp_witness.proofs.Fronts.{IsFound}
use Rattle.mdp_witness.proofs.first.Query.find_by_all.Given as goal

abbrev pub invariant-loop-c : goal.invariant-loop-c
invariant-loop-c l =
    IsFound l.initial.front l.front (with_choice l.self.model.now l.self.goals.now l.self.values.now l.s) (range_with_len 0 l.c) (states_of l.self.model.now)
