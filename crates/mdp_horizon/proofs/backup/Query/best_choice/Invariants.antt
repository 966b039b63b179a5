use Rattle.std.proofs.Common.{◌≡◌, ◌-◌, Ok}
use Rattle.mdp_horizon.specs.{Written.{in_turn, first_choice, next_choice}, Code.{plain_objective}, Answer.{shown}}
use Rattle.mdp_horizon.proofs.backup.Query.best_choice.Given as goal

abbrev pub invariant-loop-c : goal.invariant-loop-c
invariant-loop-c l =
    let o = plain_objective l.fn.self.objective in
    in_turn (next_choice l.fn.self.dir l.fn.self.model.now o l.depth l.values l.s) (first_choice l.fn.self.model.now o l.depth l.values l.s) (l.c - 1) ≡ Ok (shown l.leader)
