use Rattle.std.proofs.Common.{◌≡◌, Ok}
use Rattle.mdp_horizon.specs.{Written.{in_turn, next_state, no_states}, Code.{plain_objective}, Answer.{row_of}}
use Rattle.mdp_horizon.proofs.backup.Query.backups.Given as goal

abbrev pub invariant-loop-s : goal.invariant-loop-s
invariant-loop-s l =
    in_turn (next_state l.fn.self.dir l.fn.self.model.now (plain_objective l.fn.self.objective) l.depth l.values) (Ok no_states) l.s ≡ Ok (row_of l.made)
