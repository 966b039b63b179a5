use Rattle.std.proofs.Common.{◌≡◌, arith}
use Rattle.mdp_quot.proofs.exit_lists.empty_lists.Goals as goal

pub returns : goal.returns
returns c = let all : c.loop.counter ≡ c.args.nodes = omega arith in rw (← all) c.loop.invariant
