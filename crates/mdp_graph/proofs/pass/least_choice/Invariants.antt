use Rattle.std.proofs.Common.{◌≡◌, ◌<◌, ℕ, false}
use Rattle.mdp_graph.specs.Choices.{may_fall}
use Rattle.mdp_graph.proofs.pass.least_choice.Given as goal

abbrev pub invariant-loop-c : goal.invariant-loop-c
invariant-loop-c l = (k : ℕ) → k < l.c → may_fall l.model l.inside l.ranks l.s k ≡ false
