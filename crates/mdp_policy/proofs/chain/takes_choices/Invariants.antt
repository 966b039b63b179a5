use Rattle.std.proofs.Common.{ℕ, ◌<◌, length}
use Rattle.std.specs.Prelude.{slice_index}
use Rattle.mdp_spec.specs.Mdp.{choices_at}
use Rattle.mdp_policy.proofs.chain.takes_choices.Given as goal

abbrev pub invariant-loop-s : goal.invariant-loop-s
invariant-loop-s l = (k : ℕ) → k < l.s → slice_index l.policy k < length (choices_at l.model k)
