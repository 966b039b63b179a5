use Rattle.std.proofs.Common.{◌≡◌, ◌++◌, length, take}
use Rattle.mdp_job.specs.Text.{policy_words}
use Rattle.mdp_job.proofs.refusal.push_policy.Given as goal

abbrev pub invariant-loop-choice : goal.invariant-loop-choice
invariant-loop-choice l =
    (l.out.items ≡ l.initial.out.items ++ policy_words (take l.choice-index l.policy)) × (take (length l.initial.out.items) l.out.items ≡ l.initial.out.items)
