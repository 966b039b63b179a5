use Rattle.std.specs.Prelude.{ℕ, ◌<◌}
use Rattle.mdp_spec.specs.Bounds.{reward_at}
use Rattle.mdp_search_bounds.specs.{Gap.{ShowsNear}, Near.{IsRewardNear}}
use Rattle.mdp_search_bounds.proofs.gap.Gap.between_rewards.Given as goal

abbrev pub invariant-loop-place : goal.invariant-loop-place
invariant-loop-place l = (digits : ℕ) → ShowsNear l.gap digits → (s : ℕ) → s < l.place → IsRewardNear digits (reward_at l.lower s) (reward_at l.upper s)
