-- The parts of the bounds of rewards that say nothing: 0 and infinite, and 0 and 0 at goals, where a policy and ranks show which rewards are finite.
use Rattle.std.proofs.Common.{◌≡◌, ℕ, ◌<◌, Bool, true, false, List, Option}
use Rattle.std.specs.Prelude.{slice_index}
use Rattle.mdp_math.specs.Rational.{ℚ}
use Rattle.mdp_spec.specs.{Mdp.{Mdp, states_of}, Tree.{is_marked, IsPolicy}}
use Rattle.mdp_rows.specs.{Negative.{has_negative}, declared.dir.Dir.{Dir}}
use Rattle.mdp_bounds.specs.Reward.{Arrives, Misses, IsTrivialReward}
use Rattle.mdp_reward.proofs.Values.{reward-nonneg}
use Rattle.mdp_search_bounds.specs.Values.{zeros_of}
use Rattle.mdp_search_bounds.proofs.Zeros.{zero-at, none-at, value-zero}

module _ (dir : Dir) (m : Mdp) (r : ℕ) (goals finite : List Bool) (policy ranks : List ℕ) (none : has_negative m r ≡ false) where
  abbrev lower : List (Option ℚ)
  lower = zeros_of (states_of m) finite

  pub trivial_by : IsPolicy m policy → ((s : ℕ) → s < states_of m → is_marked goals s ≡ true → is_marked finite s ≡ true)
      → ((s : ℕ) → s < states_of m → is_marked goals s ≡ true → slice_index ranks s ≡ 0) → Arrives dir m goals lower policy ranks → Misses dir m lower policy ranks
      → IsTrivialReward dir m r goals lower (zeros_of (states_of m) goals) policy ranks
  trivial_by takes goals_in goal_ranks arrives misses = record {
    takes = takes;
    nonneg = reward-nonneg m r none;
    at_goal = λ s l g. (zero-at m finite s l (goals_in s l g), zero-at m goals s l g, goal_ranks s l g);
    zero = λ s x l e. value-zero m finite s x l e;
    above = λ s l e. none-at m goals s l e;
    arrives = arrives;
    misses = misses;
  }
