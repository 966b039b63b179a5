-- The start of either reward gives the bounds that say nothing.
use Rattle.std.proofs.Common.{◌≡◌, ℕ, Bool, false, List, sym, subst}
use Rattle.mdp_spec.specs.{Mdp.{Mdp, states_of}, Row.{IsMdp}}
use Rattle.mdp_rows.specs.{Negative.{has_negative}, declared.dir.Dir.{Dir}, declared.dir.Dir.TheVariants.{Max, Min}}
use Rattle.mdp_bounds.specs.Reward.{IsTrivialReward}
use Rattle.mdp_reward.specs.Query.{IsStart, AreRanks}
use Rattle.mdp_reward.proofs.Answering.{PassLaws}
use Rattle.mdp_search_bounds.specs.Values.{zeros_of}
use Rattle.mdp_search_bounds.proofs.{Greatest.{max-trivial}, Least.{min-trivial}}

pub reward-trivial : (dir : Dir) (m : Mdp) (r : ℕ) (goals finite : List Bool) (start known ranks : List ℕ) → IsMdp m → (none : has_negative m r ≡ false) → PassLaws
    → IsStart dir m goals finite start known → AreRanks dir m goals finite known start ranks
    → IsTrivialReward dir m r goals (zeros_of (states_of m) finite) (zeros_of (states_of m) goals) start ranks
reward-trivial Max m r goals finite start known ranks model none laws is same =
    subst (λ (ranks : List ℕ). IsTrivialReward Max m r goals (zeros_of (states_of m) finite) (zeros_of (states_of m) goals) start ranks) (sym same)
    (max-trivial m r goals finite start known model none is laws)
reward-trivial Min m r goals finite start known ranks model none laws is ranking = min-trivial m r goals finite start known ranks model none is ranking laws
