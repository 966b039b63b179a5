-- The start of a query is a policy of its problem and leaves its transient states: for the greatest reward as each policy does, by the ranks of
-- `must_meet`; for the least one by the ranks of `sure_some`, and so does each next policy, since what is earned is at least 0.
use Rattle.std.proofs.Common.{◌≡◌, ℕ, ◌<◌, ◌⊎◌, inl, inr, Bool, false, List, length, refl, sym, ◌∙◌, subst}
use Rattle.std.specs.{Prelude.{slice_index}, List.{Any}}
use Rattle.mdp_spec.specs.{Mdp.{Mdp, states_of, row_at}, Row.{IsMdp}}
use Rattle.mdp_spec.specs.Tree as tree
use Rattle.mdp_rows.specs.{Negative.{has_negative}, declared.dir.Dir.{Dir}, declared.dir.Dir.TheVariants.{Max, Min}}
use Rattle.mdp_graph.specs.Laws.{StaysSure, RestAvoids}
use Rattle.mdp_elim.specs.System.{is_active}
use Rattle.mdp_policy_iteration.specs.{Problem.{Choice, active_of, IsPolicy}, Values.{CanLeave, EarnsNoGood, AllLeave, NoneHelps}, Laws.{IsSolvable}}
use Rattle.mdp_reward.specs.{Problem.{reward_problem}, Query.{IsMaxStart, IsMinStart, IsStart}}
use Rattle.mdp_reward.proofs.Nodes.{reward-count, reward-choice, reward-known}
use Rattle.mdp_reward.proofs.{Policies.{is-policy, IsOpen, active-open, open-row, is_state, transient-choice}, Rows.{any_mono}, Values.{reward-nonneg}}
use Rattle.mdp_reward.proofs.{MaxFacts.{max_policy, falls-finite, known-count, finite-count}, MinFacts.{min_policy, start-stays, start-falls}}

-- a policy whose choices at transient states lead to smaller ranks leaves them
pub leaves_by : (dir : Dir) (m : Mdp) (r : ℕ) (goals finite : List Bool) (policy ranks : List ℕ) (is : IsPolicy (reward_problem dir m r goals finite) policy) → length ranks ≡ states_of m
    → ((s : ℕ) → IsOpen dir m r goals finite policy is s → Any (λ y. slice_index ranks y.target < slice_index ranks s) (row_at m s (slice_index policy s)))
    → CanLeave (reward_problem dir m r goals finite) policy
leaves_by dir m r goals finite policy ranks is n falls =
    let q = reward_problem dir m r goals finite in (
      ranks,
      n ∙ sym (reward-count dir m r goals finite),
      record {
        falls = λ s l a.
            let o = active-open dir m r goals finite policy is s a in
            subst (Any (λ y. (is_active (active_of q policy) y.target ≡ false) ⊎ (slice_index ranks y.target < slice_index ranks s)))
            (sym (open-row dir m r goals finite policy is s o))
            (any_mono (λ y. slice_index ranks y.target < slice_index ranks s)
            (λ y. (is_active (active_of q policy) y.target ≡ false) ⊎ (slice_index ranks y.target < slice_index ranks s)) (row_at m s (slice_index policy s)) (λ y h. inr h)
            (falls s o));
      },
    )

-- ---- the greatest reward

module _ (m : Mdp) (r : ℕ) (goals finite : List Bool) (start known : List ℕ) (model : IsMdp m) (s : IsMaxStart m goals finite start known) (stays : StaysSure) (rest : RestAvoids) where
  all-leave : AllLeave (reward_problem Max m r goals finite)
  all-leave policy is =
      leaves_by Max m r goals finite policy known is (known-count m goals finite start known model s)
      (λ t o. falls-finite m goals finite start known model s stays rest t (slice_index policy t) o.below o.is_open (transient-choice Max m r goals finite policy is t o.below o.is_open))

  max-start : IsPolicy (reward_problem Max m r goals finite) start
  max-start = is-policy Max m r goals finite start (max_policy m goals finite start known model s) (λ t l e. refl)

  pub max-solvable : IsSolvable (reward_problem Max m r goals finite) start
  max-solvable = record { problem = reward-known Max m r goals finite model; policy = max-start; leaves = all-leave start max-start; keeps = inl all-leave }

-- ---- the least reward

module _ (m : Mdp) (r : ℕ) (goals finite : List Bool) (start known : List ℕ) (model : IsMdp m) (s : IsMinStart m goals finite start known) (none : has_negative m r ≡ false) where
  min-start : IsPolicy (reward_problem Min m r goals finite) start
  min-start = is-policy Min m r goals finite start (min_policy m goals finite start known model s) (start-stays m goals finite start known model s)

  none-helps : NoneHelps (reward_problem Min m r goals finite)
  none-helps t c l h e =
      let b = reward-choice Min m r goals finite t c l h in
      subst (λ (x : Choice). EarnsNoGood Min x.move) (sym b.1) (reward-nonneg m r none t c (is_state Min m r goals finite t l) b.0)

  pub min-solvable : IsSolvable (reward_problem Min m r goals finite) start
  min-solvable = record {
    problem = reward-known Min m r goals finite model;
    policy = min-start;
    leaves = leaves_by Min m r goals finite start s.near min-start s.near_ranks.count (λ t o. start-falls m goals finite start known model s t o.below o.is_open);
    keeps = inr none-helps;
  }

-- ---- either

pub start-solvable : (dir : Dir) (m : Mdp) (r : ℕ) (goals finite : List Bool) (start known : List ℕ) → IsMdp m → has_negative m r ≡ false → StaysSure → RestAvoids
    → IsStart dir m goals finite start known → IsSolvable (reward_problem dir m r goals finite) start
start-solvable Max m r goals finite start known model none stays rest s = max-solvable m r goals finite start known model s stays rest
start-solvable Min m r goals finite start known model none stays rest s = min-solvable m r goals finite start known model s none

-- its choices are in range
pub start-choices : (dir : Dir) (m : Mdp) (goals finite : List Bool) (start known : List ℕ) → IsMdp m → IsStart dir m goals finite start known → tree.IsPolicy m start
start-choices Max m goals finite start known model s = max_policy m goals finite start known model s
start-choices Min m goals finite start known model s = min_policy m goals finite start known model s

-- each state is finite or not, and has a rank that is known
pub start-finite : (dir : Dir) (m : Mdp) (goals finite : List Bool) (start known : List ℕ) → IsMdp m → IsStart dir m goals finite start known → length finite ≡ states_of m
start-finite Max m goals finite start known model s = finite-count m goals finite start known model s
start-finite Min m goals finite start known model s = s.sure.count

pub start-known : (dir : Dir) (m : Mdp) (goals finite : List Bool) (start known : List ℕ) → IsMdp m → IsStart dir m goals finite start known → length known ≡ states_of m
start-known Max m goals finite start known model s = known-count m goals finite start known model s
start-known Min m goals finite start known model s = s.rounds.count
