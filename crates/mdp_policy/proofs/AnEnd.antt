-- The computation of a policy's value has an end: the states from which the policy can reach a goal exist.
use Rattle.std.proofs.Common.{ℕ, ◌<◌, Bool, List, [], map, Some, None, is_some, Result, refl, sym, subst}
use Rattle.std.specs.{Prelude.{slice_index_or}, List.{All}}
use Rattle.mdp_spec.specs.{Mdp.{Mdp, Entry, states_of}, Row.{IsMdp}, Tree.{IsPolicy, is_marked}, Sub.{sub_of, policy_on}}
use Rattle.mdp_spec.proofs.Subsystem.{sub_is_mdp, policy_on_sub}
use Rattle.mdp_rows.proofs.Queries.Policies.{row-known, row-is}
use Rattle.mdp_graph.specs.Reach.{row_step}
use Rattle.mdp_graph.proofs.{Passes.{reached_marks}, Rising.{row_rises}, Settling.{ranks_exist}}
use Rattle.mdp_policy_iteration.specs.Places.{Place}
use Rattle.mdp_reach.specs.Query.{policy_rows}
use Rattle.mdp_policy.specs.{Answer.{IsValueOf}, Laws.{HasAnEnd}, Written.{Answer, written_value}}

end_there : (m : Mdp) (goals : List Bool) (policy : List ℕ) → IsMdp m → IsPolicy m policy → (r : Result Answer Place) × IsValueOf m goals policy r
end_there m goals policy known is =
    let rows = policy_rows m policy in
    let range : (s : ℕ) → s < states_of m → All (λ y. y.target < states_of m) (slice_index_or rows s []) =
    λ s h. (let row = row-known m policy known is s h in subst (λ (es : List Entry). All (λ y. y.target < states_of m) es) (sym (row-is m policy s h)) row.in_range) in
    let w = ranks_exist (row_step rows) (is_marked goals) (states_of m) (row_rises rows (states_of m) range) in (
      written_value m goals (map is_some w.0) policy,
      record { marks = map is_some w.0; reached = reached_marks (row_step rows) (is_marked goals) (states_of m) w.0 w.1; is = refl },
    )

pub has_an_end : HasAnEnd
has_an_end m None goals policy known is = end_there m goals policy known is
has_an_end m (Some stay) goals policy known is = end_there (sub_of m goals stay) goals (policy_on goals stay policy) (sub_is_mdp m goals stay known) (policy_on_sub m goals stay policy is)
