-- Where the value of a policy is computed. For reaching a goal: on the model, of the policy. For coming to one by way of states of `stay` alone: on
-- the subsystem in which any state that is neither a goal nor stays is left with a loop, of the policy as it is read there.
use Rattle.std.specs.Prelude.{ℕ, Bool, List, Option, Some, None}
use Rattle.mdp_spec.specs.{Mdp.{Mdp}, Sub.{sub_of, policy_on}}

abbrev pub way_model : Mdp → Option (List Bool) → List Bool → Mdp
way_model m None goals = m
way_model m (Some stay) goals = sub_of m goals stay

-- at a state that is cut the policy has choice 0, the loop
abbrev pub way_policy : Option (List Bool) → List Bool → List ℕ → List ℕ
way_policy None goals policy = policy
way_policy (Some stay) goals policy = policy_on goals stay policy
