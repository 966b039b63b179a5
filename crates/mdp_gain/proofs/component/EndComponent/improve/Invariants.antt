use Rattle.std.proofs.Common.{◌≡◌, ℕ, ◌-◌, ◌^◌, min, Result}
use Rattle.mdp_policy_iteration.specs.{Path.{Refusal}, Laws.{first}}
use Rattle.mdp_unichain.specs.{Chain.{IsReference}, Component.{is_state, row_by}, Iteration.{EndsWith}, Path.{Found, Makes, IsStart}}
use Rattle.mdp_unichain.proofs.Ending.{better_left}
use Rattle.mdp_gain.specs.Code.{component_in}
use Rattle.mdp_gain.proofs.component.EndComponent.improve.Given as goal

-- the rest of the path is the rest from round n on
abbrev pub invariant-rounds : goal.invariant-rounds
invariant-rounds l = record {
  start : IsStart (component_in l.self) l.policy.items;
  reference : IsReference (is_state (component_in l.self)) (row_by (component_in l.self) l.policy.items) l.t;
  path :
      (n : ℕ) × (l.round ≡ min n (2 ^ 64 - 1))
      × ((r : Result Found Refusal) → EndsWith (Makes (component_in l.self)) (record { number = n; policy = l.policy.items }) r
      → EndsWith (Makes (component_in l.self)) (first l.fn.start.items) r);
}

abbrev pub decreases-rounds : goal.decreases-rounds
decreases-rounds l = better_left (component_in l.self) l.t l.policy.items
