use Rattle.std.proofs.Common.{◌≡◌, ℕ, ◌-◌, ◌^◌, min, Result}
use Rattle.mdp_policy_iteration.specs.{Path.{Refusal}, Laws.{first}}
use Rattle.mdp_unichain.specs.{Component.{IsInner}, Iteration.{EndsWith}, Path.{Found, Makes}}
use Rattle.mdp_unichain.proofs.Ending.{better_left}
use Rattle.mdp_gain.specs.{Code.{component_in}, Only.{policy_of}}
use Rattle.mdp_gain.proofs.only_state.Only.settle.Given as goal

-- the rest of the path is the rest from round n on
abbrev pub invariant-rounds : goal.invariant-rounds
invariant-rounds l = record {
  inner : IsInner (component_in l.self.component) l.self.s l.choice;
  path :
      (n : ℕ) × (l.round ≡ min n (2 ^ 64 - 1))
      × ((r : Result Found Refusal) → EndsWith (Makes (component_in l.self.component)) (record { number = n; policy = policy_of (component_in l.self.component) l.self.s l.choice }) r
      → EndsWith (Makes (component_in l.self.component)) (first (policy_of (component_in l.self.component) l.self.s l.fn.start)) r);
}

abbrev pub decreases-rounds : goal.decreases-rounds
decreases-rounds l = better_left (component_in l.self.component) l.self.s (policy_of (component_in l.self.component) l.self.s l.choice)
