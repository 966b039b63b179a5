-- Laws of what is due to the value of a policy, over the definitions alone.
use Rattle.std.specs.Prelude.{◌≡◌, ℕ, List, Option, Ok}
use Rattle.mdp_spec.specs.{Mdp.{Mdp}, Row.{IsMdp}}
use Rattle.mdp_command.specs.Said.{Said}
use Rattle.mdp_command_policy.specs.{Due.{IsPolicyDue}, Shown.{IsPolicyPrinted}}

-- what is due is one thing
abbrev pub IsDueOnce : Type 0
IsDueOnce =
    (stay : Option (List ℕ)) (label : List ℕ) (m : Mdp) (bytes : List ℕ) (said again : Said) → IsPolicyDue stay label m bytes said → IsPolicyDue stay label m bytes again → said ≡ again

-- a text that is due is that of the policy's probabilities, and of changes that are better
abbrev pub TextIsValue : Type 0
TextIsValue =
    (stay : Option (List ℕ)) (label : List ℕ) (m : Mdp) (bytes text : List ℕ) → IsMdp m → IsPolicyDue stay label m bytes (Ok text) → IsPolicyPrinted stay label m bytes text
