-- Laws of what is due to the chain of a policy, over the definitions alone.
use Rattle.std.specs.Prelude.{◌≡◌, ℕ, List, Ok}
use Rattle.mdp_spec.specs.Mdp.{Mdp}
use Rattle.mdp_rows.specs.Limits.{IsModel}
use Rattle.mdp_command.specs.Said.{Said}
use Rattle.mdp_command_policy.specs.{ChainDue.{IsChainDue}, ChainShown.{IsChainPrinted}}

-- what is due is one thing
abbrev pub IsDueOnce : Type 0
IsDueOnce = (m : Mdp) (bytes : List ℕ) (said again : Said) → IsChainDue m bytes said → IsChainDue m bytes again → said ≡ again

-- and something is, to each model and whatever the bytes are
abbrev pub SomethingIsDue : Type 0
SomethingIsDue = (m : Mdp) (bytes : List ℕ) → (said : Said) × IsChainDue m bytes said

-- a text that is due reads as the chain of the policy that the bytes name
abbrev pub TextIsChain : Type 0
TextIsChain = (m : Mdp) (bytes text : List ℕ) → IsModel m → IsChainDue m bytes (Ok text) → IsChainPrinted m bytes text
