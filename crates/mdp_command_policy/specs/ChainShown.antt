-- What is shown of the text of a policy's chain.
use Rattle.std.specs.Prelude.{◌≡◌, ℕ, List, Ok}
use Rattle.mdp_spec.specs.{Mdp.{Mdp}, Tree.{IsPolicy}}
use Rattle.mdp_rows.specs.declared.rule.RowRule.TheVariants.{Exact}
use Rattle.mdp_drn.specs.Reading.{Reads}
use Rattle.mdp_policy.specs.{Chain.{chain_of}, Own.{IsChainOf, AreOwn}}
use Rattle.mdp_command_policy.specs.ChainDue.{choices_in}

-- the bytes name a policy of the model, and the text reads as its chain, under the rule `exact`; each tree of the chain has what the policy's own
-- tree has on the model
pub record IsChainPrinted (m : Mdp) (policy_bytes text : List ℕ) : Type 0 where
  pub policy : List ℕ
  pub named : choices_in policy_bytes ≡ Ok policy
  pub takes : IsPolicy m policy
  pub reads : Reads text Exact (chain_of m policy)
  pub chain : IsChainOf m policy (chain_of m policy)
  pub trees : AreOwn m policy (chain_of m policy)
