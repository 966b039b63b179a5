use Rattle.std.proofs.Common.{subst}
use Rattle.mdp_spec.specs.Mdp.{Mdp}
use Rattle.mdp_rows.specs.Limits.{IsModel}
use Rattle.mdp_rows.proofs.Flat.Models.{is_mdp}
use Rattle.mdp_rows.proofs.model.Model.known.Goals as goal

pub returns : goal.returns
returns c = record {
  mdp = is_mdp _ _ c.self.invariant c.known.ensures.choices c.self.view_is;
  model = subst (λ (m : Mdp). IsModel m) c.self.view_is c.self.invariant.model;
}
