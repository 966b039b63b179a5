-- What is due to `discount` of a model, computed.
use Rattle.std.proofs.Common.{[], ◌∷◌, None, Err, refl, pos}
use Rattle.std.specs.Prelude.{codes}
use Rattle.mdp_math.specs.Rational.{ratio}
use Rattle.mdp_spec.specs.Mdp.{Mdp}
use Rattle.mdp_rows.specs.declared.dir.Dir.TheVariants.{Max}
use Rattle.mdp_job.specs.Refusal.{query_reward}
use Rattle.mdp_command_solve.specs.DiscountDue.{IsNamedDue}

abbrev unnamed : Mdp
unnamed = record { names = codes "-" ∷ []; labels = codes "init" ∷ []; states = [] }

unknown : IsNamedDue Max (codes "energy") (ratio (pos 1) 2) unnamed None (Err query_reward)
unknown = refl
