use Rattle.std.proofs.Common.{◌<◌, ℕ, sym, subst}
use Rattle.mdp_bounds.proofs.MeanTrivial.{gain_trivial}
use Rattle.mdp_spec.specs.Mdp.{value_at}
use Rattle.mdp_bounds.proofs.mean.MeanHalf.gain_stands.Goals as goal

pub returns-then-gains : goal.returns-then-gains
returns-then-gains c =
    let x = c.args.self in
    sym (gain_trivial x.model.now c.known.ensures.mdp 0 x.state c.args.c x.in_model c.requires c.args.dir x.gains.values.now (value_at x.gains.values.now 0)
    (λ t l. x.gains.one c.if-gains.true t (subst (λ (n : ℕ). t < n) (sym x.gains_each) l)))
