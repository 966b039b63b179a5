use Rattle.std.proofs.Common.{◌∙◌, ap, rules}
use Rattle.mdp_elim.specs.System.{inner}
use Rattle.mdp_elim.proofs.Chains.{equation_of-inactive, equation_of-active}
use Rattle.mdp_elim.proofs.chain.equation_at.Goals as goal

pub returns-then-not-at : goal.returns-then-not-at
returns-then-not-at g c = equation_of-inactive _ _ _ c.args.s c.none.result (search rules) c.none.ensures

pub returns : goal.returns
returns g c = equation_of-active _ _ _ c.args.s c.new.result _ _ _ (search rules)
    c.new.ensures (c.in_ok-terms.ensures {u = tt} ∙ ap (inner c.args.active.now) c.row.ensures.row) c.constant.ensures c.constant-2.ensures
