use Rattle.std.proofs.Common.{◌∙◌, length, replicate, ap, sym}
use Rattle.mdp_rows.proofs.Queries.Policies.{rows-len, are_rows}
use Rattle.mdp_tests.proofs.Chains.{first_choices, others_leave}
use Rattle.mdp_tests.proofs.elim_tests.holds_along.Goals as goal

pub along-requires : goal.along-requires
along-requires c = record { target = ap length c.in-Ok.ensures ∙ (sym c.requires ∙ sym (rows-len c.args.model.now (replicate 3 0))) }

pub holds_on-requires-clause-leaves : goal.holds_on-requires-clause-leaves
holds_on-requires-clause-leaves c =
    let m = c.args.model.now in
    let e = c.in-Ok-along.ensures in
    others_leave _ _ _ _ _ _ (are_rows m (replicate 3 0) c.known.ensures.mdp (first_choices m c.known.ensures.mdp c.requires)) (rows-len m (replicate 3 0) ∙ c.requires) c.in-Ok.ensures
    e.marks e.ranks c.along_law.ensures.falls c.set.ensures c.deref.ensures.value
