use Rattle.std.proofs.Common.{rules, arith, sym, ◌∙◌}
use Rattle.mdp_bounds.proofs.MeanTrivial.{one_by_test}
use Rattle.mdp_bounds.proofs.mean.are_one.Goals as goal

pub returns-then-is_empty : goal.returns-then-is_empty
returns-then-is_empty c = let e = c.if-is_empty.ensures in λ t s l. absurd (grind (rules, arith, e, l))

pub returns : goal.returns
returns c = λ t s l.
    let test = sym c.are_all.ensures ∙ t in
    one_by_test c.index-values-0.result c.args.values.now test s l ∙ sym (one_by_test c.index-values-0.result c.args.values.now test 0 (omega (arith, l)))
