use Rattle.std.proofs.Common.{rules, pos, ℤ, subst}
use Rattle.std.specs.Prelude.{◌<ℤ◌, ◌≤ℤ◌}
use Rattle.mdp_job.proofs.Factors.{below_one_by}
use Rattle.mdp_job.proofs.word.is_below_one.Goals as goal

pub returns : goal.returns
returns c =
    below_one_by _ c.args.factor.now
    (λ e.
    let below : c.num.result <ℤ c.den.result = search (rules, e) in
    subst (λ (x : ℤ). x <ℤ pos c.args.factor.now.den) c.num.ensures.value (subst (λ (x : ℤ). c.num.result <ℤ x) c.den.ensures.value below))
    (λ e.
    let above : c.den.result ≤ℤ c.num.result = search (rules, e) in
    subst (λ (x : ℤ). x ≤ℤ c.args.factor.now.num) c.den.ensures.value (subst (λ (x : ℤ). c.den.result ≤ℤ x) c.num.ensures.value above))
