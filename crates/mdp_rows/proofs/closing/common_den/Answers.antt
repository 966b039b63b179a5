use Rattle.std.proofs.Common.{◌≡◌, ℕ, ◌+◌, ◌-◌, arith, ap, sym, subst, ◌∙◌}
use Rattle.mdp_rows.specs.declared.given.Given.{Given}
use Rattle.mdp_rows.proofs.ClosedRows.Denominators.{IsDenFrom, den_more, den_wide, within_limit}
use Rattle.mdp_spec.specs.Unit.{lcm}
use Rattle.mdp_rows.proofs.closing.common_den.Goals as goal

pub returns-in_err-den : goal.returns-in_err-den
returns-in_err-den c =
    let d = c.den_of.ensures ∙ ap (λ (g : Given). g.value.den) (sym c.index-row-i.is) in
    let n : c.loop-i.i ≡ c.loop-i.i - 1 + 1 = omega (arith, c.loop-i-test.true) in
    rw c.from_residual.ensures
    (den_wide _ (c.loop-i.i - 1) c.loop-i.den c.index-row-i.result (omega (arith, c.loop-i-test.true, c.loop-i.auto.i)) c.index-row-i.is
    (subst (λ (k : ℕ). IsDenFrom c.args.row.now k c.loop-i.den) n c.loop-i.invariant) (sym (c.in_err-den.was {u = tt}) ∙ c.common_multiple.ensures ∙ ap (λ n. within_limit (lcm c.loop-i.den n)) d))

pub loop-i-preserved : goal.loop-i-preserved
loop-i-preserved c =
    let d = c.den_of.ensures ∙ ap (λ (g : Given). g.value.den) (sym c.index-row-i.is) in
    let n : c.loop-i.i ≡ c.loop-i.i - 1 + 1 = omega (arith, c.loop-i-test.true) in
    den_more _ (c.loop-i.i - 1) c.loop-i.den _ c.index-row-i.result (omega (arith, c.loop-i-test.true, c.loop-i.auto.i)) c.index-row-i.is
    (subst (λ (k : ℕ). IsDenFrom c.args.row.now k c.loop-i.den) n c.loop-i.invariant) (sym (c.in_ok-den.was {u = tt}) ∙ c.common_multiple.ensures ∙ ap (λ n. within_limit (lcm c.loop-i.den n)) d)
