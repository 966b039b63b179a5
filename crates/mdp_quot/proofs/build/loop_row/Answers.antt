use Rattle.std.proofs.Common.{ℕ, ◌∷◌, [], List, sym, subst, length, ap, ap₂, ◌∙◌}
use Rattle.mdp_math.specs.Rational.{ℚ}
use Rattle.mdp_spec.specs.Row.{entries, IsDistribution}
use Rattle.mdp_quot.proofs.QuotientFound.{loop_distribution}
use Rattle.mdp_quot.proofs.build.loop_row.Goals as goal

pub invariant_of-result-clause-distribution : goal.invariant_of-result-clause-distribution
invariant_of-result-clause-distribution c =
    subst (λ (ts : List ℕ). IsDistribution (entries ts c.in_ok-probs.probs.now)) (sym c.in_ok-targets.ensures)
    (subst (λ (ps : List ℚ). IsDistribution (entries (c.args.node ∷ []) ps)) (sym c.in_ok-probs.ensures)
    (subst (λ (p : ℚ). IsDistribution (entries (c.args.node ∷ []) (p ∷ []))) (sym c.whole.ensures) (loop_distribution c.args.node)))

pub returns : goal.returns
returns c = ap₂ entries c.in_ok-targets.ensures (c.in_ok-probs.ensures ∙ ap (λ (p : ℚ). p ∷ []) c.whole.ensures)

pub invariant_of-result-clause-same_length : goal.invariant_of-result-clause-same_length
invariant_of-result-clause-same_length c = ap length c.in_ok-targets.ensures ∙ sym (ap length c.in_ok-probs.ensures)
