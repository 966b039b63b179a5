use Rattle.std.proofs.Common.{ℕ, ◌≤◌, ◌<◌, ◌^◌, sym, ap, subst, ◌∙◌}
use Rattle.std.proofs.Math.ListN.{replicate}
use Rattle.mdp_farkas.specs.Compare.{1ℚ}
use Rattle.mdp_text.proofs.InitialState.{initial_below}
use Rattle.mdp_command.proofs.Thresholds.{threshold_fits}
use Rattle.mdp_command_bounds_search.proofs.witness_certificate.certificate_of.Goals as goal

pub invariant_of-result : goal.invariant_of-result
invariant_of-result c =
    let sizes = c.requires.sizes in
    let m = c.args.model.now in
    let same = sym sizes.lower in
    record {
      some = subst (λ (n : ℕ). 0 < n) same c.known.ensures.mdp.some;
      limit = subst (λ (n : ℕ). n ≤ 2 ^ 20) same c.known.ensures.mdp.few;
      ones = sizes.upper ∙ ap (λ (n : ℕ). replicate n 1ℚ) same;
      choice_each = sizes.choices ∙ same;
      rank_each = sizes.ranks ∙ same;
      mark_each = sizes.marks ∙ same;
      names = c.requires.names;
      at_least_zero = threshold_fits c.args.threshold c.requires.threshold;
      inside = subst (λ (n : ℕ). c.args.start < n) same (initial_below m c.args.start c.requires.start);
      named = c.requires.least;
    }
