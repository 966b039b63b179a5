use Rattle.std.proofs.Common.{◌≡◌, ap, sym, ◌∙◌}
use Rattle.mdp_farkas.specs.Verdict.{verdict, verdict_of}
use Rattle.mdp_bounds.specs.Mean.{mean_bounds_checks}
use Rattle.mdp_bounds.proofs.{MeanRules.{mean_bounds_rules, mean_bounds_max, mean_bounds_min}, MeanExact.{mean_of_exact}, MeanTrivial.{trivial_yes}}
use Rattle.mdp_bounds.proofs.mean.holds_bounds_mean.Goals as goal

pub returns : goal.returns
returns c =
    let m = c.args.model.now in
    let low = c.args.cert.now.lower.items in
    let high = c.args.cert.now.upper.items in
    let a = c.args.cert.now.bound.items in
    let b = c.args.cert.now.bias.items in
    let spread = c.args.cert.now.spread in
    let policy = c.args.cert.now.choices.items in
    let e : c.verdict_after.result ≡ verdict_of (mean_bounds_checks c.args.dir m c.args.m low high a b spread policy) =
    rw (sym (c.new.ensures ∙ c.as_slice.ensures.value), sym (c.new-2.ensures ∙ c.as_slice-2.ensures.value), sym c.as_slice-3.ensures.value, sym c.as_slice-4.ensures.value, sym c.as_slice-5.ensures.value)
    (c.verdict_after.ensures ∙ ap verdict c.walk.ensures) in
    let rules =
    mean_bounds_rules m c.known.ensures.mdp c.args.m low high a b spread policy c.args.dir c.verdict_after.result
    c.requires.name c.requires.bound c.requires.bias c.requires.choices e in
    record {
      verdict = e;
      rules = rules;
      max = mean_bounds_max m c.known.ensures.mdp c.args.m low high a b spread policy c.args.dir c.verdict_after.result c.requires.name c.requires.bound c.requires.bias c.requires.choices e;
      min = mean_bounds_min m c.known.ensures.mdp c.args.m low high a b spread policy c.args.dir c.verdict_after.result c.requires.name c.requires.bound c.requires.bias c.requires.choices e;
      exact = λ same is. rules.1 (mean_of_exact c.args.dir m c.args.m low high a b spread policy same is);
      trivial = λ t. e ∙ trivial_yes m c.known.ensures.mdp c.args.m low high a b spread policy t c.requires.bound c.requires.bias c.args.dir;
    }
