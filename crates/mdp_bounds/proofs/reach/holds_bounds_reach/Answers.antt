use Rattle.std.proofs.Common.{◌≡◌, ap, sym, ◌∙◌}
use Rattle.mdp_bounds.specs.Reach.{bounds_checks}
use Rattle.mdp_farkas.specs.Verdict.{verdict, verdict_of}
use Rattle.mdp_bounds.proofs.{ReachRules.{bounds_rules, bounds_max, bounds_min}, Trivial.{trivial_yes}, Exact.{bounds_of_exact}}
use Rattle.mdp_bounds.proofs.reach.holds_bounds_reach.Goals as goal

pub returns : goal.returns
returns c =
    let m = c.args.model.now in
    let goals = c.args.goals.now in
    let low = c.args.cert.now.lower.items in
    let high = c.args.cert.now.upper.items in
    let policy = c.args.cert.now.choices.items in
    let ranks = c.args.cert.now.ranks.items in
    let e : c.verdict_after.result ≡ verdict_of (bounds_checks c.args.dir m goals low high policy ranks) =
    rw (sym c.as_slice.ensures.value, sym c.as_slice-2.ensures.value, sym c.as_slice-3.ensures.value, sym c.as_slice-4.ensures.value)
    (c.verdict_after.ensures ∙ ap verdict (rw c.states.ensures at c.each_below.ensures)) in
    record {
      verdict = e;
      rules = bounds_rules m c.known.ensures.mdp goals low high policy ranks c.args.dir c.verdict_after.result c.requires.choices e;
      max = λ is. bounds_max m c.known.ensures.mdp goals low high policy ranks c.args.dir c.verdict_after.result c.requires.choices e is;
      min = λ is. bounds_min m c.known.ensures.mdp goals low high policy ranks c.args.dir c.verdict_after.result c.requires.choices e is;
      exact = λ same is. (bounds_rules m c.known.ensures.mdp goals low high policy ranks c.args.dir c.verdict_after.result c.requires.choices e).1 (bounds_of_exact c.args.dir m goals low high policy ranks same is);
      trivial = λ t. e ∙ trivial_yes m goals low high policy ranks t c.args.dir;
    }
