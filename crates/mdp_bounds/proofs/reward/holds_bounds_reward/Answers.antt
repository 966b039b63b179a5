use Rattle.std.proofs.Common.{◌≡◌, ap, sym, ◌∙◌}
use Rattle.mdp_bounds.specs.Reward.{reward_bounds_checks}
use Rattle.mdp_farkas.specs.Verdict.{verdict, verdict_of}
use Rattle.mdp_bounds.proofs.{RewardRules.{reward_bounds_rules, reward_bounds_max, reward_bounds_min}, RewardExact.{reward_of_exact}}
use Rattle.mdp_bounds.proofs.RewardTrivial.{trivial_yes}
use Rattle.mdp_bounds.proofs.reward.holds_bounds_reward.Goals as goal

pub returns : goal.returns
returns c =
    let m = c.args.model.now in
    let goals = c.args.goals.now in
    let low = c.args.cert.now.lower.items in
    let high = c.args.cert.now.upper.items in
    let policy = c.args.cert.now.choices.items in
    let ranks = c.args.cert.now.ranks.items in
    let e : c.verdict_after.result ≡ verdict_of (reward_bounds_checks c.args.dir m c.args.m goals low high policy ranks) =
    rw (sym c.as_slice.ensures.value, sym c.as_slice-2.ensures.value, sym c.as_slice-3.ensures.value, sym c.as_slice-4.ensures.value)
    (c.verdict_after.ensures ∙ ap verdict (rw c.states.ensures at c.each_below.ensures)) in
    let rules =
    reward_bounds_rules m c.known.ensures.mdp c.args.m goals low high policy ranks c.args.dir c.verdict_after.result
    c.requires.name c.requires.lower c.requires.upper c.requires.choices e in
    record {
      verdict = e;
      rules = rules;
      max = reward_bounds_max m c.known.ensures.mdp c.args.m goals low high policy ranks c.args.dir c.verdict_after.result c.requires.name c.requires.lower c.requires.upper c.requires.choices e;
      min = reward_bounds_min m c.known.ensures.mdp c.args.m goals low high policy ranks c.args.dir c.verdict_after.result c.requires.name c.requires.lower c.requires.upper c.requires.choices e;
      exact = λ same is. rules.1 (reward_of_exact c.args.dir m c.args.m goals low high policy ranks same is);
      trivial = λ t. e ∙ trivial_yes c.args.dir m c.known.ensures.mdp c.args.m goals low high policy ranks t;
    }
