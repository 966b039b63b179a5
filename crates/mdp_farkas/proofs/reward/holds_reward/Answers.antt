use Rattle.std.proofs.Common.{◌≡◌, ℕ, Option, List, ap, ◌∙◌}
use Rattle.mdp_math.specs.Rational.{ℚ}
use Rattle.mdp_farkas.specs.{Reward.{reward_checks}, Verdict.{verdict, verdict_of}}
use Rattle.mdp_farkas.proofs.RewardRules.{reward_rules, reward_max, reward_min}
use Rattle.mdp_farkas.proofs.reward.holds_reward.Goals as goal

pub returns : goal.returns
returns c =
    let m = c.args.model.now in
    let goals = c.args.goals.now in
    let v = c.args.cert.now.values.items in
    let policy = c.args.cert.now.choices.items in
    let ranks = c.args.cert.now.ranks.items in
    let e : c.verdict_after.result ≡ verdict_of (reward_checks c.args.dir m c.args.m goals v policy ranks) =
    c.verdict_after.ensures
    ∙ ap verdict (rw c.states.ensures at c.each_below.ensures)
    ∙ ap (λ (v : List (Option ℚ)). verdict_of (reward_checks c.args.dir m c.args.m goals v c.as_slice-2.result.now c.as_slice-3.result.now)) c.as_slice.ensures.value
    ∙ ap (λ (p : List ℕ). verdict_of (reward_checks c.args.dir m c.args.m goals v p c.as_slice-3.result.now)) c.as_slice-2.ensures.value
    ∙ ap (λ (k : List ℕ). verdict_of (reward_checks c.args.dir m c.args.m goals v policy k)) c.as_slice-3.ensures.value
    in
    record {
      verdict = e;
      rules = reward_rules m c.args.m goals v policy ranks c.args.dir c.verdict_after.result c.requires.name c.requires.values c.requires.choices e;
      max = reward_max m c.args.m goals v policy ranks c.args.dir c.verdict_after.result c.requires.name c.requires.values c.requires.choices e c.known.ensures.mdp;
      min = reward_min m c.args.m goals v policy ranks c.args.dir c.verdict_after.result c.requires.name c.requires.values c.requires.choices e c.known.ensures.mdp;
    }
