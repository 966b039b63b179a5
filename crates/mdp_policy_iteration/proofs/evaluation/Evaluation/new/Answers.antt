use Rattle.std.proofs.{Common.{◌≡◌, ◌∙◌, false, length, ap, arith}, lemmas.List.{length-replicate}}
use Rattle.mdp_policy_iteration.proofs.evaluation.Evaluation.new.Goals as goal

pub returns : goal.returns
returns c =
    let constants : length c.in_ok-constants.constants.items ≡ c.args.nodes =
    (let n = (c.in_ok-constants.ensures {u = tt}).len in let k = c.in_ok-constants.constants.ok.0 in omega (arith, n, k)) in
    let values : length c.in_ok-values.values.items ≡ c.args.nodes = (let n = (c.in_ok-values.ensures {u = tt}).len in let k = c.in_ok-values.values.ok.0 in omega (arith, n, k)) in
    record {
      active = ap length (c.in_ok-active.ensures {u = tt}) ∙ length-replicate c.args.nodes false;
      constants = constants;
      kept = c.in_ok-kept.ensures {u = tt};
      values = values;
    }
