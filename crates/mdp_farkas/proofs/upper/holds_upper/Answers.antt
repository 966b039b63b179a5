use Rattle.std.proofs.Common.{◌≡◌, ap, ◌∙◌}
use Rattle.mdp_farkas.specs.{Upper.{upper_checks}, Verdict.{verdict, verdict_of}}
use Rattle.mdp_farkas.proofs.UpperRules.{upper_rules, upper_bound}
use Rattle.mdp_farkas.proofs.upper.holds_upper.Goals as goal

pub returns : goal.returns
returns c =
    let m = c.args.model.now in
    let goals = c.args.goals.now in
    let z = c.args.cert.now.values.items in
    let e : c.verdict_after.result ≡ verdict_of (upper_checks c.args.model.now c.args.goals.now c.args.cert.now.values.items) =
    c.verdict_after.ensures ∙ ap verdict c.upper_at_states.ensures ∙ ap (λ z. verdict_of (upper_checks c.args.model.now c.args.goals.now z)) c.as_slice.ensures.value
    in
    record {
      verdict = e;
      rules = upper_rules m goals z c.verdict_after.result e;
      bound = upper_bound m goals z c.verdict_after.result c.known.ensures.mdp e;
    }
