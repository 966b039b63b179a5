use Rattle.std.proofs.Common.{◌≡◌, ℕ, List, ap, ◌∙◌}
use Rattle.mdp_math.specs.Rational.{ℚ}
use Rattle.mdp_farkas.specs.{Reach.{reach_checks}, Verdict.{verdict, verdict_of}}
use Rattle.mdp_farkas.proofs.ReachRules.{reach_rules, reach_max, reach_min}
use Rattle.mdp_farkas.proofs.reach.holds_reach.Goals as goal

pub returns : goal.returns
returns c =
    let m = c.args.model.now in
    let goals = c.args.goals.now in
    let z = c.args.cert.now.values.items in
    let policy = c.args.cert.now.choices.items in
    let ranks = c.args.cert.now.ranks.items in
    let e : c.verdict_after.result ≡ verdict_of (reach_checks c.args.dir m goals z policy ranks) =
    c.verdict_after.ensures
    ∙ ap verdict (rw c.states.ensures at c.each_below.ensures)
    ∙ ap (λ (z : List ℚ). verdict_of (reach_checks c.args.dir m goals z c.as_slice-2.result.now c.as_slice-3.result.now)) c.as_slice.ensures.value
    ∙ ap (λ (p : List ℕ). verdict_of (reach_checks c.args.dir m goals z p c.as_slice-3.result.now)) c.as_slice-2.ensures.value
    ∙ ap (λ (r : List ℕ). verdict_of (reach_checks c.args.dir m goals z policy r)) c.as_slice-3.ensures.value
    in
    record {
      verdict = e;
      rules = reach_rules m goals z policy ranks c.args.dir c.verdict_after.result c.requires.choices e;
      max = λ is. reach_max m goals z policy ranks c.args.dir c.verdict_after.result c.known.ensures.mdp c.requires.choices e is;
      min = λ is. reach_min m goals z policy ranks c.args.dir c.verdict_after.result c.known.ensures.mdp c.requires.choices e is;
    }
