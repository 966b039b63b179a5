use Rattle.std.proofs.Common.{◌≡◌, ap, ◌∙◌}
use Rattle.mdp_farkas.specs.Verdict.{verdict_of, verdict}
use Rattle.mdp_subsystem_rules.specs.FloorChecks.{floor_checks}
use Rattle.mdp_subsystem_rules.proofs.FloorRules.{floor_rules, floor_sub_min}
use Rattle.mdp_subsystem_rules.proofs.floor.holds_floor.Goals as goal

pub returns : goal.returns
returns c =
    let m = c.args.model.now in
    let goals = c.args.goals.now in
    let start = c.args.start in
    let threshold = c.args.threshold in
    let cert = c.args.cert.now in
    let v = c.verdict_after.result in
    let e : c.verdict_after.result
    ≡ verdict_of (floor_checks c.args.model.now c.args.goals.now c.args.start c.args.threshold c.args.cert.now.kept.items c.args.cert.now.values.items c.args.cert.now.ranks.items) =
    c.verdict_after.ensures ∙ ap verdict c.walk.ensures
    in
    record {
      verdict = e;
      rules = floor_rules m goals start threshold cert.kept.items cert.wide.items cert.values.items cert.ranks.items c.requires.goals c.requires.start c.requires.shape v e;
      sub_min = floor_sub_min m goals start threshold cert.kept.items cert.wide.items cert.values.items cert.ranks.items c.requires.goals c.requires.start c.requires.shape v c.known.ensures.mdp e;
    }
