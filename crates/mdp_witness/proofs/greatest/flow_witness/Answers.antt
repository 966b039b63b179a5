use Rattle.std.proofs.Common.{refl, ◌∙◌, ap, length, List}
use Rattle.mdp_spec.specs.Mdp.{value_at}
use Rattle.mdp_math.specs.Rational.{ℚ}
use Rattle.mdp_rows.specs.declared.dir.Dir.TheVariants.{Max}
use Rattle.mdp_farkas.specs.Compare.{is_at_least}
use Rattle.mdp_farkas.proofs.Comparing.{le_of_at_least}
use Rattle.mdp_reach.specs.Query as reach
use Rattle.mdp_witness.specs.{EvaluationCode.{plain}, Query.{FlowHeld, FromFirst, verdict_on}, Code.{plain_flow}}
use Rattle.mdp_witness.proofs.{FirstMax.{first-leaves}, Lengths.{sized}, Flowing.{shaped, meets-max, left-meets, left-held}, Passing.{goes-through}}
use Rattle.mdp_witness.proofs.Sized.{visits_each}
use Rattle.mdp_witness.proofs.greatest.flow_witness.Goals as goal

pub invariant_of-query : goal.invariant_of-query
invariant_of-query c =
    let a = reach.plain c.args.whole in
    let each = sized Max c.args.model.now c.args.goals.now a c.known.ensures.mdp c.path_law.ensures.best c.avoid_law.ensures.rest c.requires.solved in
    let rules = meets-max c.args.model.now c.args.goals.now a a.values c.as_slice-choices.result.now a.ranks refl
    c.as_slice-choices.ensures.value refl c.known.ensures.mdp c.requires.solved c.query_law.ensures.rules in
    record { goals_each = c.requires.goals; values_each = ap length c.as_slice.ensures.value ∙ each.values; chosen = rules.choices }

pub evaluate-requires-clause-leaves : goal.evaluate-requires-clause-leaves
evaluate-requires-clause-leaves c =
    let m = c.args.model.now in
    let goals = c.args.goals.now in
    let rules = meets-max m goals (reach.plain c.args.whole) c.as_slice.result.now c.as_slice-choices.result.now c.as_slice-2.result.now c.as_slice.ensures.value c.as_slice-choices.ensures.value
    c.as_slice-2.ensures.value c.known.ensures.mdp c.requires.solved c.query_law.ensures.rules in
    first-leaves m goals c.as_slice.result.now c.as_slice-choices.result.now c.as_slice-2.result.now c.args.start c.in_ok-first.first c.known.ensures.mdp rules (c.in_ok-first.ensures {u = tt}).first

pub trials-requires-clause-leaves : goal.trials-requires-clause-leaves
trials-requires-clause-leaves c =
    let m = c.args.model.now in
    let goals = c.args.goals.now in
    let rules = meets-max m goals (reach.plain c.args.whole) c.as_slice.result.now c.as_slice-choices.result.now c.as_slice-2.result.now c.as_slice.ensures.value c.as_slice-choices.ensures.value
    c.as_slice-2.ensures.value c.known.ensures.mdp c.requires.solved c.query_law.ensures.rules in
    first-leaves m goals c.as_slice.result.now c.as_slice-choices.result.now c.as_slice-2.result.now c.args.start c.in_ok-first.first c.known.ensures.mdp rules (c.in_ok-first.ensures {u = tt}).first

pub flow_cert-requires-clause-visits : goal.flow_cert-requires-clause-visits
flow_cert-requires-clause-visits c =
    let m = c.args.model.now in
    let goals = c.args.goals.now in
    let rules = meets-max m goals (reach.plain c.args.whole) c.as_slice.result.now c.as_slice-choices.result.now c.as_slice-2.result.now c.as_slice.ensures.value c.as_slice-choices.ensures.value
    c.as_slice-2.ensures.value c.known.ensures.mdp c.requires.solved c.query_law.ensures.rules in
    visits_each m goals c.as_slice.result.now c.as_slice-choices.result.now c.as_slice-2.result.now c.args.start c.args.threshold c.in_ok-first.first c.in_ok-left.left.kept c.in_ok-left.left.wide
    (plain c.in_ok-left.left.last) c.known.ensures.mdp rules (c.in_ok-first.ensures {u = tt}).first c.requires.start (c.in_ok-left.ensures {u = tt}).left

pub held-requires-clause-shape : goal.held-requires-clause-shape
held-requires-clause-shape c =
    shaped c.args.model.now c.as_slice-choices.result.now c.in_ok-left.left.kept c.in_ok-left.left.wide (plain c.in_ok-left.left.last) c.in_ok-cert.cert.kept.items c.in_ok-cert.cert.wide.items
    c.in_ok-cert.cert.flows.items (c.in_ok-cert.ensures {u = tt}) c.listed_law.ensures.flow_shape

pub held-requires-clause-rules : goal.held-requires-clause-rules
held-requires-clause-rules c =
    left-meets c.args.model.now c.args.goals.now (reach.plain c.args.whole) c.as_slice.result.now c.as_slice-choices.result.now c.as_slice-2.result.now c.as_slice.ensures.value
    c.as_slice-choices.ensures.value c.as_slice-2.ensures.value c.known.ensures.mdp c.requires.solved c.query_law.ensures.rules c.args.start c.args.threshold c.in_ok-first.first
    (c.in_ok-first.ensures {u = tt}).first c.in_ok-left.left.kept c.in_ok-left.left.wide (plain c.in_ok-left.left.last) (c.in_ok-left.ensures {u = tt}).left c.in_ok-cert.cert.kept.items
    c.in_ok-cert.cert.wide.items c.in_ok-cert.cert.flows.items (c.in_ok-cert.ensures {u = tt}) c.requires.start
    (le_of_at_least (value_at c.as_slice.result.now c.args.start) c.args.threshold
    (ap (λ (z : List ℚ). is_at_least (value_at z c.args.start) c.args.threshold) c.as_slice.ensures.value ∙ c.requires.reaches))
    c.kept_law.ensures.max c.listed_law.ensures.marks

pub returns : goal.returns
returns c =
    let m = c.args.model.now in
    let goals = c.args.goals.now in
    let a = reach.plain c.args.whole in
    goes-through plain_flow (FlowHeld a.choices (plain_flow c.in_ok-cert.cert) (verdict_on m goals c.args.start c.args.threshold (plain_flow c.in_ok-cert.cert)))
    (FromFirst m goals c.args.start c.args.threshold Max a) c.held.result
    (left-held m goals a c.as_slice.result.now c.as_slice-choices.result.now c.as_slice-2.result.now c.as_slice.ensures.value c.as_slice-choices.ensures.value c.as_slice-2.ensures.value
    c.known.ensures.mdp c.requires.solved c.query_law.ensures.rules c.args.start c.args.threshold c.in_ok-first.first (c.in_ok-first.ensures {u = tt}).first c.in_ok-left.left.kept
    c.in_ok-left.left.wide (plain c.in_ok-left.left.last) (c.in_ok-left.ensures {u = tt}).left c.in_ok-cert.cert.kept.items c.in_ok-cert.cert.wide.items c.in_ok-cert.cert.flows.items
    (c.in_ok-cert.ensures {u = tt}) (plain c.in-Ok.found) (c.in-Ok.ensures {u = tt}).found) c.held.ensures
