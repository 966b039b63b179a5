use Rattle.std.proofs.Common.{sym, ◌∙◌, ap, subst, length, Ok}
use Rattle.mdp_rows.specs.declared.dir.Dir.TheVariants.{Min}
use Rattle.mdp_claims.specs.declared.subsystem.FloorCert.{FloorCert}
use Rattle.mdp_reach.specs.Query.{plain}
use Rattle.mdp_witness.proofs.{Lengths.{sized}, Flooring.{shaped, meets-min, left-holds, left-found, values_each, ranks_each}}
use Rattle.mdp_witness.specs.{Query.{FromFirst}, Code.{plain_floor}}
use Rattle.mdp_witness.proofs.least.floor_witness.Goals as goal

pub invariant_of-query : goal.invariant_of-query
invariant_of-query c =
    let a = plain c.args.whole.now in
    let each = sized Min c.args.model.now c.args.goals.now a c.known.ensures.mdp c.path_law.ensures.best c.avoid_law.ensures.rest c.requires.solved in
    let rules = meets-min c.args.model.now c.args.goals.now a c.as_slice.result.now c.as_slice-2.result.now c.as_slice.ensures.value c.as_slice-2.ensures.value c.known.ensures.mdp
    c.requires.goals c.requires.solved c.query_law.ensures.rules in
    record { goals_each = c.requires.goals; values_each = ap length c.as_slice.ensures.value ∙ each.values; chosen = rules.choices }

pub floor_cert-requires-clause-values : goal.floor_cert-requires-clause-values
floor_cert-requires-clause-values c =
    values_each c.args.model.now c.args.goals.now c.args.start c.args.threshold c.in_ok-first.first c.in_ok-left.left.kept c.in_ok-left.left.wide (plain c.in_ok-left.left.last) c.known.ensures.mdp
    c.path_law.ensures.best c.avoid_law.ensures.rest (c.in_ok-left.ensures {u = tt}).left

pub floor_cert-requires-clause-ranks : goal.floor_cert-requires-clause-ranks
floor_cert-requires-clause-ranks c =
    ranks_each c.args.model.now c.args.goals.now c.args.start c.args.threshold c.in_ok-first.first c.in_ok-left.left.kept c.in_ok-left.left.wide (plain c.in_ok-left.left.last) c.known.ensures.mdp
    c.path_law.ensures.best c.avoid_law.ensures.rest (c.in_ok-left.ensures {u = tt}).left

pub held-requires-clause-shape : goal.held-requires-clause-shape
held-requires-clause-shape c =
    shaped c.args.model.now c.in_ok-left.left.kept c.in_ok-left.left.wide (plain c.in_ok-left.left.last) c.in_ok-cert.cert.kept.items c.in_ok-cert.cert.wide.items c.in_ok-cert.cert.values.items
    c.in_ok-cert.cert.ranks.items (c.in_ok-cert.ensures {u = tt}) c.listed_law.ensures.floor_shape

pub held-requires-clause-holds : goal.held-requires-clause-holds
held-requires-clause-holds c =
    left-holds c.args.model.now c.args.goals.now (plain c.args.whole.now) c.as_slice.result.now c.as_slice-2.result.now c.as_slice.ensures.value c.as_slice-2.ensures.value c.known.ensures.mdp
    c.requires.goals c.requires.solved c.query_law.ensures.rules c.args.start c.args.threshold c.in_ok-first.first c.in_ok-left.left.kept c.in_ok-left.left.wide (plain c.in_ok-left.left.last)
    c.requires.start (c.in_ok-first.ensures {u = tt}).first c.requires.reaches (c.in_ok-left.ensures {u = tt}).left c.query_law.ensures.one_end c.query_law.ensures.min c.first_law.ensures.least
    c.kept_law.ensures.min c.fewer_law.ensures.least c.fewer_law.ensures.whole c.in_ok-cert.cert.kept.items c.in_ok-cert.cert.wide.items c.in_ok-cert.cert.values.items
    c.in_ok-cert.cert.ranks.items (c.in_ok-cert.ensures {u = tt}) c.listed_law.ensures.floor

pub returns : goal.returns
returns c =
    let m = c.args.model.now in
    let goals = c.args.goals.now in
    let a = plain c.args.whole.now in
    subst (λ (x : FloorCert). FromFirst m goals c.args.start c.args.threshold Min a (Ok (plain_floor x))) (sym c.held.ensures)
    (left-found m goals a c.as_slice.result.now c.as_slice-2.result.now c.as_slice.ensures.value c.as_slice-2.ensures.value c.known.ensures.mdp
    c.requires.goals c.requires.solved c.query_law.ensures.rules c.args.start c.args.threshold c.in_ok-first.first c.in_ok-left.left.kept c.in_ok-left.left.wide (plain c.in_ok-left.left.last)
    c.requires.start (c.in_ok-first.ensures {u = tt}).first c.requires.reaches (c.in_ok-left.ensures {u = tt}).left c.query_law.ensures.one_end c.query_law.ensures.min c.first_law.ensures.least
    c.kept_law.ensures.min c.fewer_law.ensures.least c.fewer_law.ensures.whole c.in_ok-cert.cert.kept.items c.in_ok-cert.cert.wide.items c.in_ok-cert.cert.values.items
    c.in_ok-cert.cert.ranks.items (c.in_ok-cert.ensures {u = tt}) c.listed_law.ensures.floor c.listed_law.ensures.floor_shape (plain c.in-Ok.found) (c.in-Ok.ensures {u = tt}).found)
