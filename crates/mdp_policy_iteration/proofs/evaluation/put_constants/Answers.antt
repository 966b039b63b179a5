use Rattle.std.proofs.{Common.{◌∙◌, ◌≡◌, ◌<◌, Ok, length, take, get_or, sym, ap, pos, arith, slice_index}, lemmas.Result.{err_from_is_err_and}}
use Rattle.mdp_wide.specs.declared.too_wide.Kind.TheVariants.{Evaluate}
use Rattle.mdp_math.specs.Rational.{of_int}
use Rattle.mdp_policy_iteration.specs.{Problem.{count, taken}, Path.{constant, evaluating}, Places.{up_to}, Faults.{Says}}
use Rattle.mdp_policy_iteration.proofs.{Answering.{up_to-refused, placed-ok, placed-err, constant-ok, constant-err, says}, Chain.{active-len}}
use Rattle.mdp_policy_iteration.proofs.{Elsewhere.{constant_by-is}, EvaluatedAgain.{if_err}, NodesAmong.{made-start, made-next, made-all, visited-below}}
use Rattle.mdp_policy_iteration.proofs.UpTo.{up_to-part, up_to-from}
use Rattle.mdp_policy_iteration.proofs.evaluation.put_constants.Goals as goal

pub constant_at-constant-requires-clause-active : goal.constant_at-constant-requires-clause-active
constant_at-constant-requires-clause-active g c = ap length c.requires.active ∙ active-len (g.P.ShortestPath.problem c.args.problem.now) c.args.policy.now

pub loop-s-init : goal.loop-s-init
loop-s-init g c =
    let p = g.P.ShortestPath.problem c.args.problem.now in
    made-start c.args.nodes.now (of_int (pos 0)) (count p) (λ s v. constant p c.args.policy.now s ≡ Ok v) c.args.constants.now c.requires.room c.requires.others

pub loop-s-preserved : goal.loop-s-preserved
loop-s-preserved g c =
    let p = g.P.ShortestPath.problem c.args.problem.now in
    let s = get_or c.args.nodes.now c.loop-s.s-index 0 in
    let told = c.constant_at-constant.ensures ∙ constant_by-is p c.args.policy.now c.args.active.now c.args.values.now c.requires.active c.requires.values c.requires.stops s (taken p c.args.policy.now s) in
    let step = placed-ok Evaluate s (slice_index c.args.policy.now s) c.constant_at-constant.result c.in_ok-constants.field-0 (sym c.at_node.ensures ∙ c.in_ok-constants.was {u = tt}) in
    made-next c.args.nodes.now (of_int (pos 0)) (count p) (λ s v. constant p c.args.policy.now s ≡ Ok v) c.loop-s.s-index c.loop-s.constants c.in_ok-constants.field-0 c.loop-s-test.true
    (c.requires.in_range c.loop-s.s-index 0 c.loop-s-test.true) c.loop-s.invariant
    (constant-ok p c.args.policy.now s c.constant_at-constant.result told c.in_ok-constants.field-0 step)

pub returns-in_err-constants-clause-refused : goal.returns-in_err-constants-clause-refused
returns-in_err-constants-clause-refused g c =
    let p = g.P.ShortestPath.problem c.args.problem.now in
    let s = get_or c.args.nodes.now c.loop-s.s-index 0 in
    let below : s < count p = c.requires.in_range c.loop-s.s-index 0 c.loop-s-test.true in
    let told = c.constant_at-constant.ensures ∙ constant_by-is p c.args.policy.now c.args.active.now c.args.values.now c.requires.active c.requires.values c.requires.stops s (taken p c.args.policy.now s) in
    let e = err_from_is_err_and c.from_residual.result c.from_residual.ensures.1 in
    let placed = placed-err Evaluate s (slice_index c.args.policy.now s) c.constant_at-constant.result c.in_err-constants.field-0.0 (sym c.at_node.ensures ∙ c.in_err-constants.was) in
    let here = constant-err p c.args.policy.now s c.constant_at-constant.result told placed.cause placed.step_is in
    let len = c.loop-s.invariant.len in
    if_err c.from_residual.result e.0 (λ e. Says e (up_to (constant p c.args.policy.now) (count p))) e.1
    (says Evaluate s (slice_index c.args.policy.now s) e.0 _ (e.2 ∙ placed.error_is)
    (up_to-refused (constant p c.args.policy.now) s (count p) (take s c.loop-s.constants) (evaluating c.args.policy.now s)
    (up_to-part (constant p c.args.policy.now) c.loop-s.constants (of_int (pos 0)) s (omega arith)
    (λ t l. c.loop-s.invariant.at t (omega arith) (visited-below c.args.nodes.now c.loop-s.s-index t c.requires.ascend c.loop-s-test.true l)))
    here below))

pub returns-clause-made : goal.returns-clause-made
returns-clause-made g c =
    let p = g.P.ShortestPath.problem c.args.problem.now in
    up_to-from (constant p c.args.policy.now) c.loop-s.constants (of_int (pos 0)) (count p) c.loop-s.invariant.len
    (made-all c.args.nodes.now (of_int (pos 0)) (count p) (λ s v. constant p c.args.policy.now s ≡ Ok v) c.loop-s.s-index c.loop-s.constants
    (omega (arith, c.loop-s.auto.s-index-end, c.loop-s-test.false)) c.loop-s.invariant)

pub bounds-constants-s : goal.bounds-constants-s
bounds-constants-s g c = omega (arith, c.requires.in_range c.loop-s.s-index 0 c.loop-s-test.true, c.loop-s.invariant.len)

pub at_node-requires : goal.at_node-requires
at_node-requires g c = omega (arith, c.requires.in_range c.loop-s.s-index 0 c.loop-s-test.true, c.requires.policy.one_each)

pub constant_at-constant-requires-clause-node : goal.constant_at-constant-requires-clause-node
constant_at-constant-requires-clause-node g c = c.requires.in_range c.loop-s.s-index 0 c.loop-s-test.true

pub constant_at-constant-requires-clause-policy : goal.constant_at-constant-requires-clause-policy
constant_at-constant-requires-clause-policy g c = c.requires.policy

pub constant_at-constant-requires-clause-fit : goal.constant_at-constant-requires-clause-fit
constant_at-constant-requires-clause-fit g c = c.requires.fit

pub constant_at-constant-requires-clause-values : goal.constant_at-constant-requires-clause-values
constant_at-constant-requires-clause-values g c = c.requires.values
