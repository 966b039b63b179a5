use Rattle.std.proofs.Common.{replicate, false, ◌≡◌, ◌∙◌, ◌+◌, ◌<◌, ℕ, List, Result, Ok, Err, refl, sym, ap, subst, arith, rules, length}
use Rattle.mdp_rows.specs.declared.preds.Pred.{Pred}
use Rattle.mdp_policy_iteration.specs.{Problem.{Problem, IsPolicy}, Values.{CanLeave}, Path.{Round, Found, Refusal, improved, path_step}}
use Rattle.mdp_policy_iteration.specs.{Iteration.{Step, done, EndsWith}, Laws.{first}, Changes.{Ascend, spread, nodes_of}, Evaluated.{IsEvaluated, CanServe}}
use Rattle.mdp_policy_iteration.specs.{Scope.{IsScope}, Ends.{IsRefused}, Errors.{PathError}}
use Rattle.mdp_policy_iteration.proofs.{Iterations.{ends-done}, Ending.{Keeps, better_left, start-keeps, done-best}, Walking.{done_at, ends_by}}
use Rattle.mdp_policy_iteration.proofs.{Rounds.{is_none, is_some, keeps-on, rest-on, serves-on, unimproved}, best_policy.improve_further.Given.{Over}}
use Rattle.mdp_policy_iteration.proofs.best_policy.improve_further.Goals.{After-marks-in-rounds-1, After-drop-changes-in-Ok, After-scope-in-rounds-1}
use Rattle.mdp_policy_iteration.proofs.best_policy.improve_further.Goals as goal

abbrev after : ℕ → List ℕ → Round
after n policy = record { number = n + 1; policy = policy }

-- the next policy is the present one with its changes
module _ (g : Over) (c : After-marks-in-rounds-1 g) where
  abbrev p : Problem
  p = g.P.ShortestPath.problem c.args.problem.now

  next : c.next_policy-policy.result.items ≡ improved c.rounds.policy.items (spread (length c.rounds.policy.items) c.rounds.changes.items)
  next = c.next_policy-policy.ensures ∙ ap (λ (xs : List Pred). improved c.rounds.policy.items (spread (length c.rounds.policy.items) xs)) c.deref.ensures.value

  kept : Keeps p c.args.start.items c.next_policy-policy.result.items
      × (better_left p c.args.start.items c.next_policy-policy.result.items < better_left p c.args.start.items c.rounds.policy.items)
  kept =
      keeps-on p c.args.start.items c.rounds.invariant.stands.0 c.rounds.policy.items c.rounds.evaluation c.rounds.changes.items c.rounds.invariant.stands.2
      c.next_policy-policy.result.items next c.requires.solvable.problem c.requires.solvable.keeps c.solution_law.ensures.solves

  rest : (r : Result Found Refusal) → EndsWith (path_step p) (after c.rounds.invariant.stands.0 c.next_policy-policy.result.items) r → EndsWith (path_step p) (first c.args.start.items) r
  rest =
      rest-on p c.args.start.items c.rounds.invariant.stands.0 c.rounds.policy.items c.rounds.evaluation c.rounds.changes.items c.rounds.invariant.stands.2
      c.next_policy-policy.result.items next

-- its scope
scope_is : (g : Over) (c : After-scope-in-rounds-1 g) → IsScope (g.P.ShortestPath.problem c.args.problem.now) c.next_policy-policy.result.items c.rounds.changes.items c.in_ok-scope.scope
scope_is g c =
    let p = g.P.ShortestPath.problem c.args.problem.now in
    subst (λ (xs : List ℕ). IsScope p xs c.rounds.changes.items c.in_ok-scope.scope) c.deref-in-rounds.ensures.value
    (subst (λ (xs : List Pred). IsScope p c.deref-in-rounds.result.now xs c.in_ok-scope.scope) c.deref-in-rounds-2.ensures.value (c.in_ok-scope.ensures {u = tt}).scope)

-- where it has no changes, the path ends with it
stepped : (g : Over) (c : After-drop-changes-in-Ok g) → path_step (g.P.ShortestPath.problem c.args.problem.now) (after c.rounds.invariant.stands.0 c.next_policy-policy.result.items)
    ≡ (let s : Step Round Found Refusal = done (record { number = c.rounds.invariant.stands.0 + 1; policy = c.next_policy-policy.result.items; values = c.round_of.new.evaluation.values }) in s)
stepped g c =
    let p = g.P.ShortestPath.problem c.args.problem.now in
    let n = c.rounds.invariant.stands.0 in
    let was : c.round_of.result ≡ Ok c.in-Ok.next = search rules in
    let none = is_none c.in-Ok.next.len c.in-Ok.next.items c.is_empty.result c.is_empty.ensures c.if-is_empty.true c.in-Ok.next.ok.0 in
    done_at p (n + 1) c.deref-in-rounds-3.result.now c.next_policy-policy.result.items c.round_of.new.evaluation.values c.round_of.result c.deref-in-rounds-3.ensures.value
    (c.round_of.ensures.step (n + 1)) c.in-Ok.next was none

pub rounds-init : goal.rounds-init
rounds-init g c =
    let p = g.P.ShortestPath.problem c.args.problem.now in
    record {
      marks = c.in_ok-marks.ensures {u = tt} ∙ ap (λ n. replicate n false) c.count.ensures;
      stands = (
        0,
        omega arith,
        record {
          keeps = start-keeps p c.args.start.items c.requires.solvable;
          evaluated = c.requires.evaluated;
          some = c.requires.some;
          improving = c.requires.changes;
          each = c.requires.each;
          ascend = c.requires.ascend;
          rest = λ r h. h;
        },
      );
    }

pub next_policy-policy-requires-clause-ascend : goal.next_policy-policy-requires-clause-ascend
next_policy-policy-requires-clause-ascend g c = subst (λ (xs : List Pred). Ascend (nodes_of xs)) (sym c.deref.ensures.value) c.rounds.invariant.stands.2.ascend

pub of_changes-requires-clause-policy : goal.of_changes-requires-clause-policy
of_changes-requires-clause-policy g c =
    let p = g.P.ShortestPath.problem c.args.problem.now in
    subst (λ (xs : List ℕ). IsPolicy p xs) (sym c.deref-in-rounds.ensures.value) (kept g c).0.is

pub round_of-requires-clause-policy : goal.round_of-requires-clause-policy
round_of-requires-clause-policy g c =
    let p = g.P.ShortestPath.problem c.args.problem.now in
    subst (λ (xs : List ℕ). IsPolicy p xs) (sym c.deref-in-rounds-3.ensures.value) (kept g (goal.at.round_of-requires-clause-policy g c).After-marks-in-rounds-1).0.is

pub round_of-requires-clause-leaves : goal.round_of-requires-clause-leaves
round_of-requires-clause-leaves g c =
    let p = g.P.ShortestPath.problem c.args.problem.now in
    subst (λ (xs : List ℕ). CanLeave p xs) (sym c.deref-in-rounds-3.ensures.value) (kept g (goal.at.round_of-requires-clause-leaves g c).After-marks-in-rounds-1).0.leaves

pub round_of-requires-clause-serves : goal.round_of-requires-clause-serves
round_of-requires-clause-serves g c =
    let p = g.P.ShortestPath.problem c.args.problem.now in
    subst (λ (xs : List ℕ). CanServe p c.in_ok-scope.scope.affected xs c.rounds.evaluation) (sym c.deref-in-rounds-3.ensures.value)
    (serves-on p c.args.start.items c.rounds.invariant.stands.0 c.rounds.policy.items c.rounds.evaluation c.rounds.changes.items c.rounds.invariant.stands.2
    c.next_policy-policy.result.items (next g (goal.at.round_of-requires-clause-serves g c).After-marks-in-rounds-1) c.in_ok-scope.scope (scope_is g c))

pub round_of-requires-clause-others : goal.round_of-requires-clause-others
round_of-requires-clause-others g c =
    let p = g.P.ShortestPath.problem c.args.problem.now in
    unimproved p c.args.start.items c.rounds.invariant.stands.0 c.rounds.policy.items c.rounds.evaluation c.rounds.changes.items c.rounds.invariant.stands.2
    c.next_policy-policy.result.items (next g (goal.at.round_of-requires-clause-others g c).After-marks-in-rounds-1) c.in_ok-scope.scope (scope_is g c)

pub returns-in-Ok-clause-path : goal.returns-in-Ok-clause-path
returns-in-Ok-clause-path g c =
    let p = g.P.ShortestPath.problem c.args.problem.now in
    let n = c.rounds.invariant.stands.0 in
    let found : Found = record { number = n + 1; policy = c.next_policy-policy.result.items; values = c.round_of.new.evaluation.values } in (
      n + 1,
      omega (arith, c.rounds.invariant.stands.1, c.saturating_add-round.ensures),
      rest g (goal.at.returns-in-Ok-clause-path g c).After-marks-in-rounds-1
          (Ok found) (ends-done (path_step p) (after n c.next_policy-policy.result.items) found (stepped g c)),
    )

pub returns-in-Ok-clause-best : goal.returns-in-Ok-clause-best
returns-in-Ok-clause-best g c =
    let n = c.rounds.invariant.stands.0 in
    done-best (g.P.ShortestPath.problem c.args.problem.now) c.args.start.items c.requires.solvable.problem c.requires.solvable.keeps c.solution_law.ensures.solves
    (after n c.next_policy-policy.result.items) (record { number = n + 1; policy = c.next_policy-policy.result.items; values = c.round_of.new.evaluation.values })
    (kept g (goal.at.returns-in-Ok-clause-best g c).After-marks-in-rounds-1).0 (stepped g c)

pub returns-in-Err-clause-path : goal.returns-in-Err-clause-path
returns-in-Err-clause-path g c =
    let p = g.P.ShortestPath.problem c.args.problem.now in
    let n = c.rounds.invariant.stands.0 in
    let was : c.round_of.result ≡ Err c.in-Err.error = search rules in
    subst (λ (e : PathError). IsRefused p c.args.start.items e) (sym c.path_error.ensures)
    (ends_by p (n + 1) c.deref-in-rounds-3.result.now c.next_policy-policy.result.items c.round_of.new.evaluation.values c.round_of.result c.deref-in-rounds-3.ensures.value
    (c.round_of.ensures.step (n + 1)) c.args.start.items c.saturating_add-round.result c.next_policy-policy.result c.in-Err.error refl
    (omega (arith, c.rounds.invariant.stands.1, c.saturating_add-round.ensures)) (rest g (goal.at.returns-in-Err-clause-path g c).After-marks-in-rounds-1) was)

pub rounds-smaller : goal.rounds-smaller
rounds-smaller g c = (kept g (goal.at.rounds-smaller g c).After-marks-in-rounds-1).1

pub rounds-preserved : goal.rounds-preserved
rounds-preserved g c =
    let p = g.P.ShortestPath.problem c.args.problem.now in
    let n = c.rounds.invariant.stands.0 in
    let before = (goal.at.rounds-preserved g c).After-marks-in-rounds-1 in
    let made = c.in-Ok.ensures in
    record {
      marks = (c.in_ok-scope.ensures {u = tt}).marks ∙ c.rounds.invariant.marks;
      stands = (
        n + 1,
        omega (arith, c.rounds.invariant.stands.1, c.saturating_add-round.ensures),
        record {
          keeps = (kept g before).0;
          evaluated = subst (λ (xs : List ℕ). IsEvaluated p xs c.round_of.new.evaluation) c.deref-in-rounds-3.ensures.value made.evaluated;
          some = is_some c.in-Ok.next.len c.in-Ok.next.items c.is_empty.result c.is_empty.ensures c.if-is_empty.false c.in-Ok.next.ok.0;
          improving = made.changes;
          each = made.each;
          ascend = made.ascend;
          rest = rest g before;
        },
      );
    }

pub round_of-requires-clause-compared_ascend : goal.round_of-requires-clause-compared_ascend
round_of-requires-clause-compared_ascend g c = (scope_is g c).compared_ascend

pub round_of-requires-clause-affected_ascend : goal.round_of-requires-clause-affected_ascend
round_of-requires-clause-affected_ascend g c = (scope_is g c).affected_ascend

pub round_of-requires-clause-affected_below : goal.round_of-requires-clause-affected_below
round_of-requires-clause-affected_below g c = (scope_is g c).affected_below

pub round_of-requires-clause-compared_below : goal.round_of-requires-clause-compared_below
round_of-requires-clause-compared_below g c = (scope_is g c).compared_below

pub round_of-requires-clause-loops : goal.round_of-requires-clause-loops
round_of-requires-clause-loops g c = c.requires.loops
