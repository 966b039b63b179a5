use Rattle.std.proofs.{lemmas.Result.{IfOk-at_ok}, Common.{◌≡◌, ℕ, List, Ok, Err, refl, sym, subst, arith, rules}}
use Rattle.mdp_policy_iteration.specs.{Problem.{IsPolicy}, Values.{CanLeave}, Iteration.{Step, done}, Path.{Round, Found, Refusal, path_step}, Laws.{first}}
use Rattle.mdp_policy_iteration.specs.{Ends.{IsRefused}, Errors.{PathError}}
use Rattle.mdp_policy_iteration.proofs.{Ending.{start-keeps, done-best}, Iterations.{ends-done}, Rounds.{is_none}, Walking.{done_at, ends_by}}
use Rattle.mdp_policy_iteration.proofs.{best_policy.last_of.Given.{Over}, best_policy.last_of.Goals.{After-drop-loops-in-Ok}}
use Rattle.mdp_policy_iteration.proofs.best_policy.last_of.Goals as goal

pub first_round-requires-clause-policy : goal.first_round-requires-clause-policy
first_round-requires-clause-policy g c =
    let p = g.P.ShortestPath.problem c.args.problem.now in
    subst (λ (xs : List ℕ). IsPolicy p xs) (sym c.deref.ensures.value) c.requires.solvable.policy

pub first_round-requires-clause-leaves : goal.first_round-requires-clause-leaves
first_round-requires-clause-leaves g c =
    let p = g.P.ShortestPath.problem c.args.problem.now in
    subst (λ (xs : List ℕ). CanLeave p xs) (sym c.deref.ensures.value) c.requires.solvable.leaves

pub first_round-requires-clause-room : goal.first_round-requires-clause-room
first_round-requires-clause-room g c = c.requires.room

-- a start policy that has no changes is the path's end
stepped : (g : Over) (c : After-drop-loops-in-Ok g) → path_step (g.P.ShortestPath.problem c.args.problem.now) (first c.args.start.items)
    ≡ (let s : Step Round Found Refusal = done (record { number = 0; policy = c.args.start.items; values = c.first_round.new.evaluation.values }) in s)
stepped g c =
    let was : c.first_round.result ≡ Ok c.in-Ok.changes = search rules in
    let none = is_none c.in-Ok.changes.len c.in-Ok.changes.items c.is_empty.result c.is_empty.ensures c.if-is_empty.true c.in-Ok.changes.ok.0 in
    done_at (g.P.ShortestPath.problem c.args.problem.now) 0 c.deref.result.now c.args.start.items c.first_round.new.evaluation.values c.first_round.result c.deref.ensures.value (c.first_round.ensures.step 0)
    c.in-Ok.changes was none

pub returns-in-Ok-clause-path : goal.returns-in-Ok-clause-path
returns-in-Ok-clause-path g c =
    let p = g.P.ShortestPath.problem c.args.problem.now in
    let found : Found = record { number = 0; policy = c.args.start.items; values = c.first_round.new.evaluation.values } in
    (0, omega arith, ends-done (path_step p) (first c.args.start.items) found (stepped g c))

pub returns-in-Ok-clause-best : goal.returns-in-Ok-clause-best
returns-in-Ok-clause-best g c =
    let p = g.P.ShortestPath.problem c.args.problem.now in
    done-best p c.args.start.items c.requires.solvable.problem c.requires.solvable.keeps c.solution_law.ensures.solves (first c.args.start.items)
    (record { number = 0; policy = c.args.start.items; values = c.first_round.new.evaluation.values }) (start-keeps p c.args.start.items c.requires.solvable) (stepped g c)

pub returns-clause-path : goal.returns-clause-path
returns-clause-path g c =
    let p = g.P.ShortestPath.problem c.args.problem.now in
    let was : c.first_round.result ≡ Err c.in-Err.error = search rules in
    subst (λ (e : PathError). IsRefused p c.args.start.items e) (sym c.path_error.ensures)
    (ends_by p 0 c.deref.result.now c.args.start.items c.first_round.new.evaluation.values c.first_round.result c.deref.ensures.value (c.first_round.ensures.step 0)
    c.args.start.items 0 c.args.start c.in-Err.error refl (omega arith) (λ r h. h) was)

pub improve_further-requires-clause-ascend : goal.improve_further-requires-clause-ascend
improve_further-requires-clause-ascend g c =
    let was : c.first_round.result ≡ Ok c.in-Ok.changes = search rules in
    IfOk-at_ok _ was c.first_round.ensures.ascend

pub improve_further-requires-clause-each : goal.improve_further-requires-clause-each
improve_further-requires-clause-each g c =
    let was : c.first_round.result ≡ Ok c.in-Ok.changes = search rules in
    IfOk-at_ok _ was c.first_round.ensures.each
