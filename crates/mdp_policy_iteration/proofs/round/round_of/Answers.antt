use Rattle.std.proofs.Common.{◌∙◌, ℕ, ◌<◌, List, Result, Ok, Err, OnOk, ap, sym, subst, length}
use Rattle.std.specs.List.{All}
use Rattle.mdp_math.specs.Rational.{ℚ}
use Rattle.mdp_policy_iteration.specs.{Problem.{count}, Changes.{Ascend, spread}, Faults.{Answers}, Path.{improvements}, Evaluated.{IsEvaluated, CanServe}}
use Rattle.mdp_policy_iteration.specs.Scope.{Scope}
use Rattle.mdp_policy_iteration.proofs.RoundFacts.{values-len, makes_answer}
use Rattle.mdp_policy_iteration.proofs.round.round_of.Goals as goal

-- what holds in any case holds of an answer
on_ok_of : {A E : Type 0} (r : Result A E) {P : Type 0} → P → OnOk r P
on_ok_of (Ok x) h = h
on_ok_of (Err e) h = tt

pub improvements-requires-clause-values : goal.improvements-requires-clause-values
improvements-requires-clause-values g c =
    let p = g.P.ShortestPath.problem c.args.problem.now in
    ap length c.values.ensures ∙ values-len p c.args.policy.now c.evaluate.new.self.values (IsEvaluated.written (c.in_ok-evaluate.ensures {u = tt}).evaluated)

pub returns-clause-step : goal.returns-clause-step
returns-clause-step g c = λ n.
    let p = g.P.ShortestPath.problem c.args.problem.now in
    makes_answer p c.args.policy.now c.evaluate.new.self.values (IsEvaluated.written (c.in_ok-evaluate.ensures {u = tt}).evaluated) n c.improvements.result
    (subst (λ (x : List ℚ). Answers (λ changes. spread (count p) changes.items) c.improvements.result (improvements p x)) c.values.ensures c.improvements.ensures.answers)
    c.requires.policy.one_each c.improvements.ensures.each

pub evaluate-requires-clause-policy : goal.evaluate-requires-clause-policy
evaluate-requires-clause-policy g c = c.requires.policy

pub evaluate-requires-clause-leaves : goal.evaluate-requires-clause-leaves
evaluate-requires-clause-leaves g c = c.requires.leaves

pub evaluate-requires-clause-loops : goal.evaluate-requires-clause-loops
evaluate-requires-clause-loops g c = c.requires.loops

pub evaluate-requires-clause-in_range : goal.evaluate-requires-clause-in_range
evaluate-requires-clause-in_range g c =
    let p = g.P.ShortestPath.problem c.args.problem.now in
    subst (λ (xs : List ℕ). All (λ s. s < count p) xs) (sym (c.deref.ensures.value ∙ ap Scope.affected c.scope.view_is)) c.requires.affected_below

pub evaluate-requires-clause-ascend : goal.evaluate-requires-clause-ascend
evaluate-requires-clause-ascend g c = subst Ascend (sym (c.deref.ensures.value ∙ ap Scope.affected c.scope.view_is)) c.requires.affected_ascend

pub evaluate-requires-clause-others : goal.evaluate-requires-clause-others
evaluate-requires-clause-others g c =
    let p = g.P.ShortestPath.problem c.args.problem.now in
    subst (λ (xs : List ℕ). CanServe p xs c.args.policy.now c.args.evaluation.now) (sym (c.deref.ensures.value ∙ ap Scope.affected c.scope.view_is)) c.requires.serves

pub improvements-requires-clause-in_range : goal.improvements-requires-clause-in_range
improvements-requires-clause-in_range g c =
    let p = g.P.ShortestPath.problem c.args.problem.now in
    subst (λ (xs : List ℕ). All (λ s. s < count p) xs) (sym (c.deref-2.ensures.value ∙ ap Scope.compared c.scope.view_is)) c.requires.compared_below

pub improvements-requires-clause-ascend : goal.improvements-requires-clause-ascend
improvements-requires-clause-ascend g c = subst Ascend (sym (c.deref-2.ensures.value ∙ ap Scope.compared c.scope.view_is)) c.requires.compared_ascend

pub returns-clause-evaluated : goal.returns-clause-evaluated
returns-clause-evaluated g c = on_ok_of c.improvements.result (c.in_ok-evaluate.ensures {u = tt}).evaluated

pub returns-clause-each : goal.returns-clause-each
returns-clause-each g c = c.improvements.ensures.each

pub returns-clause-ascend : goal.returns-clause-ascend
returns-clause-ascend g c = c.improvements.ensures.ascend
