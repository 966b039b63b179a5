use Rattle.std.proofs.{Common.{◌∙◌, ◌+◌, Ok, List, Vec, sym, ap, subst, arith, slice_index}, lemmas.Result.{err_from_is_err_and}}
use Rattle.mdp_rows.specs.declared.preds.Pred.{Pred}
use Rattle.mdp_policy_iteration.specs.{Problem.{count}, Path.{improvement}, Changes.{IsChangeOf}}
use Rattle.mdp_policy_iteration.proofs.{Answering.{Says-then, says_of, says_same, answers_err}, Chosen.{improvement-below}}
use Rattle.mdp_policy_iteration.proofs.Collected.{AreCollected, collected-none, collected-kept, collected-more, collected-refused, collected-all}
use Rattle.mdp_policy_iteration.proofs.comparison.improvements.Goals.{in-Some+in_ok-push, in_default}
use Rattle.mdp_policy_iteration.proofs.comparison.improvements.Goals as goal

pub loop-s-init : goal.loop-s-init
loop-s-init g c =
    let p = g.P.ShortestPath.problem c.args.problem.now in
    let f = improvement p c.args.values.now in
    subst (AreCollected f (count p) c.args.nodes.now (IsChangeOf p) 0) (sym c.new-changes.ensures.items) (collected-none f (count p) c.args.nodes.now (IsChangeOf p) c.requires.others)

pub returns-in_err-choice-clause-answers : goal.returns-in_err-choice-clause-answers
returns-in_err-choice-clause-answers g c =
    let p = g.P.ShortestPath.problem c.args.problem.now in
    let f = improvement p c.args.values.now in
    let e = err_from_is_err_and c.from_residual.result c.from_residual.ensures.1 in
    answers_err _ c.from_residual.result e.0 _ e.1
    (says_same e.0 c.in_err-choice.field-0.0 _ e.2
    (Says-then c.in_err-choice.field-0.0 (f (slice_index c.args.nodes.now c.loop-s.s-index)) _
    (collected-refused f (count p) c.args.nodes.now (IsChangeOf p) c.requires.ascend c.requires.in_range c.loop-s.s-index c.loop-s.changes.items c.loop-s.invariant c.loop-s-test.true)
    (says_of _ c.improvement.result c.in_err-choice.field-0.0 _ c.improvement.ensures c.in_err-choice.was)))

pub loop-s-preserved : goal.loop-s-preserved
loop-s-preserved g c =
    let p = g.P.ShortestPath.problem c.args.problem.now in
    let f = improvement p c.args.values.now in
    let i = c.loop-s.s-index in
    let AreSo : List Pred → Type 0 = AreCollected f (count p) c.args.nodes.now (IsChangeOf p) (i + 1) in
    elim c.match-branch-2.branch [
      | in-Some+in_ok-push w ↦
          (let now = c.in_ok-choice.ensures {u = tt} ∙ ap Ok w.in-Some.is in
          subst AreSo (sym (ap Vec.items w.changes-is ∙ (w.in_ok-push.ensures {u = tt}).items))
          (collected-more f (count p) c.args.nodes.now (IsChangeOf p) c.requires.ascend c.requires.in_range i c.loop-s.changes.items c.loop-s.invariant c.loop-s-test.true w.in-Some.choice now
          (c.requires.in_range i 0 c.loop-s-test.true, improvement-below p c.args.values.now (slice_index c.args.nodes.now i) w.in-Some.choice now)))
      | in_default w ↦
          subst AreSo (sym (ap Vec.items w.changes-is))
          (collected-kept f (count p) c.args.nodes.now (IsChangeOf p) c.requires.ascend c.requires.in_range i c.loop-s.changes.items c.loop-s.invariant c.loop-s-test.true
          (c.in_ok-choice.ensures {u = tt} ∙ ap Ok w.in_default.is))
    ]

pub returns-clause-answers : goal.returns-clause-answers
returns-clause-answers g c =
    let p = g.P.ShortestPath.problem c.args.problem.now in
    let f = improvement p c.args.values.now in
    collected-all f (count p) c.args.nodes.now (IsChangeOf p) c.loop-s.changes.items
    (subst (λ i. AreCollected f (count p) c.args.nodes.now (IsChangeOf p) i c.loop-s.changes.items) (omega arith) c.loop-s.invariant)
