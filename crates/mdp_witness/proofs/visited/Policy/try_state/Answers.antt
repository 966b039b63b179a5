use Rattle.std.proofs.Common.{sym, refl, subst, Ok, Err, arith}
use Rattle.mdp_reach.specs.Query.{policy_rows}
use Rattle.mdp_witness.specs.{declared.trial.Trial.{Trial}, declared.trial.Trial.TheVariants.{PastWidth}, Evaluation.{visited, Visits, visited_value}}
use Rattle.mdp_witness.specs.{EvaluationCode.{plain}, StepCode.{IsLast}}
use Rattle.mdp_witness.proofs.{Arrivals.{answers_wide}, Steps.{leaves_without, step_by, kept_last}}
use Rattle.mdp_witness.proofs.visited.Policy.try_state.Goals as goal

pub evaluate-requires-clause-leaves : goal.evaluate-requires-clause-leaves
evaluate-requires-clause-leaves c =
    leaves_without (policy_rows c.args.self.now.model.now c.args.self.now.choices.now) c.args.kept.now c.set.new.self c.args.self.now.ranks.now c.args.s (omega arith) c.set.ensures c.requires.leaves

pub returns-in-Goes : goal.returns-in-Goes
returns-in-Goes c = record {
  step =
      step_by (Visits c.args.self.now.model.now c.args.self.now.goals.now c.args.self.now.choices.now c.args.self.now.start) visited_value c.args.threshold.now c.args.s c.args.kept.now
      c.args.wide.now c.set.new.self (plain c.args.last) c.mark.new.kept c.mark.new.wide
      (plain c.in-Ok.found) (omega arith) c.set.ensures (Ok (plain c.in-Ok.found)) c.of-trial.result c.of-trial.ensures (sym (c.in-Ok.ensures {u = tt}).found) c.mark.ensures.kept c.mark.ensures.wide
      (subst (λ (t : Trial). IsLast t (Ok (plain c.in-Ok.found)) (plain c.args.last) (plain c.in-Ok.found)) (sym c.in-Goes.is) refl);
}

pub returns-in-Needed : goal.returns-in-Needed
returns-in-Needed c = record {
  step =
      step_by (Visits c.args.self.now.model.now c.args.self.now.goals.now c.args.self.now.choices.now c.args.self.now.start) visited_value c.args.threshold.now c.args.s c.args.kept.now
      c.args.wide.now c.set.new.self (plain c.args.last) c.mark.new.kept c.mark.new.wide
      (plain c.args.last) (omega arith) c.set.ensures (Ok (plain c.in-Ok.found)) c.of-trial.result c.of-trial.ensures (sym (c.in-Ok.ensures {u = tt}).found) c.mark.ensures.kept c.mark.ensures.wide
      (kept_last c.of-trial.result (Ok (plain c.in-Ok.found)) (plain c.args.last) c.in-Needed.is);
}

pub returns-in-Err-TooWide : goal.returns-in-Err-TooWide
returns-in-Err-TooWide c = record {
  step =
      step_by (Visits c.args.self.now.model.now c.args.self.now.goals.now c.args.self.now.choices.now c.args.self.now.start) visited_value c.args.threshold.now c.args.s c.args.kept.now
      c.args.wide.now c.set.new.self (plain c.args.last) c.mark-in-Err-TooWide.new.kept
      c.mark-in-Err-TooWide.new.wide (plain c.args.last) (omega arith) c.set.ensures (Err c.in-Err-TooWide.field-0-0) PastWidth refl
      (sym (answers_wide plain c.in-Err-TooWide.field-0 c.in-Err-TooWide.field-0-0 (visited c.args.self.now.model.now c.args.self.now.goals.now c.args.self.now.choices.now
      c.args.self.now.start c.set.new.self) c.in-Err-TooWide.field-0-is
      (c.in-Err-TooWide.ensures {u = tt}).found))
      c.mark-in-Err-TooWide.ensures.kept c.mark-in-Err-TooWide.ensures.wide refl;
}
