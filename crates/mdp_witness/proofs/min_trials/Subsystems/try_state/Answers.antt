use Rattle.std.proofs.Common.{◌∙◌, List, sym, refl, ap, subst, Ok, Err, arith}
use Rattle.mdp_math.specs.{Rational.{ℚ}, Written.{written_compare}}
use Rattle.mdp_spec.specs.Mdp.{value_at}
use Rattle.mdp_wide.specs.Term.{shown}
use Rattle.mdp_reach.specs.Query.{plain}
use Rattle.mdp_witness.specs.{declared.trial.Trial.{Trial}, declared.trial.Trial.TheVariants.{PastWidth}, LeastEvaluation.{Evaluates, value_from}}
use Rattle.mdp_witness.specs.{StepCode.{IsLast}, Trial.{trial_by}}
use Rattle.mdp_witness.proofs.{Floor.{solves_wide}, Steps.{step_by, kept_last}}
use Rattle.mdp_witness.proofs.min_trials.Subsystems.try_state.Goals as goal

pub returns-in-Goes : goal.returns-in-Goes
returns-in-Goes c = record {
  step =
      step_by (Evaluates c.args.self.now.model.now c.args.self.now.goals.now) (value_from c.args.self.now.start) c.args.threshold.now c.args.s c.args.kept.now c.args.wide.now
      c.set.new.self (plain c.args.last) c.mark.new.kept
      c.mark.new.wide (plain c.in-Ok.found) (omega arith) c.set.ensures (Ok (plain c.in-Ok.found)) c.of-trial.result
      (c.of-trial.ensures ∙ ap (λ (v : ℚ). trial_by (written_compare v c.args.threshold.now)) (c.value_of-value.ensures ∙ ap (λ (z : List ℚ). value_at z c.args.self.now.start) c.deref.ensures.value))
      (c.in-Ok.ensures {u = tt}).found c.mark.ensures.kept c.mark.ensures.wide
      (subst (λ (t : Trial). IsLast t (Ok (plain c.in-Ok.found)) (plain c.args.last) (plain c.in-Ok.found)) (sym c.in-Goes.is) refl);
}

pub returns-in-Needed : goal.returns-in-Needed
returns-in-Needed c = record {
  step =
      step_by (Evaluates c.args.self.now.model.now c.args.self.now.goals.now) (value_from c.args.self.now.start) c.args.threshold.now c.args.s c.args.kept.now c.args.wide.now
      c.set.new.self (plain c.args.last) c.mark.new.kept
      c.mark.new.wide (plain c.args.last) (omega arith) c.set.ensures (Ok (plain c.in-Ok.found)) c.of-trial.result
      (c.of-trial.ensures ∙ ap (λ (v : ℚ). trial_by (written_compare v c.args.threshold.now)) (c.value_of-value.ensures ∙ ap (λ (z : List ℚ). value_at z c.args.self.now.start) c.deref.ensures.value))
      (c.in-Ok.ensures {u = tt}).found c.mark.ensures.kept c.mark.ensures.wide (kept_last c.of-trial.result (Ok (plain c.in-Ok.found)) (plain c.args.last) c.in-Needed.is);
}

pub returns-in-Err-TooWide : goal.returns-in-Err-TooWide
returns-in-Err-TooWide c = record {
  step =
      let wide = solves_wide (Evaluates c.args.self.now.model.now c.args.self.now.goals.now c.set.new.self) c.in-Err-TooWide.field-0 c.in-Err-TooWide.field-0-0 c.in-Err-TooWide.field-0-is
      (c.in-Err-TooWide.ensures {u = tt}).found in
      step_by (Evaluates c.args.self.now.model.now c.args.self.now.goals.now) (value_from c.args.self.now.start) c.args.threshold.now c.args.s c.args.kept.now c.args.wide.now
      c.set.new.self (plain c.args.last)
      c.mark-in-Err-TooWide.new.kept c.mark-in-Err-TooWide.new.wide (plain c.args.last) (omega arith) c.set.ensures (Err (shown c.in-Err-TooWide.field-0-0 wide.0)) PastWidth refl
      wide.2 c.mark-in-Err-TooWide.ensures.kept c.mark-in-Err-TooWide.ensures.wide refl;
}
