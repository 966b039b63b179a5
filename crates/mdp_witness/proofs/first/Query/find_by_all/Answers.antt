use Rattle.std.proofs.Common.{◌∙◌, sym, ap}
use Rattle.mdp_witness.specs.FrontCode.{Front, with_choice}
use Rattle.mdp_witness.proofs.Fronts.{fold_range}
use Rattle.mdp_witness.proofs.first.Query.find_by_all.Goals as goal

pub loop-c-preserved : goal.loop-c-preserved
loop-c-preserved c = record {
  same =
      (c.in_ok-find_by.ensures {u = tt}).found
      ∙ ap (λ (f : Front). with_choice c.args.self.now.model.now c.args.self.now.goals.now c.args.self.now.values.now c.args.s f c.loop-c.c) c.loop-c.invariant.same
      ∙ sym (fold_range (with_choice c.args.self.now.model.now c.args.self.now.goals.now c.args.self.now.values.now c.args.s) c.args.front.now c.loop-c.c);
  count = (c.in_ok-find_by.ensures {u = tt}).count;
}
