use Rattle.std.proofs.Common.{◌∙◌, sym, ap, Ok, arith}
use Rattle.mdp_spec.specs.Mdp.{states_of}
use Rattle.mdp_witness.proofs.{Arrivals.{below-in, below-out, below-err}, visited.Policy.arrivals.Goals.{then-at+in-Ok, else-at}}
use Rattle.mdp_witness.proofs.visited.Policy.arrivals.Goals as goal

pub loop-s-preserved : goal.loop-s-preserved
loop-s-preserved c = elim c.if-at.branch [
  | then-at+in-Ok w ↦
      below-in c.args.self.now.model.now c.args.self.now.goals.now c.args.self.now.choices.now c.args.self.now.start c.args.set.now c.args.visits.now c.loop-s.s c.loop-s.sum
      (Ok c.if-at.sum) c.loop-s.invariant (sym c.at.ensures ∙ w.if-at.true) ((w.in-Ok.ensures {u = tt}).sum ∙ ap Ok (sym w.sum-is))
  | else-at w ↦
      below-out c.args.self.now.model.now c.args.self.now.goals.now c.args.self.now.choices.now c.args.self.now.start c.args.set.now c.args.visits.now c.loop-s.s c.loop-s.sum
      c.loop-s.invariant (sym c.at.ensures ∙ w.if-at.false)
      ∙ ap Ok (sym w.sum-is)
]

pub returns-in-Err-clause-sum : goal.returns-in-Err-clause-sum
returns-in-Err-clause-sum c =
    below-err c.args.self.now.model.now c.args.self.now.goals.now c.args.self.now.choices.now c.args.self.now.start c.args.set.now c.args.visits.now c.in-Err.error c.loop-s.s
    (states_of c.args.self.now.model.now) c.loop-s.sum (let l = c.loop-s-test.true in let e = c.states-s-end.ensures in omega arith) c.loop-s.invariant (sym c.at.ensures ∙ c.if-at.true)
    (c.in-Err.ensures {u = tt}).sum
