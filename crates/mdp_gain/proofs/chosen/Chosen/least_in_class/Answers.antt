use Rattle.std.proofs.Common.{sym, ◌∙◌, arith}
use Rattle.mdp_gain.specs.Policies.{in_class}
use Rattle.mdp_graph.proofs.Collecting.{find_found, find_none, none_more}
use Rattle.mdp_gain.proofs.chosen.Chosen.least_in_class.Goals as goal

pub loop-s-init : goal.loop-s-init
loop-s-init c = λ k l. absurd (omega arith)

pub loop-s-preserved : goal.loop-s-preserved
loop-s-preserved c = none_more (in_class c.args.self.now c.args.classes.now) c.loop-s.s c.loop-s.invariant (sym c.in_class.ensures ∙ c.if-in_class.false)

pub returns-then-in_class : goal.returns-then-in_class
returns-then-in_class c = find_found (in_class c.args.self.now c.args.classes.now) _ c.loop-s.s (omega arith) c.loop-s.invariant (sym c.in_class.ensures ∙ c.if-in_class.true)

pub returns : goal.returns
returns c = find_none (in_class c.args.self.now c.args.classes.now) _ c.loop-s.s (omega arith) c.loop-s.invariant
