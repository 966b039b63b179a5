use Rattle.std.proofs.Common.{sym, ◌∙◌, arith}
use Rattle.mdp_gain.specs.Policies.{in_changed_class}
use Rattle.mdp_graph.proofs.Collecting.{find_found, find_none, none_more}
use Rattle.mdp_gain.proofs.chosen.Chosen.least_changed.Goals as goal

pub loop-s-init : goal.loop-s-init
loop-s-init c = λ k l. absurd (omega arith)

pub loop-s-preserved : goal.loop-s-preserved
loop-s-preserved c = none_more (in_changed_class c.args.self.now c.args.classes.now c.args.changed.now) c.loop-s.s c.loop-s.invariant (sym c.in_changed_class.ensures ∙ c.if-in_changed_class.false)

pub returns-then-in_changed_class : goal.returns-then-in_changed_class
returns-then-in_changed_class c =
    find_found (in_changed_class c.args.self.now c.args.classes.now c.args.changed.now) _ c.loop-s.s (omega arith) c.loop-s.invariant (sym c.in_changed_class.ensures ∙ c.if-in_changed_class.true)

pub returns : goal.returns
returns c = find_none (in_changed_class c.args.self.now c.args.classes.now c.args.changed.now) _ c.loop-s.s (omega arith) c.loop-s.invariant
