use Rattle.std.proofs.Common.{sym, ◌∙◌, arith}
use Rattle.mdp_graph.specs.Choices.{may_fall}
use Rattle.mdp_graph.proofs.Collecting.{first_found, first_none, none_more}
use Rattle.mdp_graph.proofs.pass.least_choice.Goals as goal

pub loop-c-init : goal.loop-c-init
loop-c-init c = λ k l. absurd (omega arith)

pub loop-c-preserved : goal.loop-c-preserved
loop-c-preserved c = none_more (may_fall c.args.model.now c.args.inside.now c.args.ranks.now c.args.s) c.loop-c.c c.loop-c.invariant (sym c.can_fall.ensures ∙ c.if-can_fall.false)

pub returns-then-can_fall : goal.returns-then-can_fall
returns-then-can_fall c = first_found (may_fall c.args.model.now c.args.inside.now c.args.ranks.now c.args.s) _ c.loop-c.c (omega arith) c.loop-c.invariant (sym c.can_fall.ensures ∙ c.if-can_fall.true)

pub returns : goal.returns
returns c = first_none (may_fall c.args.model.now c.args.inside.now c.args.ranks.now c.args.s) _ c.loop-c.c (omega arith) c.loop-c.invariant
