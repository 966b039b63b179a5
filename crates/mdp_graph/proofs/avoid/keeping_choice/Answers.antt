use Rattle.std.proofs.Common.{sym, ◌∙◌, arith}
use Rattle.mdp_graph.specs.Avoid.{keeps}
use Rattle.mdp_graph.proofs.Collecting.{first_found, first_none, none_more}
use Rattle.mdp_graph.proofs.avoid.keeping_choice.Goals as goal

pub loop-c-init : goal.loop-c-init
loop-c-init c = λ k l. absurd (omega arith)

pub loop-c-preserved : goal.loop-c-preserved
loop-c-preserved c = none_more (keeps c.args.model.now c.args.marks.now c.args.s) c.loop-c.c c.loop-c.invariant (sym c.keeps_marked.ensures ∙ c.if-keeps_marked.false)

pub returns-then-keeps_marked : goal.returns-then-keeps_marked
returns-then-keeps_marked c = first_found (keeps c.args.model.now c.args.marks.now c.args.s) _ c.loop-c.c (omega arith) c.loop-c.invariant (sym c.keeps_marked.ensures ∙ c.if-keeps_marked.true)

pub returns : goal.returns
returns c = first_none (keeps c.args.model.now c.args.marks.now c.args.s) _ c.loop-c.c (omega arith) c.loop-c.invariant
