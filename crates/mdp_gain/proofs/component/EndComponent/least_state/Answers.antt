use Rattle.std.proofs.Common.{sym, ◌∙◌, arith}
use Rattle.mdp_unichain.specs.Component.{is_state}
use Rattle.mdp_gain.specs.Code.{component_in}
use Rattle.mdp_graph.proofs.Collecting.{find_found, find_none, none_more}
use Rattle.mdp_gain.proofs.component.EndComponent.least_state.Goals as goal

pub loop-s-init : goal.loop-s-init
loop-s-init c = λ k l. absurd (omega arith)

pub loop-s-preserved : goal.loop-s-preserved
loop-s-preserved c = none_more (is_state (component_in c.args.self.now)) c.loop-s.s c.loop-s.invariant (sym c.holds.ensures ∙ c.if-holds.false)

pub returns-then-holds : goal.returns-then-holds
returns-then-holds c = find_found (is_state (component_in c.args.self.now)) _ c.loop-s.s (omega arith) c.loop-s.invariant (sym c.holds.ensures ∙ c.if-holds.true)

pub returns : goal.returns
returns c = find_none (is_state (component_in c.args.self.now)) _ c.loop-s.s (omega arith) c.loop-s.invariant
