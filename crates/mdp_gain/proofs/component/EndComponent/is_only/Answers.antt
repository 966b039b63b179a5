use Rattle.std.proofs.Common.{sym, ◌∙◌, arith}
use Rattle.mdp_gain.specs.{Code.{component_in}, Only.{stays}}
use Rattle.mdp_gain.proofs.Alls.{all_below, not_all_below, each_more}
use Rattle.mdp_gain.proofs.component.EndComponent.is_only.Goals as goal

pub loop-c-init : goal.loop-c-init
loop-c-init c = λ k l. absurd (omega arith)

pub loop-c-preserved : goal.loop-c-preserved
loop-c-preserved c = each_more (stays (component_in c.args.self.now) c.args.s) c.loop-c.c c.loop-c.invariant (sym c.stays.ensures ∙ c.if-not-stays.false)

pub returns-then-not-stays : goal.returns-then-not-stays
returns-then-not-stays c = not_all_below (stays (component_in c.args.self.now) c.args.s) _ c.loop-c.c (omega arith) (sym c.stays.ensures ∙ c.if-not-stays.true)

pub returns : goal.returns
returns c = all_below (stays (component_in c.args.self.now) c.args.s) _ c.loop-c.c (omega arith) c.loop-c.invariant
