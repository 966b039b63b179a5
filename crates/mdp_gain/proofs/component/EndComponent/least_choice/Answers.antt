use Rattle.std.proofs.Common.{sym, ◌∙◌, arith, ℕ}
use Rattle.mdp_unichain.specs.Component.{choice_at}
use Rattle.mdp_gain.specs.Code.{component_in}
use Rattle.mdp_graph.proofs.Collecting.{find_found, find_none, none_more}
use Rattle.mdp_gain.proofs.component.EndComponent.least_choice.Goals as goal

pub loop-c-init : goal.loop-c-init
loop-c-init c = λ k l. absurd (omega arith)

pub loop-c-preserved : goal.loop-c-preserved
loop-c-preserved c = none_more (λ (d : ℕ). (choice_at (component_in c.args.self.now) c.args.s d).inner) c.loop-c.c c.loop-c.invariant (sym c.is_inner.ensures ∙ c.if-is_inner.false)

pub returns-then-is_inner : goal.returns-then-is_inner
returns-then-is_inner c = find_found (λ (d : ℕ). (choice_at (component_in c.args.self.now) c.args.s d).inner) _ c.loop-c.c (omega arith) c.loop-c.invariant (sym c.is_inner.ensures ∙ c.if-is_inner.true)

pub returns : goal.returns
returns c = find_none (λ (d : ℕ). (choice_at (component_in c.args.self.now) c.args.s d).inner) _ c.loop-c.c (omega arith) c.loop-c.invariant
