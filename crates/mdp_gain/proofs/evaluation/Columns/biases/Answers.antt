use Rattle.std.proofs.Common.{◌∙◌, ◌+◌, Ok, sym, ap, arith, ◌≡◌, subst}
use Rattle.mdp_policy_iteration.specs.Places.{up_to}
use Rattle.mdp_policy_iteration.proofs.Answering.{up_to-more}
use Rattle.mdp_unichain.specs.Component.{count}
use Rattle.mdp_gain.specs.{Code.{component_in}, Policies.{bias_in}}
use Rattle.mdp_gain.proofs.Answering.{up_to-stops}
use Rattle.mdp_gain.proofs.evaluation.Columns.biases.Goals as goal

pub loop-s-preserved : goal.loop-s-preserved
loop-s-preserved c =
    up_to-more (bias_in c.args.self.now c.args.gain.now) c.loop-s.s (c.loop-s.s + 1) c.loop-s.biases.items c.in_ok-bias.bias c.loop-s.invariant (c.in_ok-bias.ensures {u = tt}) (omega arith)
    ∙ ap Ok (sym (c.in_ok-push.ensures {u = tt}).items)

pub returns-in_err-bias : goal.returns-in_err-bias
returns-in_err-bias c =
    up_to-stops (bias_in c.args.self.now c.args.gain.now) c.loop-s.s (count (component_in c.args.self.now.of.chosen.component)) c.loop-s.biases.items c.loop-s.invariant (omega arith)
    c.bias_at.result c.in_err-bias.field-0.0 c.bias_at.ensures c.in_err-bias.was (λ xs. xs.items) c.from_residual.result c.from_residual.ensures.1

pub returns : goal.returns
returns c =
    let all : c.loop-s.s ≡ count (component_in c.args.self.now.of.chosen.component) = omega (arith, c.count-s-end.ensures) in
    subst (λ n. up_to (bias_in c.args.self.now c.args.gain.now) n ≡ Ok c.loop-s.biases.items) all c.loop-s.invariant

pub loop-s-init : goal.loop-s-init
loop-s-init c = ap Ok (sym c.new-biases.ensures.items)
