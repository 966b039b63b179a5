use Rattle.std.proofs.Common.{◌∙◌, ◌+◌, Ok, sym, ap, arith, ◌≡◌, subst}
use Rattle.mdp_policy_iteration.specs.Places.{up_to}
use Rattle.mdp_policy_iteration.proofs.Answering.{up_to-more}
use Rattle.mdp_unichain.specs.{Component.{count}, Written.{improved_at}}
use Rattle.mdp_gain.specs.{Code.{component_in, values_in}, Policies.{under}}
use Rattle.mdp_gain.proofs.Answering.{up_to-stops}
use Rattle.mdp_gain.proofs.comparison.Valued.improved.Goals as goal

pub loop-s-preserved : goal.loop-s-preserved
loop-s-preserved c =
    let x = c.args.self.now in
    up_to-more (under x.chosen improved_at (values_in x.values.now)) c.loop-s.s (c.loop-s.s + 1) c.loop-s.choices.items c.in_ok-choice.choice c.loop-s.invariant (c.in_ok-choice.ensures {u = tt}) (omega arith)
    ∙ ap Ok (sym (c.in_ok-push.ensures {u = tt}).items)

pub returns-in_err-choice : goal.returns-in_err-choice
returns-in_err-choice c =
    let x = c.args.self.now in
    up_to-stops (under x.chosen improved_at (values_in x.values.now)) c.loop-s.s (count (component_in x.chosen.component)) c.loop-s.choices.items
    c.loop-s.invariant (omega arith) c.improved_at.result c.in_err-choice.field-0.0 c.improved_at.ensures c.in_err-choice.was (λ xs. xs.items) c.from_residual.result c.from_residual.ensures.1

pub returns : goal.returns
returns c =
    let x = c.args.self.now in
    let all : c.loop-s.s ≡ count (component_in x.chosen.component) = omega (arith, c.count-s-end.ensures) in
    subst (λ n. up_to (under x.chosen improved_at (values_in x.values.now)) n ≡ Ok c.loop-s.choices.items) all c.loop-s.invariant
