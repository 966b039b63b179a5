use Rattle.std.proofs.lemmas.Result.{err_from_is_err_and}
use Rattle.mdp_gain.specs.{Code.{component_in}, Only.{values_of}}
use Rattle.mdp_policy_iteration.proofs.Answering.{says_of, says_same}
use Rattle.mdp_gain.proofs.{Given.{is-component}, OnlyMakes.{makes-err, values-refused, improved-refused, turn-done, turn-next}}
use Rattle.mdp_gain.proofs.only_state.Only.round.Goals as goal

pub returns-in_err-gain : goal.returns-in_err-gain
returns-in_err-gain c = λ n.
    let p = component_in c.args.self.now.component in
    let e = err_from_is_err_and c.from_residual.result c.from_residual.ensures.1 in
    makes-err p c.args.self.now.s n c.args.c c.from_residual.result e.0 e.1
    (values-refused p c.args.self.now.s c.args.c c.args.self.now.only n e.0
    (says_same e.0 c.in_err-gain.field-0.0 _ e.2 (says_of _ c.gain.result c.in_err-gain.field-0.0 _ c.gain.ensures c.in_err-gain.was)))

pub returns-in_err-next : goal.returns-in_err-next
returns-in_err-next c = λ n.
    let p = component_in c.args.self.now.component in
    let e = err_from_is_err_and c.from_residual-in_err-next.result c.from_residual-in_err-next.ensures.1 in
    makes-err p c.args.self.now.s n c.args.c c.from_residual-in_err-next.result e.0 e.1
    (improved-refused p c.args.self.now.s c.args.c c.args.self.now.only n (values_of p c.in_ok-gain.gain) (c.in_ok-gain.ensures {u = tt}) e.0
    (says_same e.0 c.in_err-next.field-0.0 _ e.2 (says_of _ c.improved.result c.in_err-next.field-0.0 _ c.improved.ensures c.in_err-next.was)))

pub returns-then-next-c : goal.returns-then-next-c
returns-then-next-c c = λ n.
    turn-done (component_in c.args.self.now.component) c.args.self.now.s c.args.c c.args.self.now.only n c.in_ok-gain.gain (c.in_ok-gain.ensures {u = tt}) c.in_ok-next.next (c.in_ok-next.ensures {u = tt})
    c.if-next-c.true

pub returns : goal.returns
returns c = λ n.
    let x = c.args.self.now.component in
    turn-next (component_in x) c.args.self.now.s c.args.c c.args.self.now.only n c.in_ok-gain.gain (c.in_ok-gain.ensures {u = tt}) c.in_ok-next.next (c.in_ok-next.ensures {u = tt})
    (is-component x c.requires.given) c.requires.inner c.if-next-c.false
