use Rattle.std.proofs.{Common.{refl}, lemmas.Result.{err_from_is_err_and}}
use Rattle.mdp_command.proofs.{Working.{pair_refused, second_refused, pair_worked}, Ends.{second_unread}}
use Rattle.mdp_command.specs.Streams.{input}
use Rattle.mdp_app.proofs.tasks.on_pair.Goals as goal

pub returns-in_err-model-clause-read : goal.returns-in_err-model-clause-read
returns-in_err-model-clause-read g c =
    let p = err_from_is_err_and c.from_residual.result c.from_residual.ensures.1 in
    rw (p.1, p.2) (pair_refused _ _ _ _ _ _ refl (c.in_err-model.ensures {u = tt}).read)

pub returns-in_err-model-clause-second_end : goal.returns-in_err-model-clause-second_end
returns-in_err-model-clause-second_end g c =
    let p = err_from_is_err_and c.from_residual.result c.from_residual.ensures.1 in
    rw (p.1, p.2) (second_unread c.args.rule (input g.S.Source.left g.S.Source.faults c.args.model.now c.read_model.new.source)
    (input g.C.Source.left g.C.Source.faults c.args.second.now c.args.second.now) _ (c.in_err-model.ensures {u = tt}).read)

pub returns-in_err-bytes-clause-read : goal.returns-in_err-bytes-clause-read
returns-in_err-bytes-clause-read g c =
    let p = err_from_is_err_and c.from_residual-in_err-bytes.result c.from_residual-in_err-bytes.ensures.1 in
    rw (p.1, p.2) (second_refused _ _ _ _ _ _ (c.in_ok-model.ensures {u = tt}).read _ (c.in_err-bytes.ensures {u = tt}).read)

pub returns-in_err-bytes-clause-unread : goal.returns-in_err-bytes-clause-unread
returns-in_err-bytes-clause-unread g c =
    let p = err_from_is_err_and c.from_residual-in_err-bytes.result c.from_residual-in_err-bytes.ensures.1 in
    rw (p.1, p.2) (λ h. cc (h, (c.in_err-bytes.ensures {u = tt}).not_of_model))

pub returns-in_err-bytes-clause-second_end : goal.returns-in_err-bytes-clause-second_end
returns-in_err-bytes-clause-second_end g c =
    let p = err_from_is_err_and c.from_residual-in_err-bytes.result c.from_residual-in_err-bytes.ensures.1 in
    rw (p.1, p.2) (λ other. (c.in_err-bytes.ensures {u = tt}).end)

pub returns-clause-read : goal.returns-clause-read
returns-clause-read g c =
    pair_worked _ _ _ _ _ _ (c.in_ok-model.ensures {u = tt}).read _ _ _ c.deref.ensures.value (c.in_ok-bytes.ensures {u = tt}).read c.answer_to_pair.ensures.due c.answer_to_pair.ensures.printed
