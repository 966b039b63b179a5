use Rattle.std.proofs.Common.{refl}
use Rattle.mdp_checker.proofs.Running.{words_decided, check_decided}
use Rattle.mdp_checker.proofs.run.answer_to_words.Goals as goal

pub returns-in-Err : goal.returns-in-Err
returns-in-Err g c = words_decided _ c.in-Err.error _ _ c.in-Err.ensures refl refl

pub returns-in-Ok : goal.returns-in-Ok
returns-in-Ok g c =
    check_decided _ c.in-Ok.rule _ _ _ c.in-Ok.ensures c.check_files.ensures.read c.check_files.ensures.unread c.check_files.ensures.model_end c.check_files.ensures.second_end
