use Rattle.mdp_reward.proofs.{OneEnd.{one_query_end}, Answering.{pass_laws, answers_meet, answers_are_greatest, answers_are_least}, AnEnd.{has_an_end}}
use Rattle.mdp_reward.proofs.laws.query_law.Goals as goal

pub returns-clause-one_end : goal.returns-clause-one_end
returns-clause-one_end c dir m r goals p q a b = one_query_end dir m r goals p q a b

pub returns-clause-ends : goal.returns-clause-ends
returns-clause-ends c =
    has_an_end c.path_law.ensures.one_end c.path_law.ensures.best
    (pass_laws c.sure_all_law.ensures.stays c.meet_law.ensures.rest c.along_law.ensures.falls c.along_law.ensures.rest c.rounds_law.ensures.fall c.rounds_law.ensures.zero)

pub returns-clause-rules : goal.returns-clause-rules
returns-clause-rules c =
    answers_meet c.path_law.ensures.best
    (pass_laws c.sure_all_law.ensures.stays c.meet_law.ensures.rest c.along_law.ensures.falls c.along_law.ensures.rest c.rounds_law.ensures.fall c.rounds_law.ensures.zero)

pub returns-clause-max : goal.returns-clause-max
returns-clause-max c =
    answers_are_greatest (answers_meet c.path_law.ensures.best
    (pass_laws c.sure_all_law.ensures.stays c.meet_law.ensures.rest c.along_law.ensures.falls c.along_law.ensures.rest c.rounds_law.ensures.fall c.rounds_law.ensures.zero))

pub returns-clause-min : goal.returns-clause-min
returns-clause-min c =
    answers_are_least (answers_meet c.path_law.ensures.best
    (pass_laws c.sure_all_law.ensures.stays c.meet_law.ensures.rest c.along_law.ensures.falls c.along_law.ensures.rest c.rounds_law.ensures.fall c.rounds_law.ensures.zero))
