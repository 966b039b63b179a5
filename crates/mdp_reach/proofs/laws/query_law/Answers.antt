use Rattle.mdp_reach.proofs.{OneEnd.{one_query_end, one_round_end}, Answering.{answer-meets, answers_are_greatest, answers_are_least}}
use Rattle.mdp_reach.proofs.AnEnd.{has_an_end, has_a_round}
use Rattle.mdp_reach.proofs.laws.query_law.Goals as goal

pub returns-clause-one_end : goal.returns-clause-one_end
returns-clause-one_end c dir m goals r q a b = one_query_end dir m goals r q a b

pub returns-clause-ends : goal.returns-clause-ends
returns-clause-ends c =
    has_an_end c.path_law.ensures.one_end c.path_law.ensures.best c.reach_law.ensures.rest c.along_law.ensures.falls c.along_law.ensures.rest c.meet_law.ensures.rest c.avoid_law.ensures.rest

pub returns-clause-round : goal.returns-clause-round
returns-clause-round c = has_a_round (returns-clause-ends c)

pub returns-clause-one_round : goal.returns-clause-one_round
returns-clause-one_round c dir m goals n k r q a b = one_round_end dir m goals r q n k a b

pub returns-clause-rules : goal.returns-clause-rules
returns-clause-rules c dir m goals a model end =
    answer-meets dir m goals a model c.path_law.ensures.best c.reach_law.ensures.rest c.along_law.ensures.falls c.along_law.ensures.rest c.meet_law.ensures.rest c.avoid_law.ensures.rest end

pub returns-clause-max : goal.returns-clause-max
returns-clause-max c =
    answers_are_greatest (λ dir m goals a model end.
    answer-meets dir m goals a model c.path_law.ensures.best c.reach_law.ensures.rest c.along_law.ensures.falls c.along_law.ensures.rest c.meet_law.ensures.rest c.avoid_law.ensures.rest end)

pub returns-clause-min : goal.returns-clause-min
returns-clause-min c =
    answers_are_least (λ dir m goals a model end.
    answer-meets dir m goals a model c.path_law.ensures.best c.reach_law.ensures.rest c.along_law.ensures.falls c.along_law.ensures.rest c.meet_law.ensures.rest c.avoid_law.ensures.rest end)
