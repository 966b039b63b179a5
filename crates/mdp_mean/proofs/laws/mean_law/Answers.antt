use Rattle.mdp_rows.specs.declared.dir.Dir.TheVariants.{Max, Min}
use Rattle.mdp_mean.proofs.{OneEnd.{one_query_end}, Joinings.{joining-ends, answer-joined}, Certified.{joined-meets, answer-meets, answer-max, answer-min}}
use Rattle.mdp_mean.proofs.HasEnd.{query_end}
use Rattle.mdp_mean.proofs.laws.mean_law.Goals as goal

pub returns-clause-one_end : goal.returns-clause-one_end
returns-clause-one_end c dir m r p q has e f = one_query_end dir m r p q c.exits_law.ensures.longest_once c.exits_law.ensures.outer_once has c.gain_law.ensures.one_end e f

pub returns-clause-joins : goal.returns-clause-joins
returns-clause-joins c = joining-ends

pub returns-clause-joined : goal.returns-clause-joined
returns-clause-joined c dir m r j y has is made = joined-meets dir m r has c.gain_law.ensures.best c.exits_law.ensures.longest c.exits_law.ensures.best j y is made

pub returns-clause-made : goal.returns-clause-made
returns-clause-made c = answer-joined

pub returns-clause-ends : goal.returns-clause-ends
returns-clause-ends c dir m r has =
    query_end dir m r has c.never_no_law.ensures.mean
    (λ d n k j y h is made. joined-meets d n k h c.gain_law.ensures.best c.exits_law.ensures.longest c.exits_law.ensures.best j y is made) c.exits_law.ensures.longest_ends
    c.exits_law.ensures.outer_ends c.gain_law.ensures.one_end

pub returns-clause-rules : goal.returns-clause-rules
returns-clause-rules c dir m r a has e = answer-meets dir m r has c.gain_law.ensures.best c.exits_law.ensures.longest c.exits_law.ensures.best a e

pub returns-clause-max : goal.returns-clause-max
returns-clause-max c m r a has e = answer-max m r a has (answer-meets Max m r has c.gain_law.ensures.best c.exits_law.ensures.longest c.exits_law.ensures.best a e)

pub returns-clause-min : goal.returns-clause-min
returns-clause-min c m r a has e = answer-min m r a has (answer-meets Min m r has c.gain_law.ensures.best c.exits_law.ensures.longest c.exits_law.ensures.best a e)
