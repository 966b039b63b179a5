use Rattle.std.proofs.Common.{ap, ◌∙◌, ◌∷◌, ◌++◌, [], List}
use Rattle.mdp_spec.specs.Mdp.{Entry}
use Rattle.mdp_elim.proofs.{Merge.{merge-no_term, merge-no_sum, merge-next}, Finish.{ok_no_err}}
use Rattle.mdp_elim.proofs.entries.merge_entry.Goals as goal

pub returns-in_err-more-clause-wide : goal.returns-in_err-more-clause-wide
returns-in_err-more-clause-wide c = λ _. merge-no_term c.args.times.now c.args.x.now c.args.row.now c.target.result c.factor.result c.target.ensures c.factor.ensures (c.in_err-more.ensures {u = tt})

pub returns-in_err-sum-clause-wide : goal.returns-in_err-sum-clause-wide
returns-in_err-sum-clause-wide c = λ _.
    merge-no_sum c.args.times.now c.args.x.now c.args.row.now c.target.result c.factor.result c.target.ensures c.factor.ensures
    c.in_ok-more.more (c.in_ok-more.ensures {u = tt})
    c.unwrap_or.result c.whole.result c.split_row-split.result.entry c.split_row-split.ensures.entry c.whole.ensures c.unwrap_or.ensures
    (c.in_err-sum.ensures {u = tt})

pub returns-clause-ok : goal.returns-clause-ok
returns-clause-ok c =
    merge-next c.args.times.now c.args.x.now c.args.row.now c.target.result c.factor.result c.target.ensures c.factor.ensures
    c.in_ok-more.more (c.in_ok-more.ensures {u = tt})
    c.unwrap_or.result c.whole.result c.split_row-split.result.entry c.split_row-split.ensures.entry c.whole.ensures c.unwrap_or.ensures
    c.args.sums.now.items c.in_ok-sum.sum c.split_row-split.result.before.now c.split_row-split.result.behind.now c.push.new.self.items c.new.result c.target-2.result
    (c.in_ok-sum.ensures {u = tt}) c.split_row-split.ensures.before c.split_row-split.ensures.behind c.target-2.ensures c.new.ensures
    ((c.in_ok-push.ensures {u = tt}).items ∙ ap (λ (xs : List Entry). xs ++ c.new.result ∷ []) (c.in_ok-extend_from_slice.ensures {u = tt}).items)

pub returns-clause-wide : goal.returns-clause-wide
returns-clause-wide c = λ e. absurd (ok_no_err _ _ e)
