use Rattle.std.proofs.Common.{◌≡◌, true, inr, refl, ◌∙◌, subst}
use Rattle.mdp_rows.specs.declared.rule.RowRule.{RowRule}
use Rattle.mdp_drn.specs.{Reading.{outcome}, FromSource.{ReadsAs}}
use Rattle.mdp_drn.proofs.PiecesFed.SourceBytes.{not_more, holds_anyway}
use Rattle.mdp_drn.proofs.from_source.read_from.Goals as goal

pub returns-in-Ok-true-clause-read : goal.returns-in-Ok-true-clause-read
returns-in-Ok-true-clause-read g c is =
    let ended : c.in-Ok-true.field-0 ≡ true = cc in
    let w = c.in-Ok-true.ensures.all ended in
    let same = c.in-Ok-true.ensures.rule ∙ c.fresh-feed.ensures.rule in
    (w.0, w.1, w.2, subst (λ (rule : RowRule). ReadsAs c.finish_feed.result (outcome rule w.0)) same (c.finish_feed.ensures.read w.0 w.3))

pub returns-in-Ok-true-clause-too_long : goal.returns-in-Ok-true-clause-too_long
returns-in-Ok-true-clause-too_long g c =
    let ended : c.in-Ok-true.field-0 ≡ true = cc in
    let w = c.in-Ok-true.ensures.all ended in
    not_more _ _ w.0 c.args.limit w.1 w.2

pub returns-in-Ok-true-clause-long : goal.returns-in-Ok-true-clause-long
returns-in-Ok-true-clause-long g c h = absurd (c.finish_feed.ensures.not_long h)

pub returns-in-Ok-true-clause-fault : goal.returns-in-Ok-true-clause-fault
returns-in-Ok-true-clause-fault g c h = absurd (c.finish_feed.ensures.no_fault h)

pub returns-in-Ok-false-clause-too_long : goal.returns-in-Ok-false-clause-too_long
returns-in-Ok-false-clause-too_long g c = holds_anyway _ _ c.args.limit (inr refl)
