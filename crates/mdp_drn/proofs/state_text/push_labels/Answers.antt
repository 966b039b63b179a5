use Rattle.mdp_spec.specs.Mdp.{state_at}
use Rattle.mdp_drn.proofs.{TextWritten.Appending.{appending-done, appending-more, front-more}, TextWritten.TextsLeft.{label-known, labels-end, labels-more}}
use Rattle.mdp_drn.proofs.state_text.push_labels.Goals as goal

pub label_name-requires : goal.label_name-requires
label_name-requires c = label-known c.args.model.now c.known.ensures.model c.args.s c.requires _ c.labels_of-places.ensures c.loop-i.i c.loop-i-test.true

pub loop-i-preserved : goal.loop-i-preserved
loop-i-preserved c =
    let more = labels-more c.args.model.now.labels (state_at c.args.model.now c.args.s).labels _ _ c.loop-i.i c.labels_of-places.ensures c.loop-i-test.true c.label_name.ensures in
    appending-more _ _ _ _ _ _ _ c.loop-i.invariant more c.in_ok-push_quoted.ensures.text c.push_quoted.ensures.front

pub returns-clause-text : goal.returns-clause-text
returns-clause-text c =
    appending-done _ _ _ _ c.loop-i.invariant (labels-end c.args.model.now.labels (state_at c.args.model.now c.args.s).labels _ c.loop-i.i c.labels_of-places.ensures c.loop-i-test.false)

pub returns-in_err-push_quoted-clause-front : goal.returns-in_err-push_quoted-clause-front
returns-in_err-push_quoted-clause-front c = front-more _ _ _ c.loop-i.invariant.front c.push_quoted.ensures.front
