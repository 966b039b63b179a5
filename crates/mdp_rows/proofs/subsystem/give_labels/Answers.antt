use Rattle.std.proofs.{Common.{[], get_or, sym, subst}, lemmas.List.Elements.{All-get_or}}
use Rattle.mdp_rows.specs.Name.{IsName}
use Rattle.mdp_rows.proofs.CutModels.Handing.{label_known}
use Rattle.mdp_rows.proofs.subsystem.give_labels.Goals as goal

pub label_name-requires : goal.label_name-requires
label_name-requires c = label_known c.args.model.now c.args.s c.loop-i.i 0 _ c.known.ensures.model c.requires.state c.labels_of-places.ensures c.loop-i-test.true

pub label-requires-clause-name : goal.label-requires-clause-name
label-requires-clause-name c =
    let known = label_known c.args.model.now c.args.s c.loop-i.i 0 _ c.known.ensures.model c.requires.state c.labels_of-places.ensures c.loop-i-test.true in
    subst IsName (sym c.label_name.ensures) (All-get_or IsName c.args.model.now.labels (get_or c.labels_of-places.result.now c.loop-i.i 0) [] known c.known.ensures.model.labels)
