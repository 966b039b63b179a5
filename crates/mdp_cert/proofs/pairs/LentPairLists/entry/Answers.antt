use Rattle.std.proofs.{Common.{rules}, lemmas.List.{get_or_default}}
use Rattle.mdp_cert.proofs.WordByWord.{inside, pair-at}
use Rattle.mdp_cert.proofs.pairs.LentPairLists.entry.Goals as goal

pub offset_bounds-self-state : goal.offset_bounds-self-state
offset_bounds-self-state g c = let lt = (inside c.args.self.now.first.now (g.L.Lists.entries c.args.self.now.others) c.args.state c.requires).0 in search (rules, lt)

pub bounds-self-state : goal.bounds-self-state
bounds-self-state g c = (inside c.args.self.now.first.now (g.L.Lists.entries c.args.self.now.others) c.args.state c.requires).0

pub entry-requires : goal.entry-requires
entry-requires g c = (inside c.args.self.now.first.now (g.L.Lists.entries c.args.self.now.others) c.args.state c.requires).1

pub returns : goal.returns
returns g c =
    let vs = c.args.self.now.first.now in
    let xs = g.L.Lists.entries c.args.self.now.others in
    pair-at vs xs c.args.state _ _ _ c.requires (get_or_default vs c.args.state _ _ (inside vs xs c.args.state c.requires).0) c.entry.ensures
