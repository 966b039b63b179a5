use Rattle.std.proofs.Common.{length, ap, sym, ◌∙◌, arith, length-append, ◌∷◌, []}
use Rattle.mdp_rows.proofs.{Flat.Labels.{names_are}, Flat.Names.{same_count, seen_before, never_seen}}
use Rattle.mdp_rows.proofs.labels.Labels.names_with.Goals as goal

pub returns-in-Some : goal.returns-in-Some
returns-in-Some c =
    let n = names_are _ _ c.self.view_is in
    let s = ap length (seen_before c.self.inside.names.keys _ c.args.name.now n _ (sym c.get_index_of.ensures.index ∙ c.in-Some.is)).1 in
    let k = same_count c.self.inside.names.keys _ c.args.name.now n in
    omega (arith, c.len-count.ensures.len)

pub returns-in-None : goal.returns-in-None
returns-in-None c =
    let n = names_are _ _ c.self.view_is in
    let s = ap length (never_seen c.self.inside.names.keys _ c.args.name.now n (sym c.get_index_of.ensures.index ∙ c.in-None.is)) in
    let k = same_count c.self.inside.names.keys _ c.args.name.now n in
    omega (arith, c.len-count.ensures.len, s ∙ length-append c.args.self.now.names (c.args.name.now ∷ []))
