use Rattle.std.proofs.Common.{ℕ, List, [], get_or, arith, ap, ◌∙◌}
use Rattle.std.specs.Global.{Vec}
use Rattle.mdp_rows.proofs.{Flat.Choices.{name_at}, Flat.StateLabels.{names_len, names_are}}
use Rattle.mdp_rows.proofs.state_labels.StateLabels.name.Goals as goal

pub index-requires : goal.index-requires
index-requires c = let n = names_len _ _ c.self.view_is in omega (arith, n, c.requires)

pub returns : goal.returns
returns c =
    let n = names_len _ _ c.self.view_is in
    c.deref.ensures.value ∙ ap (λ (v : Vec ℕ). v.items) c.index.ensures ∙ name_at c.self.inside.names.items c.args.l c.index.result.now (omega (arith, n, c.requires))
    ∙ ap (λ (l : List (List ℕ)). get_or l c.args.l []) (names_are _ _ c.self.view_is)
