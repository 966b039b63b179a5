use Rattle.std.proofs.Common.{List, ℕ, [], length, get_or, ap, ◌∙◌, arith}
use Rattle.mdp_rows.proofs.Flat.Models.{names_are}
use Rattle.mdp_rows.proofs.model.Model.name.Goals as goal

pub name-requires : goal.name-requires
name-requires c = let n = ap length (names_are _ _ c.self.view_is) in omega (arith, n, c.requires)

pub returns : goal.returns
returns c = c.name.ensures ∙ ap (λ (l : List (List ℕ)). get_or l c.args.m []) (names_are _ _ c.self.view_is)
