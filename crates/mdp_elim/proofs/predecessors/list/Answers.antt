use Rattle.std.proofs.{Common.{◌∙◌, ◌++◌, ◌∷◌, [], ap, ℕ}, lemmas.List.{get_or_default}}
use Rattle.smallvec.specs.SmallVec.{SmallVec}
use Rattle.mdp_elim.specs.Predecessors.{no_states}
use Rattle.mdp_elim.proofs.Lists.{list-more}
use Rattle.mdp_elim.proofs.predecessors.list.Goals as goal

pub returns-clause-more : goal.returns-clause-more
returns-clause-more c =
    list-more c.args.lists.now c.args.v c.args.t c.push.new.self c.requires.state
    ((c.in_ok-push.ensures {u = tt}).ok ∙ ap (λ (l : SmallVec ℕ). l.items ++ c.args.t ∷ []) (get_or_default c.args.lists.now c.args.v c.index-lists-v.result no_states c.requires.state)) c.requires.smaller
