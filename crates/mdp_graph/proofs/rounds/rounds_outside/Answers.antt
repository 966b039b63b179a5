use Rattle.std.proofs.Common.{map, ap, sym, ◌∙◌, subst, List, Option, ℕ}
use Rattle.mdp_graph.specs.{Choices.{plain_rank}, Rounds.{AreRounds}}
use Rattle.mdp_graph.proofs.rounds.rounds_outside.Goals as goal

pub returns : goal.returns
returns c =
    subst (λ (x : List ℕ). AreRounds c.args.model.now c.args.goals.now x)
    (sym (c.in_ok-plain_ranks.ensures ∙ ap (λ (x : List (Option ℕ)). map plain_rank x) c.deref.ensures.value)) c.in_ok-falling_rounds.ensures
