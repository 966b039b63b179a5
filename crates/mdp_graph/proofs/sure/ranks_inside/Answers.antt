use Rattle.std.proofs.{Common.{◌≡◌, ◌<◌, ℕ, ap, ◌∙◌, not, ◌&&◌, Bool, List, false, arith, length}, lemmas.List.{get_or-replicate, length-replicate}}
use Rattle.mdp_spec.specs.Mdp.{states_of}
use Rattle.mdp_graph.specs.{Sets.{marked}, Edges.{has_edge, has_choice_to}, Sure.{inside_step}}
use Rattle.mdp_graph.proofs.{Reached.{ranked}, StepsInside.{inside_leads, inside_follows}}
use Rattle.mdp_graph.proofs.sure.ranks_inside.Goals as goal

pub returns : goal.returns
returns c =
    let m = c.args.model.now in
    let inside = c.args.inside.now in
    let found = c.in_ok-ranks_along.ensures in
    let are : (s t : ℕ) → s < states_of m → t < states_of m → has_edge found.edges s t ≡ has_choice_to m inside s t =
    λ s t hs ht. found.leading s t hs ht
    ∙ ap (λ b. not b && has_choice_to m inside s t) (ap (λ (x : List Bool). marked x s) c.in_ok-none.ensures ∙ get_or-replicate c.states.result s false false (omega (arith, c.states.ensures))) in
    ranked (inside_step m (marked inside)) (marked c.args.goals.now) (states_of m) found.edges c.in_ok-ranks_along.field-0.items found.by_edges
    (inside_leads m c.known.ensures.mdp inside found.edges are) (inside_follows m c.known.ensures.mdp inside found.edges are)

pub ranks_along-requires-clause-blocked : goal.ranks_along-requires-clause-blocked
ranks_along-requires-clause-blocked c = ap length c.in_ok-none.ensures ∙ length-replicate c.states.result false ∙ c.states.ensures
