use Rattle.std.proofs.{Common.{◌≡◌, ◌<◌, ℕ, None, cond, List, Bool, map, is_none, ap, subst, ◌∙◌, arith, length}, lemmas.List.{length-map}}
use Rattle.mdp_spec.specs.Mdp.{states_of}
use Rattle.mdp_graph.specs.{Sets.{marked}, Layers.{rank_at, AreReached}, Reach.{may_step}}
use Rattle.mdp_graph.proofs.{Avoiding.{avoid_marks}, Dropping.{sure_marks, sure_ranks}}
use Rattle.mdp_graph.proofs.always.sure_ranks.Goals as goal

pub returns : goal.returns
returns c =
    let m = c.args.model.now in
    let goals = c.args.goals.now in
    let ranks = c.in_ok-ranks.ranks.items in
    let marks = c.in_ok-reaching.reaching.marks in
    let new = c.drop_ranks.new.ranks.items in
    let r : AreReached (may_step m goals) (marked (map is_none ranks)) (states_of m) marks =
    subst (λ (x : List Bool). AreReached (may_step m goals) (marked x) (states_of m) marks) (c.in_ok-avoiding.ensures ∙ ap (map is_none) c.deref.ensures.value) c.in_ok-reaching.ensures.marks in
    let left : (s : ℕ) → s < states_of m → rank_at new s ≡ cond (marked marks s) None (rank_at ranks s) = λ s h. c.drop_ranks.ensures.left s (omega (arith, h, c.states.ensures)) in
    let count = c.drop_ranks.ensures.count ∙ c.states.ensures in
    record {
      count = count;
      sure = (map is_none ranks, avoid_marks m c.known.ensures.mdp goals ranks c.in_ok-ranks.ensures, sure_marks m goals ranks c.in_ok-ranks.ensures marks r new count left);
      least = sure_ranks m goals ranks c.in_ok-ranks.ensures marks r new count left;
    }

pub may_reach-requires-clause-target : goal.may_reach-requires-clause-target
may_reach-requires-clause-target c =
    ap length (c.in_ok-avoiding.ensures ∙ ap (map is_none) c.deref.ensures.value) ∙ length-map c.in_ok-ranks.ranks.items is_none ∙ c.in_ok-ranks.ensures.count
