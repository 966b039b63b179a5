use Rattle.std.proofs.{Common.{subst, ℕ, Vec, Option, Global}, lemmas.Result.{IfOk-weaker}}
use Rattle.mdp_graph.specs.{Sets.{marked}, Ranking.{AreRankedBy, AreRanksAlong}}
use Rattle.mdp_graph.proofs.reach.ranks_along.Goals as goal

pub returns : goal.returns
returns c =
    IfOk-weaker c.ranks_by.result _ (λ (ranks : Vec (Option ℕ) Global). AreRanksAlong c.args.model.now c.args.inside.now c.args.blocked.now c.args.target.now ranks.items)
    (λ ranks are. record {
      edges = c.in_ok-preds.preds;
      leading = c.in_ok-preds.ensures.leads;
      by_edges = subst (λ (n : ℕ). AreRankedBy c.in_ok-preds.preds (marked c.args.target.now) n ranks.items) c.states.ensures are;
    }) c.ranks_by.ensures
