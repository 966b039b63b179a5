use Rattle.std.proofs.{Common.{subst, ℕ, length, Vec, Option, Global}, lemmas.Result.{IfOk-weaker}}
use Rattle.mdp_graph.specs.{Sets.{marked}, Reach.{row_step}, Ranking.{AreRankedBy}}
use Rattle.mdp_graph.proofs.{Reached.{ranked}, Steps.{row_leads, row_follows}}
use Rattle.mdp_graph.proofs.reach.row_ranks.Goals as goal

pub returns : goal.returns
returns g c = IfOk-weaker c.ranks_by.result _ _ (λ (ranks : Vec (Option ℕ) Global) are.
    (let rows = g.R.RowsOf.rows c.args.rows.now in
    let edges = c.in_ok-preds.preds in
    let by : AreRankedBy edges (marked c.args.target.now) (length rows) ranks.items = subst (λ (n : ℕ). AreRankedBy edges (marked c.args.target.now) n ranks.items) c.count.ensures are in
    ranked (row_step rows) (marked c.args.target.now) (length rows) edges ranks.items by (row_leads rows c.known.ensures edges c.in_ok-preds.ensures.leads)
    (row_follows rows c.known.ensures edges c.in_ok-preds.ensures.leads))) c.ranks_by.ensures
