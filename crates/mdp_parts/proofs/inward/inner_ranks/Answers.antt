use Rattle.std.proofs.{Common.{ℕ, Vec, Option, Global}, lemmas.Result.{IfOk-weaker}}
use Rattle.mdp_spec.specs.Mdp.{states_of}
use Rattle.mdp_graph.specs.{Sets.{marked}, Layers.{AreRanks}}
use Rattle.mdp_ends.specs.Toward.{inner_step}
use Rattle.mdp_parts.specs.Allowed.{allowed_at}
use Rattle.mdp_parts.proofs.{ComponentsFound.{targets_edges}, InnerPass.{ranks_are}}
use Rattle.mdp_parts.proofs.inward.inner_ranks.Goals as goal

pub reversed-requires-clause-edges : goal.reversed-requires-clause-edges
reversed-requires-clause-edges c = targets_edges c.args.model.now c.known.ensures.mdp (allowed_at c.choices.result.now) c.in_ok-edges.edges c.states.result c.in_ok-edges.ensures c.states.ensures

pub returns : goal.returns
returns c =
    IfOk-weaker c.ranks_by.result _
    (λ (ranks : Vec (Option ℕ) Global). AreRanks (inner_step c.args.model.now c.args.ends.now.parts) (marked c.args.target.now) (states_of c.args.model.now) ranks.items)
    (λ ranks e. ranks_are c.args.model.now c.known.ensures.mdp c.args.ends.now c.requires.ends c.args.target.now c.choices.result.now c.choices.ensures
    c.in_ok-edges.edges c.in_ok-back.back c.in_ok-edges.ensures c.in_ok-back.ensures c.states-2.result c.states-2.ensures ranks.items e) c.ranks_by.ensures
