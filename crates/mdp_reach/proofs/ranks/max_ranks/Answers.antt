use Rattle.std.proofs.Common.{◌∙◌, ℕ, sym, subst}
use Rattle.mdp_spec.specs.Tree.{is_marked}
use Rattle.mdp_rows.proofs.Queries.Policies.{rows-len}
use Rattle.mdp_graph.specs.{Layers.{AreReached, AreLeastRanks}, Reach.{row_step}}
use Rattle.mdp_reach.specs.Query.{policy_rows}
use Rattle.mdp_reach.proofs.ranks.max_ranks.Goals as goal

pub along-requires : goal.along-requires
along-requires c = record { target = c.requires.goals ∙ sym (rows-len c.args.model.now c.args.policy.now) }

pub returns : goal.returns
returns c =
    let m = c.args.model.now in
    let n = rows-len m c.args.policy.now in
    let e = c.in_ok-pass.ensures {u = tt} in
    record {
      marks = c.in_ok-pass.pass.marks;
      reached = subst (λ (k : ℕ). AreReached (row_step (policy_rows m c.args.policy.now)) (is_marked c.args.goals.now) k c.in_ok-pass.pass.marks) n e.marks;
      least = subst (λ (k : ℕ). AreLeastRanks (row_step (policy_rows m c.args.policy.now)) (is_marked c.args.goals.now) k c.in_ok-pass.pass.marks c.in_ok-pass.pass.ranks.items) n e.ranks;
    }
