use Rattle.std.specs.{List.{All}, Prelude.{slice_index}}
use Rattle.std.proofs.{Common.{◌<◌, ◌∷◌, [], List, ℕ, map, ap, ap₂, ◌∙◌, subst, sym}, lemmas.List.{take_all, map-append}}
use Rattle.mdp_spec.specs.Mdp.{Entry}
use Rattle.mdp_rows.specs.{Preds.{pair}, declared.preds.Pred.{Pred}, declared.row.Row.{Row}}
use Rattle.mdp_ends.specs.Quotient.{merged, node_row}
use Rattle.mdp_graph.proofs.Collecting.{mapped}
use Rattle.mdp_quot.specs.{QuotientView.{row_in}, Sums.{IsClear}}
use Rattle.mdp_quot.proofs.build.exit_rows.Goals as goal

pub loop-exit-init : goal.loop-exit-init
loop-exit-init c = (ap (λ (rs : List Row). map row_in rs) c.in_ok-rows.ensures.items, c.requires.clear)

pub loop-exit-preserved : goal.loop-exit-preserved
loop-exit-preserved c =
    let node = slice_index c.args.nodes.now in
    let count = c.loop-exit.invariant.1.count in (
      mapped (λ (x : Pred). node_row c.args.model.now c.args.nodes.now x.state x.choice) c.args.exits.now c.loop-exit.exit-index (pair 0 0)
          (map row_in c.loop-exit.rows.items) _ (row_in c.in_ok-merge.field-0) c.loop-exit.invariant.0
          (ap (λ (rs : List Row). map row_in rs) c.in_ok-push.ensures.items ∙ map-append row_in c.loop-exit.rows.items (c.in_ok-merge.field-0 ∷ [])) c.loop-exit-test.true
          (c.in_ok-merge.ensures.row ∙ ap₂ (λ (n : ℕ) (row : List Entry). merged n node row) count c.row-row.ensures.row),
      subst (λ (n : ℕ). IsClear n c.merge.new.self.sums.items c.merge.new.self.seen.items) count c.in_ok-merge.ensures.clear,
    )

pub returns : goal.returns
returns c = record {
  rows = c.loop-exit.invariant.0
      ∙ ap (λ (xs : List Pred). map (λ (x : Pred). node_row c.args.model.now c.args.nodes.now x.state x.choice) xs) (take_all c.loop-exit.exit-index c.args.exits.now c.loop-exit-test.false);
  clear = c.loop-exit.invariant.1;
}

pub merge-requires-clause-nodes : goal.merge-requires-clause-nodes
merge-requires-clause-nodes c = subst (λ n. All (λ q. q < n) c.args.nodes.now) (sym c.loop-exit.invariant.1.count) c.requires.below

pub merge-requires-clause-targets : goal.merge-requires-clause-targets
merge-requires-clause-targets c = subst (λ n. All (λ t. t < n) c.row-row.result.targets.now) (sym c.requires.nodes) c.row-row.ensures.in_range
