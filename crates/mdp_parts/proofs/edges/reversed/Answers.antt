use Rattle.std.proofs.{Common.{◌<◌, sym, ap, ◌∙◌, arith, get_or, length, [], ℕ, List, ◌||◌, ◌&&◌, ◌==◌, subst}, lemmas.List.{length-replicate}}
use Rattle.std.proofs.lemmas.Result.{IfOk-weaker}
use Rattle.mdp_rows.specs.Preds.{is_among}
use Rattle.mdp_graph.specs.Edges.{has_edge}
use Rattle.mdp_graph.proofs.{Among.{below-all}, EdgeFacts.{nothing_before, state_added}}
use Rattle.mdp_parts.specs.Targets.{AreReversed}
use Rattle.mdp_parts.proofs.TargetFacts.{reversed_are}
use Rattle.mdp_parts.proofs.edges.reversed.Goals as goal

pub loop-s-init : goal.loop-s-init
loop-s-init c = rw (c.none-back.ensures) (nothing_before _ (λ x t. is_among t (get_or c.args.edges.now x [])))

pub loop-s-preserved : goal.loop-s-preserved
loop-s-preserved c =
    state_added c.loop-s.s (λ x t. is_among t (get_or c.args.edges.now x [])) _ c.loop-s.back _ c.loop-s.invariant
    (record {
      count = c.in_ok-push_row.ensures.length;
      at = λ x t h.
          c.in_ok-push_row.ensures.added x t h
          ∙ ap (λ (ys : List ℕ). has_edge c.loop-s.back x t || ((c.loop-s.s == x) && is_among t ys)) c.of.ensures;
    })

pub push_row-requires : goal.push_row-requires
push_row-requires c =
    let empty : List ℕ = [] in
    record {
      in_range =
          below-all (length c.loop-s.back) c.of.result.now
          (λ t e. (let l : t < c.args.states = c.requires.edges.below t c.loop-s.s (omega arith) (ap (is_among t) (sym c.of.ensures) ∙ e) in
          omega (arith, l, c.loop-s.invariant.count, length-replicate c.args.states empty)));
    }

pub returns : goal.returns
returns c =
    IfOk-weaker c.sorted.result _ (λ (back : List (List ℕ)). AreReversed c.args.edges.now back)
    (λ back e. subst (λ (x : List (List ℕ)). AreReversed c.args.edges.now x) (sym e)
    (reversed_are c.args.edges.now _ c.args.states c.loop-s.s c.requires.states c.loop-s.invariant (omega arith))) c.sorted.ensures
