use Rattle.std.proofs.{Common.{sym, ◌∙◌, arith}, lemmas.Bool.{false≢true}}
use Rattle.mdp_parts.proofs.Gathering.{same_region, region_as, grown_both, row_stays, closed_more, closed_next, closed_all}
use Rattle.mdp_parts.proofs.region.Region.add_targets.Goals.{then-at+in_ok-add_each, else-at}
use Rattle.mdp_parts.proofs.region.Region.add_targets.Goals as goal

pub loop-c-init : goal.loop-c-init
loop-c-init c = record { region = c.requires.region; grown = same_region _ _; closed = λ d l k e. absurd (omega (arith, l)) }

pub loop-c-preserved : goal.loop-c-preserved
loop-c-preserved c =
    let m = c.args.model.now in
    let a = c.loop-c.invariant in
    elim c.if-at.branch [
      | then-at+in_ok-add_each w ↦
          rw w.self-is
          (record {
            region = region_as _ _ _ _ a.region.count w.in_ok-add_each.ensures.region;
            grown = grown_both _ _ _ _ _ _ a.grown w.in_ok-add_each.ensures.grown;
            closed = closed_next m c.args.allowed.now _ c.args.s c.loop-c.c
                (closed_more m c.known.ensures.mdp c.args.allowed.now _ _ c.args.s c.loop-c.c c.requires.state w.in_ok-add_each.ensures.grown.kept a.closed)
                (λ e. row_stays m _ c.args.s c.loop-c.c w.row.result.targets.now w.row.result.probs.now
                w.row.result.same_length w.row.ensures.row w.in_ok-add_each.ensures.added);
          })
      | else-at w ↦
          rw w.self-is
          (record {
            region = a.region;
            grown = a.grown;
            closed = closed_next m c.args.allowed.now _ c.args.s c.loop-c.c a.closed (λ e. absurd (false≢true (sym w.if-at.false ∙ c.at.ensures ∙ e)));
          })
    ]

pub returns-clause-closed : goal.returns-clause-closed
returns-clause-closed c _ = closed_all c.args.model.now c.args.allowed.now _ c.args.s c.loop-c.c c.loop-c.invariant.closed (omega arith)
