use Rattle.std.proofs.{Common.{[], ◌∙◌, arith}, lemmas.List.{length-replicate}}
use Rattle.mdp_rows.proofs.Queries.Preds.{more_led, states_more, all_led}
use Rattle.mdp_rows.specs.Preds.{choices_of}
use Rattle.mdp_rows.proofs.preds.preds_of.Goals as goal

pub loop-s-preserved : goal.loop-s-preserved
loop-s-preserved c =
    rw (states_more c.args.model.now c.loop-s.s)
    (more_led _ _ c.loop-s.lists.items _ _ (choices_of c.args.model.now c.loop-s.s) c.loop-s.invariant c.in_ok-push_state.ensures.length c.in_ok-push_state.ensures.appended)

pub returns : goal.returns
returns c = all_led _ _ c.loop-s.s c.loop-s.invariant (omega arith)

pub push_state-requires-clause-lists : goal.push_state-requires-clause-lists
push_state-requires-clause-lists c = c.loop-s.invariant.count ∙ length-replicate _ []
