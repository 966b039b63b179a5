use Rattle.mdp_rows.proofs.Calls.Kept.{both_same}
use Rattle.mdp_proposals.proofs.layout.Layout.give_free.Goals as goal

pub loop-c-preserved : goal.loop-c-preserved
loop-c-preserved c =
    let e = c.in_ok-give_free_at.ensures {u = tt} in
    record {
      same = both_same c.args.builder.now c.loop-c.builder c.give_free_at.new.builder c.loop-c.invariant.same e.same;
      state_open = e.state_open;
    }
