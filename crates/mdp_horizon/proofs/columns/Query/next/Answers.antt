use Rattle.std.proofs.Common.{◌∙◌, ap, arith}
use Rattle.mdp_horizon.specs.{declared.leader.Leader.{Leader}, Columns.{cover_at, follow_at}, Code.{plain_objective}, BoundsCode.{values_of}}
use Rattle.mdp_horizon.proofs.{More.{more}, Ready.{rows_length, rows_at}}
use Rattle.mdp_horizon.proofs.columns.Query.next.Goals as goal

pub bounds-rows-s : goal.bounds-rows-s
bounds-rows-s c =
    let n = rows_length c.args.self.one c.args.self.model.now (plain_objective c.args.self.objective) c.args.rows.now c.requires.rows in
    omega arith

pub follow_at-leader-requires-clause-choices : goal.follow_at-leader-requires-clause-choices
follow_at-leader-requires-clause-choices c =
    rows_at c.args.self.one c.args.self.model.now (plain_objective c.args.self.objective) c.args.rows.now c.loop-s.s c.index-rows-s.result c.requires.rows (omega arith) c.index-rows-s.is

pub cover_at-requires-clause-choices : goal.cover_at-requires-clause-choices
cover_at-requires-clause-choices c =
    rows_at c.args.self.one c.args.self.model.now (plain_objective c.args.self.objective) c.args.rows.now c.loop-s.s c.index-rows-s.result c.requires.rows (omega arith) c.index-rows-s.is

pub loop-s-preserved : goal.loop-s-preserved
loop-s-preserved c =
    let one = c.args.self.one in
    let m = c.args.self.model.now in
    let o = plain_objective c.args.self.objective in
    record {
      covers = c.in_ok-push.ensures ∙ more (cover_at c.args.self.dir one m o (values_of c.args.cover.now)) c.loop-s.s
          (values_of c.loop-s.made.cover) c.cover_at.result c.loop-s.invariant.covers c.cover_at.ensures;
      follows = c.in_ok-push-2.ensures
          ∙ more (λ s. Leader.value (follow_at c.args.self.dir one m o (values_of c.args.follow.now) s)) c.loop-s.s (values_of c.loop-s.made.follow) (Leader.value c.follow_at-leader.result) c.loop-s.invariant.follows
          (ap Leader.value c.follow_at-leader.ensures);
      choices = (c.in_ok-push-3.ensures {u = tt}).items
          ∙ more (λ s. Leader.choice (follow_at c.args.self.dir one m o (values_of c.args.follow.now) s)) c.loop-s.s c.loop-s.made.choices.items (Leader.choice c.follow_at-leader.result) c.loop-s.invariant.choices
          (ap Leader.choice c.follow_at-leader.ensures);
    }
