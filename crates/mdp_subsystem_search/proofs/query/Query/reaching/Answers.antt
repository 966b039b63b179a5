use Rattle.std.proofs.Common.{true≢false, sym, ◌∙◌}
use Rattle.mdp_spec.specs.Mdp.{states_of, value_at}
use Rattle.mdp_math.proofs.Order.{clash_ℚ}
use Rattle.mdp_subsystem_search.specs.Steps.{AreHeld}
use Rattle.mdp_subsystem_search.proofs.Sides.{held_of_side, at_start}
use Rattle.mdp_subsystem_search.proofs.query.Query.reaching.Goals.{else-is_reached-via-then-is_reached+else-holds, else-is_reached-via-else-is_reached}
use Rattle.mdp_subsystem_search.proofs.query.Query.reaching.Goals as goal

pub returns-clause-none : goal.returns-clause-none
returns-clause-none c reaches rules =
    let q = c.args.self.now in
    let side = (c.in_ok-sided.ensures {u = tt}).side in
    let held : AreHeld q.dir c.args.sub.now q.goals.now c.in_ok-sided.sided = held_of_side q.dir c.args.sub.now q.goals.now (states_of q.model.now) c.args.cert c.in_ok-sided.sided side rules in
    elim c.else-is_reached.branch [
      | else-is_reached-via-then-is_reached+else-holds w ↦ true≢false (sym (w.holds.ensures.rules.1 held) ∙ w.if-holds.false)
      | else-is_reached-via-else-is_reached w ↦
          clash_ℚ (value_at c.in_ok-sided.sided.lower.items q.start) q.threshold (c.is_reached.ensures.less w.if-is_reached.false)
          (at_start q.dir (states_of q.model.now) c.args.cert c.in_ok-sided.sided q.start q.threshold side reaches)
    ]
