use Rattle.std.proofs.Common.{ap, sym, ◌∙◌}
use Rattle.mdp_bounds.specs.Reach.{covering}
use Rattle.mdp_rows.specs.declared.dir.Dir.{Dir}
use Rattle.mdp_bounds.proofs.reach.ReachBoundsClaim.follows.Goals as goal

pub returns : goal.returns
returns c = rw (sym (c.covering.ensures.values ∙ ap (λ (d : Dir). covering d c.args.self.lower.now c.args.self.upper.now) c.reversed.ensures)) c.on_policy.ensures
