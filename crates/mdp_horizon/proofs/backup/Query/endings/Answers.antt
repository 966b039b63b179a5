use Rattle.std.proofs.Common.{◌≡◌, ◌∙◌, ℕ, map, subst, arith}
use Rattle.std.specs.List.{range_with_len}
use Rattle.mdp_spec.specs.Mdp.{states_of}
use Rattle.mdp_horizon.specs.{Objective.{ending}, Code.{plain_objective}}
use Rattle.mdp_horizon.proofs.More.{more}
use Rattle.mdp_horizon.proofs.backup.Query.endings.Goals as goal

pub loop-s-preserved : goal.loop-s-preserved
loop-s-preserved c = (c.in_ok-push.ensures {u = tt}).items ∙ more _ c.loop-s.s _ _ c.loop-s.invariant c.ending.ensures

pub returns : goal.returns
returns c =
    let m = c.args.self.model.now in
    let e : c.loop-s.s ≡ states_of m = omega arith in
    subst (λ (n : ℕ). c.loop-s.values.items ≡ map (ending m (plain_objective c.args.self.objective)) (range_with_len 0 n)) e c.loop-s.invariant
