use Rattle.std.proofs.Common.{ℕ, ◌<◌, get_or, arith, sym, subst}
use Rattle.mdp_math.proofs.{Laws.{den-pos}, Lcm.{lcm-pos}}
use Rattle.mdp_rows.proofs.row.Row.denominators.Goals as goal

pub loop-i-init : goal.loop-i-init
loop-i-init g c = (omega arith, subst (λ (n : ℕ). 0 < n) (sym c.in_ok-others.ensures.value) (lcm-pos 1 _ (omega arith) (den-pos c.args.start.now)))

pub loop-i-preserved : goal.loop-i-preserved
loop-i-preserved g c = (
  subst (λ (n : ℕ). 0 < n) (sym c.in_ok-probs.ensures.value) (lcm-pos _ _ c.loop-i.invariant.0 (den-pos (get_or c.args.self.probs.now c.loop-i.i c.index-self-i.result))),
  subst (λ (n : ℕ). 0 < n) (sym c.in_ok-others-2.ensures.value) (lcm-pos _ _ c.loop-i.invariant.1 (den-pos c.value_of.result)),
)
