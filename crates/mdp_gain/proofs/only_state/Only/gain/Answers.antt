use Rattle.std.proofs.Common.{Result, sym, subst}
use Rattle.mdp_math.specs.Rational.{ℚ}
use Rattle.mdp_unichain.specs.Written.{written_values}
use Rattle.mdp_unichain.proofs.Improving.{inner-below}
use Rattle.mdp_gain.specs.{Code.{component_in}, Only.{policy_of, values_of}}
use Rattle.mdp_policy_iteration.specs.{Faults.{Answers}, Errors.{RoundError}}
use Rattle.mdp_gain.proofs.OnlyState.{gain-told}
use Rattle.mdp_gain.proofs.only_state.Only.gain.Goals as goal

pub ratio-requires : goal.ratio-requires
ratio-requires c = inner-below (component_in c.args.self.now.component) c.args.self.now.s c.args.c c.requires

pub returns : goal.returns
returns c =
    let p = component_in c.args.self.now.component in
    subst (λ (r : Result ℚ RoundError). Answers (values_of p) r (written_values p (policy_of p c.args.self.now.s c.args.c) c.args.self.now.s)) (sym c.at_evaluation.ensures)
    (gain-told p c.args.self.now.s c.args.self.now.only c.args.c c.ratio.result c.ratio.ensures)
