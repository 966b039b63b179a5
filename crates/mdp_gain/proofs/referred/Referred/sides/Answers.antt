use Rattle.std.proofs.Common.{◌∙◌, ◌∷◌, [], List, length, map, ap, ap₂}
use Rattle.mdp_math.specs.Rational.{ℚ}
use Rattle.mdp_gain.proofs.referred.Referred.sides.Goals as goal

pub returns-clause-count : goal.returns-clause-count
returns-clause-count c = ap length (c.in_ok-sides.ensures {u = tt}).items

pub returns-clause-columns : goal.returns-clause-columns
returns-clause-columns c =
    ap (map (λ x. x.items)) (c.in_ok-sides.ensures {u = tt}).items ∙ ap₂ (λ (a b : List ℚ). a ∷ b ∷ []) (c.in_ok-rewards.ensures {u = tt}) (c.in_ok-steps.ensures {u = tt})
