-- The line of a drill, by computation.
use Rattle.std.proofs.{Common.{◌≡◌, ℕ, List, [], ◌∷◌, ◌++◌, Some, codes, decimal, lit<, pos, refl, ap, ◌∙◌, arith}, lemmas.Fmt.{decimal_digit, decimal_step}}
use Rattle.mdp_math.specs.{Gcd.{gcd, gcd_with_fuel}, Rational.{of_int, ratio}}
use Rattle.mdp_num.specs.Value.{spelling}
use Rattle.mdp_spec.specs.Labels.{place_of}
use Rattle.mdp_gen.specs.Layered.{of_states}
use Rattle.mdp_command_solve.specs.DrillDue.{goal_place, drill_text}

-- the second label of a layered model is that of the goal
goal-found : place_of (codes "goal") (of_states []).labels ≡ Some goal_place
goal-found = refl

ten : decimal 10 ≡ codes "10"
ten = decimal_step 10 (omega arith) (lit< tt) ∙ ap (λ (d : List ℕ). d ++ 48 ∷ []) (decimal_digit 1 (lit< tt))

-- two layers of two states have 6 states and 10 choices
small : drill_text 7 2 2 6 10 (ratio (pos 1) 2) ≡ codes "drill 7 2 2 states 6 choices 10 value 1/2 yes\n"
unfolding spelling ratio of_int gcd gcd_with_fuel
small = simp (decimal_digit 1 (lit< tt), decimal_digit 2 (lit< tt), decimal_digit 6 (lit< tt), decimal_digit 7 (lit< tt), ten)
