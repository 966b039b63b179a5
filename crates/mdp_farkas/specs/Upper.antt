-- The rules for upper bounds of the probability to reach a goal: the values are a Farkas certificate (Funke, Jantsch and Baier 2020).
--     rule 3   the value is from 0 to 1
--     rule 4   at a goal it is 1
--     rule 5   at any other state it is at least the sum over each choice's row (Bellman's inequality)
use Rattle.std.specs.{Prelude.{ℕ, Bool, List, [], ◌∷◌, ◌++◌, if◌then◌else◌}, List.{All, flat_map, range_with_len}}
use Rattle.mdp_math.specs.Rational.{ℚ}
use Rattle.mdp_spec.specs.{Mdp.{Mdp, states_of, value_at}, Tree.{is_marked}, Rules.{MeetsUpper}}
use Rattle.mdp_farkas.specs.{Compare.{0ℚ, 1ℚ, is_at_least, is_at_most, is_equal}, Verdict.{Check, InWidth, at_state}, Bellman.{bound_checks}}
use Rattle.mdp_rows.specs.declared.dir.Dir.TheVariants.{Max}
use Rattle.mdp_claims.specs.declared.rule.Rule.TheVariants.{GoalValue, Probability}

-- rule 3
abbrev pub probability_checks : List ℚ → ℕ → List Check
probability_checks z s = at_state Probability s (is_at_least (value_at z s) 0ℚ) ∷ at_state Probability s (is_at_most (value_at z s) 1ℚ) ∷ []

-- rule 4
abbrev pub goal_check : List ℚ → ℕ → Check
goal_check z s = at_state GoalValue s (is_equal (value_at z s) 1ℚ)

-- and rule 5
abbrev pub upper_at : Mdp → List Bool → List ℚ → ℕ → List Check
upper_at m goals z s = probability_checks z s ++ (if is_marked goals s then goal_check z s ∷ [] else bound_checks Max m z s)

-- the states ascend, at a state the rules, in a rule the choices
abbrev pub upper_checks : Mdp → List Bool → List ℚ → List Check
upper_checks m goals z = flat_map (upper_at m goals z) (range_with_len 0 (states_of m))

-- what yes means: the rules hold in exact numbers, and no written term of a check is past width
pub record IsUpper (m : Mdp) (goals : List Bool) (z : List ℚ) : Type 0 where
  pub rules : MeetsUpper m goals z
  pub in_width : All InWidth (upper_checks m goals z)
