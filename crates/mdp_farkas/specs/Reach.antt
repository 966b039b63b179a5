-- The rules for values and a policy of reachability: a Farkas certificate, and a policy that comes close to it (Funke, Jantsch and Baier
-- 2020). Rules 5 and 6 are Bellman's equation in two inequalities.
--     rule 2   the policy takes a choice that the state has
--     rule 3   the value is from 0 to 1
--     rule 4   at a goal it is 1
--     rule 5   at any other state it is at least (for the least probability: at most) the sum over each choice's row
--     rule 6   and at most (at least) the sum over the row of the policy's choice
--     rule 7   goals and states of value 0 have rank 0
--     rule 8   at any other state an entry of the policy's row leads to a value above 0 and a smaller rank; for the least probability an
--              entry of each row leads to a smaller rank
use Rattle.std.specs.Prelude.{ℕ, Bool, ◌==◌, ◌&&◌, ◌||◌, not, nat_lt, List, [], ◌∷◌, ◌++◌, length, slice_index, Some, if◌then◌else◌}
use Rattle.std.specs.List.{All, flat_map, list_any, range_with_len}
use Rattle.mdp_math.specs.Rational.{ℚ, lt_ℚ}
use Rattle.mdp_spec.specs.{Mdp.{Mdp, states_of, choices_at, row_at, value_at}, Tree.{is_marked}, Rules.{MeetsReachMax, MeetsReachMin}}
use Rattle.mdp_farkas.specs.{Compare.{0ℚ}, Verdict.{Check, InWidth, at_state, at_choice, at_choices}, Bellman.{stands_at, bound_checks}}
use Rattle.mdp_farkas.specs.Upper.{probability_checks, goal_check}
use Rattle.mdp_rows.specs.{declared.dir.Dir.{Dir}, declared.dir.Dir.TheVariants.{Max, Min}}
use Rattle.mdp_claims.specs.declared.rule.Rule.TheVariants.{ChoiceExists, RankFalls, RankZero, ValueOnPolicy}

-- rule 2
abbrev pub choice_exists : Mdp → ℕ → ℕ → Check
choice_exists m s choice = at_choice ChoiceExists s choice (Some (nat_lt choice (length (choices_at m s))))

-- the other direction
abbrev pub other : Dir → Dir
other Max = Min
other Min = Max

-- rule 6
abbrev pub policy_check : Dir → Mdp → List ℚ → ℕ → ℕ → Check
policy_check dir m z s choice = at_choice ValueOnPolicy s choice (stands_at (other dir) m z s choice)

abbrev pub value_checks : Dir → Mdp → List Bool → List ℚ → ℕ → ℕ → List Check
value_checks dir m goals z s choice = if is_marked goals s then goal_check z s ∷ [] else bound_checks dir m z s ++ policy_check dir m z s choice ∷ []

-- a goal, or a state of value 0 (rule 3 has turned away those below)
abbrev pub ends : List Bool → List ℚ → ℕ → Bool
ends goals z s = is_marked goals s || not (lt_ℚ 0ℚ (value_at z s))

-- rule 7
abbrev pub rank_check : List ℕ → ℕ → Check
rank_check ranks s = at_state RankZero s (Some (slice_index ranks s == 0))

-- whether target t of a row of state s leads on
abbrev pub leads_down : Dir → List ℚ → List ℕ → ℕ → ℕ → Bool
leads_down Max z ranks s t = nat_lt (slice_index ranks t) (slice_index ranks s) && lt_ℚ 0ℚ (value_at z t)
leads_down Min z ranks s t = nat_lt (slice_index ranks t) (slice_index ranks s)

-- rule 8
abbrev pub fall_check : Dir → Mdp → List ℚ → List ℕ → ℕ → ℕ → Check
fall_check dir m z ranks s c = at_choice RankFalls s c (Some (list_any (λ y. leads_down dir z ranks s y.target) (row_at m s c)))

abbrev pub fall_checks : Dir → Mdp → List ℚ → List ℕ → ℕ → ℕ → List Check
fall_checks Max m z ranks s choice = fall_check Max m z ranks s choice ∷ []
fall_checks Min m z ranks s choice = at_choices m s (fall_check Min m z ranks s)

abbrev pub rank_checks : Dir → Mdp → List Bool → List ℚ → List ℕ → ℕ → ℕ → List Check
rank_checks dir m goals z ranks s choice = if ends goals z s then rank_check ranks s ∷ [] else fall_checks dir m z ranks s choice

-- all rules at state s, where the policy takes this choice
abbrev pub reach_at : Dir → Mdp → List Bool → List ℚ → List ℕ → ℕ → ℕ → List Check
reach_at dir m goals z ranks s choice = choice_exists m s choice ∷ (probability_checks z s ++ (value_checks dir m goals z s choice ++ rank_checks dir m goals z ranks s choice))

-- the states ascend, at a state the rules, in a rule the choices
abbrev pub reach_checks : Dir → Mdp → List Bool → List ℚ → List ℕ → List ℕ → List Check
reach_checks dir m goals z policy ranks = flat_map (λ s. reach_at dir m goals z ranks s (slice_index policy s)) (range_with_len 0 (states_of m))

-- the rules in exact numbers
abbrev pub MeetsReach : Dir → Mdp → List Bool → List ℚ → List ℕ → List ℕ → Type 0
MeetsReach Max m goals z policy ranks = MeetsReachMax m goals z policy ranks
MeetsReach Min m goals z policy ranks = MeetsReachMin m goals z policy ranks

-- what yes means: the rules hold in exact numbers, and no written term of a check is past width
pub record IsReach (dir : Dir) (m : Mdp) (goals : List Bool) (z : List ℚ) (policy ranks : List ℕ) : Type 0 where
  pub rules : MeetsReach dir m goals z policy ranks
  pub in_width : All InWidth (reach_checks dir m goals z policy ranks)
