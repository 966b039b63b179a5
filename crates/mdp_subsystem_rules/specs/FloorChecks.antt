-- The rules for a floor, in their order and by written operations. A successor that is a goal counts as 1 with rank 0, a kept one as its own
-- line says, and any other one as 0 with rank 0. At each kept state:
--     rule 3   the value is from 0 to 1
--     rule 5   where the state is no goal, the value is at most the sum over each choice's row
--     rule 7   a goal, and a state of value 0, has rank 0
--     rule 8   at any other state an entry of each row leads to a smaller rank
--     rule 21  the state is no goal
-- and at the end, at no state:
--     rule 24  what the start counts as is at least the threshold
use Rattle.std.specs.Prelude.{ℕ, ◌==◌, Bool, ◌||◌, not, nat_lt, List, [], ◌∷◌, ◌++◌, length, map, slice_index, Some, None, pos, if◌then◌else◌}
use Rattle.std.specs.List.{All, flat_map, list_any, range_with_len}
use Rattle.mdp_math.specs.Rational.{ℚ, of_int, lt_ℚ}
use Rattle.mdp_spec.specs.{Mdp.{Mdp, states_of, row_at, value_at}, Tree.{is_marked}}
use Rattle.mdp_farkas.specs.{Bellman.{sum_stands}, Compare.{0ℚ, 1ℚ, is_at_least, is_at_most}, Verdict.{Check, InWidth, at_state, at_choice, at_choices}}
use Rattle.mdp_rows.specs.declared.dir.Dir.TheVariants.{Min}
use Rattle.mdp_subsystem_rules.specs.{Floor.{MeetsFloor, counted_value, counted_rank}, FlowChecks.{kept_check}, Kept.{kept_marks, spread}}
use Rattle.mdp_claims.specs.declared.rule.Rule.TheVariants.{Probability, RankFalls, RankZero, StartReachesThreshold, ValueOnEachChoice}

-- the values of a certificate's lines, one per state, and the ranks
abbrev pub spread_values : Mdp → List ℕ → List ℚ → List ℚ
spread_values m kept values = spread (states_of m) kept values (of_int (pos 0))

abbrev pub spread_ranks : Mdp → List ℕ → List ℕ → List ℕ
spread_ranks m kept ranks = spread (states_of m) kept ranks 0

-- what a state counts as, by the lines of the certificate
abbrev pub line_value : Mdp → List Bool → List ℕ → List ℚ → ℕ → ℚ
line_value m goals kept values s = counted_value goals (kept_marks (states_of m) kept) (spread_values m kept values) s

abbrev pub line_rank : Mdp → List Bool → List ℕ → List ℕ → ℕ → ℕ
line_rank m goals kept ranks s = counted_rank goals (kept_marks (states_of m) kept) (spread_ranks m kept ranks) s

-- the same, one number per state
abbrev pub line_values : Mdp → List Bool → List ℕ → List ℚ → List ℚ
line_values m goals kept values = map (line_value m goals kept values) (range_with_len 0 (states_of m))

-- rule 3
abbrev pub value_checks : ℕ → ℚ → List Check
value_checks s value = at_state Probability s (is_at_least value 0ℚ) ∷ at_state Probability s (is_at_most value 1ℚ) ∷ []

-- rule 5, where each state counts as z says
abbrev pub cover_check : Mdp → List ℚ → ℕ → ℚ → ℕ → Check
cover_check m z s value c = at_choice ValueOnEachChoice s c (sum_stands Min value z 0ℚ (row_at m s c))

abbrev pub cover_checks : Mdp → List Bool → List ℚ → ℕ → ℚ → List Check
cover_checks m goals z s value = if is_marked goals s then [] else at_choices m s (cover_check m z s value)

-- rules 7 and 8
abbrev pub rank_check : ℕ → ℕ → Check
rank_check s rank = at_state RankZero s (Some (rank == 0))

abbrev pub fall_check : Mdp → (ℕ → ℕ) → ℕ → ℕ → ℕ → Check
fall_check m ranked s rank c = at_choice RankFalls s c (Some (list_any (λ y. nat_lt (ranked y.target) rank) (row_at m s c)))

abbrev pub rank_checks : Mdp → List Bool → (ℕ → ℕ) → ℕ → ℚ → ℕ → List Check
rank_checks m goals ranked s value rank = if is_marked goals s || not (lt_ℚ 0ℚ value) then rank_check s rank ∷ [] else at_choices m s (fall_check m ranked s rank)

-- all rules at the kept state s of this value and rank
abbrev pub line_checks : Mdp → List Bool → List ℕ → List ℚ → List ℕ → ℕ → ℚ → ℕ → List Check
line_checks m goals kept values ranks s value rank =
    value_checks s value
    ++ (cover_checks m goals (line_values m goals kept values) s value ++ (rank_checks m goals (line_rank m goals kept ranks) s value rank ++ kept_check goals s ∷ []))

-- the checks of line i
abbrev pub checks_of_line : Mdp → List Bool → List ℕ → List ℚ → List ℕ → ℕ → List Check
checks_of_line m goals kept values ranks i = line_checks m goals kept values ranks (slice_index kept i) (value_at values i) (slice_index ranks i)

abbrev pub each_line : Mdp → List Bool → List ℕ → List ℚ → List ℕ → List Check
each_line m goals kept values ranks = flat_map (checks_of_line m goals kept values ranks) (range_with_len 0 (length kept))

-- rule 24
abbrev pub start_check : Mdp → List Bool → ℕ → ℚ → List ℕ → List ℚ → Check
start_check m goals start threshold kept values = record { rule = StartReachesThreshold; state = None; choice = None; holds = is_at_least (line_value m goals kept values start) threshold }

-- the kept states ascend, at a state the rules, in a rule the choices; the start comes last
abbrev pub floor_checks : Mdp → List Bool → ℕ → ℚ → List ℕ → List ℚ → List ℕ → List Check
floor_checks m goals start threshold kept values ranks = each_line m goals kept values ranks ++ start_check m goals start threshold kept values ∷ []

-- what yes means: the rules hold in exact numbers, and no written term of a check is past width
pub record HoldsFloor (m : Mdp) (goals : List Bool) (start : ℕ) (threshold : ℚ) (kept : List ℕ) (values : List ℚ) (ranks : List ℕ) : Type 0 where
  pub rules : MeetsFloor m goals (kept_marks (states_of m) kept) (spread_values m kept values) (spread_ranks m kept ranks) start threshold
  pub in_width : All InWidth (floor_checks m goals start threshold kept values ranks)
