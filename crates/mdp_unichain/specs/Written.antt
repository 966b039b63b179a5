-- A round in written arithmetic: the evaluation of a policy with the reference t, and the comparison of all choices of the component.
use Rattle.std.specs.Prelude.{ℕ, zero, suc, Bool, true, false, List, [], ◌∷◌, length, map, slice_index, slice_index_or, None, Result, Ok, if◌then◌else◌, pos}
use Rattle.std.specs.List.{range_with_len}
use Rattle.mdp_math.specs.{Rational.{ℚ, of_int}, Result.{◌>>=◌}, Written.{written_add}}
use Rattle.mdp_spec.specs.Mdp.{Entry, value_at}
use Rattle.mdp_elim.specs.Solve.{written_solution}
use Rattle.mdp_policy_iteration.specs.{Places.{Place, at_place, up_to}, Candidates.{Best}, Path.{evaluating, placed, comparing, or_kept}}
use Rattle.mdp_unichain.specs.{Component.{Component, count, choices_at, choice_at, is_state, row_by, reward_by}, Evaluation.{active}}
use Rattle.mdp_unichain.specs.Sums.{written_ratio, written_bias, compared}

-- ---- evaluation

-- one row per number; one that is no state has a loop, which isn't read
abbrev pub row_or_loop : Bool → ℕ → List Entry → List Entry
row_or_loop true s row = row
row_or_loop false s row = record { target = s; prob = of_int (pos 1) } ∷ []

abbrev pub rows_of : Component → List ℕ → List (List Entry)
rows_of p policy = map (λ s. row_or_loop (is_state p s) s (row_by p policy s)) (range_with_len 0 (count p))

abbrev pub active_of : Component → ℕ → List Bool
active_of p t = map (active (is_state p) t) (range_with_len 0 (count p))

-- the two columns: what a step earns, and 1. The boundary values are 0, so entries to t add nothing
abbrev pub rewards_of : Component → List ℕ → List ℚ
rewards_of p policy = map (reward_by p policy) (range_with_len 0 (count p))

abbrev pub ones_of : Component → List ℚ
ones_of p = map (λ s. of_int (pos 1)) (range_with_len 0 (count p))

abbrev pub columns_of : Component → List ℕ → List (List ℚ)
columns_of p policy = rewards_of p policy ∷ ones_of p ∷ []

-- what is earned and the number of steps until t, from each state
abbrev pub written_columns : Component → List ℕ → ℕ → Result (List (List ℚ)) Place
written_columns p policy t = placed policy (written_solution (rows_of p policy) (active_of p t) (columns_of p policy))

abbrev pub written_gain : Component → List ℕ → ℕ → List ℚ → List ℚ → Result ℚ Place
written_gain p policy t x y = at_place (evaluating policy t) (written_ratio p policy t x y)

-- the bias of a state; 0 at t, and at numbers that are no states
abbrev pub bias_of : Component → List ℕ → ℕ → ℚ → List ℚ → List ℚ → ℕ → Result ℚ Place
bias_of p policy t gain x y s =
    if active (is_state p) t s then at_place (evaluating policy s) (written_bias gain (value_at x s) (value_at y s)) else Ok (of_int (pos 0))

abbrev pub written_bias_list : Component → List ℕ → ℕ → ℚ → List ℚ → List ℚ → Result (List ℚ) Place
written_bias_list p policy t gain x y = up_to (bias_of p policy t gain x y) (count p)

pub record Values : Type 0 where
  pub gain : ℚ
  pub bias : List ℚ

-- with the biases to a gain
abbrev pub with_biases : Component → List ℕ → ℕ → List ℚ → List ℚ → ℚ → Result Values Place
with_biases p policy t x y gain = written_bias_list p policy t gain x y >>= (λ bias. Ok (record { gain = gain; bias = bias }))

abbrev pub written_biases : Component → List ℕ → ℕ → List ℚ → List ℚ → Result Values Place
written_biases p policy t x y = written_gain p policy t x y >>= with_biases p policy t x y

abbrev pub from_columns : Component → List ℕ → ℕ → List (List ℚ) → Result Values Place
from_columns p policy t xs = written_biases p policy t (slice_index_or xs 0 []) (slice_index_or xs 1 [])

abbrev pub written_values : Component → List ℕ → ℕ → Result Values Place
written_values p policy t = written_columns p policy t >>= from_columns p policy t

-- ---- comparison

-- after one more choice of a state
abbrev pub then_compared : Component → List ℚ → ℕ → ℕ → Best → Result Best Place
then_compared p bias s c best = at_place (comparing s c) (compared p.dir bias c (choice_at p s c) best)

-- after the first choices of a state, from the value v
abbrev pub best_of : Component → List ℚ → ℕ → ℚ → ℕ → Result Best Place
best_of p bias s v zero = Ok (record { value = v; choice = None })
best_of p bias s v (suc c) = best_of p bias s v c >>= then_compared p bias s c

-- the present value of a state: the gain and the bias. Its place is that of the policy's own choice
abbrev pub present_of : List ℕ → Values → ℕ → Result ℚ Place
present_of policy v s = at_place (comparing s (slice_index policy s)) (written_add v.gain (value_at v.bias s))

-- the choice that is best, or the policy's own, where the present value is this
abbrev pub choice_over : Component → List ℕ → Values → ℕ → ℚ → Result ℕ Place
choice_over p policy v s value = best_of p v.bias s value (length (choices_at p s)) >>= (λ best. Ok (or_kept best.choice (slice_index policy s)))

-- the choice of the improved policy at a state
abbrev pub improved_choice : Component → List ℕ → Values → ℕ → Result ℕ Place
improved_choice p policy v s = present_of policy v s >>= choice_over p policy v s

abbrev pub improved_at : Component → List ℕ → Values → ℕ → Result ℕ Place
improved_at p policy v s = if is_state p s then improved_choice p policy v s else Ok 0

abbrev pub written_improved : Component → List ℕ → Values → Result (List ℕ) Place
written_improved p policy v = up_to (improved_at p policy v) (count p)
