-- A bias, a bound and their spread for all states, or the place of the first term past width:
--     bias     that of the policy: the inner one where a node stops, and elsewhere by elimination
--     excess   the most that any exit earns by the inner bias beyond the gain and the inner bias, and at least 0
--     bound    the inner bias, moved by the excess for each step
use Rattle.std.specs.Prelude.{ℕ, zero, suc, Bool, true, false, List, [], ◌∷◌, length, map, slice_index, slice_index_or, Some, None, Result, Ok, Err}
use Rattle.std.specs.List.{range_with_len}
use Rattle.mdp_math.specs.{Rational.{ℚ}, Result.{◌>>=◌}}
use Rattle.mdp_spec.specs.Mdp.{Entry, states_of, choices_at, row_at, value_at}
use Rattle.mdp_elim.specs.{System.{is_active}, Solve.{written_solution}}
use Rattle.mdp_wide.specs.{declared.too_wide.Kind.{Kind}, declared.too_wide.Kind.TheVariants.{Evaluate, Compare}}
use Rattle.mdp_mean.specs.{declared.errors.JoinPlace.{JoinPlace}, Terms.{Joining, constant_by, greater_excess, bound_by}}
use Rattle.mdp_policy_iteration.specs.Places.{at_place, up_to}
use Rattle.mdp_ends.specs.Ends.{is_inside}
use Rattle.mdp_farkas.specs.{Compare.{0ℚ}, Spread.{written_spread}}

-- what was computed, and for which state and choice, where there is one
abbrev pub Place : Type 0
Place = JoinPlace

abbrev pub place : Kind → ℕ → ℕ → Place
place kind s c = record { kind = kind; state = Some s; choice = Some c }

-- a state with the policy's choice
abbrev pub evaluating : List ℕ → ℕ → Place
evaluating policy s = place Evaluate s (slice_index policy s)

abbrev pub bounding : List ℕ → ℕ → Place
bounding policy s = place Compare s (slice_index policy s)

abbrev pub spreading : Place
spreading = record { kind = Compare; state = None; choice = None }

-- the steps 0, .., n - 1 from x on, or the first refusal among them
abbrev pub steps_to : {A R : Type 0} → (ℕ → A → Result A R) → A → ℕ → Result A R
steps_to f x zero = Ok x
steps_to f x (suc k) = steps_to f x k >>= f k

-- ---- the bias

abbrev pub constant : Joining → ℕ → Result ℚ Place
constant j s = at_place (evaluating j.policy s) (constant_by j s (slice_index j.policy s) (is_active j.active s))

abbrev pub policy_rows : Joining → List (List Entry)
policy_rows j = map (λ s. row_at j.model s (slice_index j.policy s)) (range_with_len 0 (states_of j.model))

abbrev pub placed : {A : Type 0} → List ℕ → Result A ℕ → Result A Place
placed policy (Ok x) = Ok x
placed policy (Err s) = Err (evaluating policy s)

abbrev pub eliminated : Joining → List ℚ → Result (List (List ℚ)) Place
eliminated j constants = placed j.policy (written_solution (policy_rows j) j.active (constants ∷ []))

-- the solution at active states, and the inner bias at the others
abbrev pub filled_by : List ℚ → List ℚ → ℕ → Bool → ℚ
filled_by x inner s true = value_at x s
filled_by x inner s false = value_at inner s

abbrev pub filled : Joining → List ℚ → List ℚ
filled j x = map (λ s. filled_by x j.inner s (is_active j.active s)) (range_with_len 0 (states_of j.model))

abbrev pub solved : Joining → List ℚ → Result (List ℚ) Place
solved j constants = eliminated j constants >>= λ xs. Ok (filled j (slice_index_or xs 0 []))

abbrev pub written_bias : Joining → Result (List ℚ) Place
written_bias j = up_to (constant j) (states_of j.model) >>= solved j

-- ---- the greatest excess of an exit; the states ascend, at a state the choices

abbrev pub after_choice_by : Joining → ℕ → ℕ → Bool → ℚ → Result ℚ Place
after_choice_by j s c true d = Ok d
after_choice_by j s c false d = at_place (place Compare s c) (greater_excess j s c d)

abbrev pub after_choice : Joining → ℕ → ℕ → ℚ → Result ℚ Place
after_choice j s c d = after_choice_by j s c (is_inside j.model j.parts s c) d

abbrev pub after_state : Joining → ℕ → ℚ → Result ℚ Place
after_state j s d = steps_to (after_choice j s) d (length (choices_at j.model s))

abbrev pub written_excess : Joining → Result ℚ Place
written_excess j = steps_to (after_state j) 0ℚ (states_of j.model)

-- ---- the bound

abbrev pub bound_at : Joining → ℚ → ℕ → Result ℚ Place
bound_at j d s = at_place (bounding j.policy s) (bound_by j d s)

abbrev pub written_bound : Joining → ℚ → Result (List ℚ) Place
written_bound j d = up_to (bound_at j d) (states_of j.model)

-- ---- all of it

pub record Joined : Type 0 where
  pub bound : List ℚ
  pub bias : List ℚ
  pub spread : ℚ

abbrev pub with_spread : List ℚ → List ℚ → Result Joined Place
with_spread b a = at_place spreading (written_spread a b) >>= λ w. Ok (record { bound = a; bias = b; spread = w })

abbrev pub with_excess : Joining → List ℚ → ℚ → Result Joined Place
with_excess j b d = written_bound j d >>= with_spread b

abbrev pub with_bias : Joining → List ℚ → Result Joined Place
with_bias j b = written_excess j >>= with_excess j b

abbrev pub written_join : Joining → Result Joined Place
written_join j = written_bias j >>= with_bias j
