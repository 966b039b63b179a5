-- Policy iteration in written arithmetic (Howard 1960). A round evaluates its policy, and then looks at each node for a choice whose sum is
-- better than the node's value. Where none is, the path ends; else the next policy takes these choices and keeps all others.
use Rattle.std.specs.Prelude.{ℕ, zero, suc, ◌+◌, Bool, not, List, [], ◌∷◌, length, map, slice_index, slice_index_or, Option, Some, None, Result, Ok, Err, if◌then◌else◌, pos}
use Rattle.std.specs.{List.{filter, list_any, range_with_len}, Option.{is_some}}
use Rattle.mdp_math.specs.{Rational.{ℚ, of_int}, Result.{◌>>=◌}}
use Rattle.mdp_spec.specs.{Mdp.{Entry, value_at}, Written.{written_sum}}
use Rattle.mdp_elim.specs.{System.{is_active}, Solve.{written_solution}}
use Rattle.mdp_wide.specs.declared.too_wide.Kind.TheVariants.{Evaluate, Compare}
use Rattle.mdp_policy_iteration.specs.Iteration.{Step, next, done, refused}
use Rattle.mdp_policy_iteration.specs.Problem.{Problem, Move, stop, go, count, node_at, choices_at, choice_at, fits_by, taken, active_of, rows_of}
use Rattle.mdp_policy_iteration.specs.{Places.{Place, at_place, up_to, all_pass}, Candidates.{Best, compared}}

-- ---- evaluation

abbrev pub evaluating : List ℕ → ℕ → Place
evaluating policy s = record { kind = Evaluate; node = s; choice = slice_index policy s }

-- whether the terms of the row that a node takes are in width
abbrev pub fits : Problem → List ℕ → ℕ → Bool
fits p policy s = fits_by (node_at p s) (slice_index policy s)

-- the values with which nodes stop, 0 at active ones
abbrev pub stop_value : Move → ℚ
stop_value (stop v) = v
stop_value (go r row) = of_int (pos 0)

abbrev pub boundary : Problem → List ℕ → List ℚ
boundary p policy = map (λ s. stop_value (taken p policy s)) (range_with_len 0 (count p))

-- the entries to nodes that aren't active
abbrev pub outer : List Bool → List Entry → List Entry
outer active row = filter (λ x. not (is_active active x.target)) row

-- the constant of a node's equation: what it earns, and the sum over its entries to nodes that stop
abbrev pub constant_by : List Bool → List ℚ → Move → Option ℚ
constant_by active values (stop v) = Some (of_int (pos 0))
constant_by active values (go r row) = written_sum values r (outer active row)

abbrev pub constant : Problem → List ℕ → ℕ → Result ℚ Place
constant p policy s = at_place (evaluating policy s) (constant_by (active_of p policy) (boundary p policy) (taken p policy s))

-- the place of a state of the chain
abbrev pub placed : {A : Type 0} → List ℕ → Result A ℕ → Result A Place
placed policy (Ok x) = Ok x
placed policy (Err s) = Err (evaluating policy s)

-- the values of active nodes, with those of the others
abbrev pub filled_by : List ℚ → ℕ → Move → ℚ
filled_by x s (stop v) = v
filled_by x s (go r row) = value_at x s

abbrev pub filled : Problem → List ℕ → List ℚ → List ℚ
filled p policy x = map (λ s. filled_by x s (taken p policy s)) (range_with_len 0 (count p))

-- from the constants by elimination
abbrev pub eliminated : Problem → List ℕ → List ℚ → Result (List (List ℚ)) Place
eliminated p policy constants = placed policy (written_solution (rows_of p policy) (active_of p policy) (constants ∷ []))

abbrev pub solved : Problem → List ℕ → List ℚ → Result (List ℚ) Place
solved p policy constants = eliminated p policy constants >>= (λ xs. Ok (filled p policy (slice_index_or xs 0 [])))

-- the values of a policy whose rows are made: the constants in the order of the nodes, then elimination
abbrev pub values_of_rows : Problem → List ℕ → Result (List ℚ) Place
values_of_rows p policy = up_to (constant p policy) (count p) >>= solved p policy

-- the values of a policy: its rows first
abbrev pub written_values : Problem → List ℕ → Result (List ℚ) Place
written_values p policy = all_pass (fits p policy) (evaluating policy) (count p) >>= (λ made. values_of_rows p policy)

-- ---- comparison

-- after one more choice, and after the first ones of a node
abbrev pub comparing : ℕ → ℕ → Place
comparing s c = record { kind = Compare; node = s; choice = c }

abbrev pub then_compared : Problem → List ℚ → ℕ → ℕ → Best → Result Best Place
then_compared p x s c best = at_place (comparing s c) (compared p.dir x c (choice_at p s c) best)

abbrev pub best_of : Problem → List ℚ → ℕ → ℕ → Result Best Place
best_of p x s zero = Ok (record { value = value_at x s; choice = None })
best_of p x s (suc c) = best_of p x s c >>= then_compared p x s c

-- the choice that improves a node, where there is one
abbrev pub improvement : Problem → List ℚ → ℕ → Result (Option ℕ) Place
improvement p x s = best_of p x s (length (choices_at p s)) >>= (λ best. Ok best.choice)

abbrev pub improvements : Problem → List ℚ → Result (List (Option ℕ)) Place
improvements p x = up_to (improvement p x) (count p)

-- ---- the path

abbrev pub or_kept : Option ℕ → ℕ → ℕ
or_kept None c = c
or_kept (Some d) c = d

-- the choices taken, and the policy's own elsewhere
abbrev pub improved : List ℕ → List (Option ℕ) → List ℕ
improved policy choices = map (λ s. or_kept (slice_index_or choices s None) (slice_index policy s)) (range_with_len 0 (length policy))

-- a policy of the path, and its round
pub record Round : Type 0 where
  pub number : ℕ
  pub policy : List ℕ

-- the last policy, its round and its values
pub record Found : Type 0 where
  pub number : ℕ
  pub policy : List ℕ
  pub values : List ℚ

-- the first term past width: its round, that round's policy, and its place
pub record Refusal : Type 0 where
  pub number : ℕ
  pub policy : List ℕ
  pub place : Place

abbrev pub refused_at : Round → Place → Step Round Found Refusal
refused_at a place = refused (record { number = a.number; policy = a.policy; place = place })

abbrev pub after_comparison : Round → List ℚ → Result (List (Option ℕ)) Place → Step Round Found Refusal
after_comparison a x (Err place) = refused_at a place
after_comparison a x (Ok choices) =
    if list_any is_some choices
    then next (record { number = a.number + 1; policy = improved a.policy choices })
    else done (record { number = a.number; policy = a.policy; values = x })

abbrev pub after_evaluation : Problem → Round → Result (List ℚ) Place → Step Round Found Refusal
after_evaluation p a (Err place) = refused_at a place
after_evaluation p a (Ok x) = after_comparison a x (improvements p x)

-- one round
abbrev pub path_step : Problem → Round → Step Round Found Refusal
path_step p a = after_evaluation p a (written_values p a.policy)
