-- The rules for values and a policy of the reward of name r until a goal, in exact numbers (a stochastic shortest path problem: Bertsekas and
-- Tsitsiklis 1991). A value is a fraction, or infinite. A goal has the value 0, and no finite value is below 0. A state that is no goal and
-- has a finite value is transient: where the value is the greatest reward, it is at least what each choice earns at once and by the values
-- behind it, and at most what the policy's choice earns so; for the least both the other way round. Ranks fall along the rows that have to
-- lead to a goal. At a state of infinite value the ranks show how to miss the goals.
use Rattle.std.specs.{Prelude.{◌≡◌, ℕ, ◌<◌, ◌⊎◌, Bool, true, false, List, length, slice_index, Option, Some, pos}, List.{All, Any}}
use Rattle.mdp_math.specs.Rational.{ℚ, of_int, ◌+ℚ◌, ◌≤ℚ◌}
use Rattle.mdp_spec.specs.{Mdp.{Mdp, states_of, choices_at, choice_at, row_at, value_at}, Row.{row_sum}, Unit.{reward_of}, Tree.{IsPolicy, is_marked}}
use Rattle.mdp_spec.specs.Bounds.{reward_at, finite_part, infinite}

-- what choice c at s earns at once, and then by the values z of the states behind it (a Bellman backup)
abbrev pub backup : Mdp → ℕ → ℕ → ℕ → List ℚ → ℚ
backup m r s c z = reward_of (choice_at m s c) r +ℚ row_sum (row_at m s c) z

-- a state of infinite value; a state of finite value that is no goal
abbrev pub IsInfinite : Mdp → List (Option ℚ) → ℕ → Type 0
IsInfinite m v s = (s < states_of m) × (is_marked (infinite v) s ≡ true)

abbrev pub IsTransient : Mdp → List Bool → List (Option ℚ) → ℕ → Type 0
IsTransient m goals v s = (s < states_of m) × (is_marked goals s ≡ false) × (is_marked (infinite v) s ≡ false)

-- each entry of the row of choice c at s leads to a state of finite value
abbrev pub StaysFinite : Mdp → List (Option ℚ) → ℕ → ℕ → Type 0
StaysFinite m v s c = All (λ y. is_marked (infinite v) y.target ≡ false) (row_at m s c)

-- an entry of the row of choice c at s leads to a state of smaller rank
abbrev pub Falls : Mdp → List ℕ → ℕ → ℕ → Type 0
Falls m ranks s c = Any (λ y. slice_index ranks y.target < slice_index ranks s) (row_at m s c)

-- an entry leads to a state of infinite value and smaller rank; each entry leads to one of this rank
abbrev pub FallsInfinite : Mdp → List (Option ℚ) → List ℕ → ℕ → ℕ → Type 0
FallsInfinite m v ranks s c = Any (λ y. (is_marked (infinite v) y.target ≡ true) × (slice_index ranks y.target < slice_index ranks s)) (row_at m s c)

abbrev pub StaysInfinite : Mdp → List (Option ℚ) → List ℕ → ℕ → ℕ → ℕ → Type 0
StaysInfinite m v ranks k s c = All (λ y. (is_marked (infinite v) y.target ≡ true) × (slice_index ranks y.target ≡ k)) (row_at m s c)

-- at a transient state no choice that leads to finite values only earns less than the value
abbrev pub IsCoveredWhereFinite : Mdp → ℕ → List Bool → List (Option ℚ) → Type 0
IsCoveredWhereFinite m r goals v =
    (s c : ℕ)
    → IsTransient m goals v s
    → c < length (choices_at m s)
    → StaysFinite m v s c
    → value_at (finite_part v) s ≤ℚ backup m r s c (finite_part v)

-- at a state of infinite value the policy comes, with some chance, to the states of rank 0, which it never leaves
abbrev pub InfiniteUnderPolicy : Mdp → List (Option ℚ) → List ℕ → List ℕ → Type 0
InfiniteUnderPolicy m v policy ranks =
    (s : ℕ)
    → IsInfinite m v s
    → ((slice_index ranks s ≡ 0) × StaysInfinite m v ranks 0 s (slice_index policy s)) ⊎ FallsInfinite m v ranks s (slice_index policy s)

-- at a state of infinite value each choice leads, with some chance, to a smaller rank of these states, or to this rank alone
abbrev pub InfiniteOnEach : Mdp → List (Option ℚ) → List ℕ → Type 0
InfiniteOnEach m v ranks =
    (s c : ℕ)
    → IsInfinite m v s
    → c < length (choices_at m s)
    → FallsInfinite m v ranks s c ⊎ StaysInfinite m v ranks (slice_index ranks s) s c

-- no finite value is below 0, and a goal has the value 0 and rank 0
pub record AreRewards (m : Mdp) (goals : List Bool) (v : List (Option ℚ)) (ranks : List ℕ) : Type 0 where
  pub at_least_zero : (s : ℕ) (x : ℚ) → s < states_of m → reward_at v s ≡ Some x → of_int (pos 0) ≤ℚ x
  pub at_goal : (s : ℕ) → s < states_of m → is_marked goals s ≡ true → (reward_at v s ≡ Some (of_int (pos 0))) × (slice_index ranks s ≡ 0)

pub record MeetsRewardMax (m : Mdp) (r : ℕ) (goals : List Bool) (v : List (Option ℚ)) (policy ranks : List ℕ) : Type 0 where
  pub named : r < length m.names
  pub one_each : length v ≡ states_of m
  pub choices : IsPolicy m policy
  pub values : AreRewards m goals v ranks
  -- at a transient state: each choice leads to finite values only, is covered by the value, and leads to a smaller rank
  pub stays : (s c : ℕ) → IsTransient m goals v s → c < length (choices_at m s) → StaysFinite m v s c
  pub covers : (s c : ℕ) → IsTransient m goals v s → c < length (choices_at m s) → backup m r s c (finite_part v) ≤ℚ value_at (finite_part v) s
  pub reached : (s : ℕ) → IsTransient m goals v s → value_at (finite_part v) s ≤ℚ backup m r s (slice_index policy s) (finite_part v)
  pub falls : (s c : ℕ) → IsTransient m goals v s → c < length (choices_at m s) → Falls m ranks s c
  pub misses : InfiniteUnderPolicy m v policy ranks

pub record MeetsRewardMin (m : Mdp) (r : ℕ) (goals : List Bool) (v : List (Option ℚ)) (policy ranks : List ℕ) : Type 0 where
  pub named : r < length m.names
  pub one_each : length v ≡ states_of m
  pub choices : IsPolicy m policy
  pub values : AreRewards m goals v ranks
  -- at a transient state the policy's choice leads to finite values only and to a smaller rank, and the value covers it
  pub stays : (s : ℕ) → IsTransient m goals v s → StaysFinite m v s (slice_index policy s)
  pub covered : IsCoveredWhereFinite m r goals v
  pub reached : (s : ℕ) → IsTransient m goals v s → backup m r s (slice_index policy s) (finite_part v) ≤ℚ value_at (finite_part v) s
  pub falls : (s : ℕ) → IsTransient m goals v s → Falls m ranks s (slice_index policy s)
  pub misses : InfiniteOnEach m v ranks
