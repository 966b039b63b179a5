-- What written backward induction means, and what its meaning fixes.
use Rattle.std.specs.Prelude.{◌≡◌, ℕ, ◌<◌, ◌≤◌, Bool, List, length, Option, Ok}
use Rattle.mdp_math.specs.Rational.{ℚ, ◌+ℚ◌, ◌≤ℚ◌}
use Rattle.mdp_spec.specs.{Mdp.{Mdp, states_of, value_at}, Row.{IsMdp}, Bounds.{reward_at, part}, Until.{UntilMax, UntilMin}}
use Rattle.mdp_rows.specs.declared.dir.Dir.TheVariants.{Max, Min}
use Rattle.mdp_horizon.specs.{Objective.Objective.{until, total}, Bounds.{BoundedMax, BoundedMin, TotalMax, TotalMin}}
use Rattle.mdp_horizon.specs.{Between.{Claimed, MaxBetween, MinBetween}, Written.{Answer, written_until, written_total}}

abbrev pub AnswersAreGreatest : Type 0
AnswersAreGreatest = (m : Mdp) (stay goals : List Bool) (n : ℕ) (a : Answer) → IsMdp m → written_until Max m stay goals n ≡ Ok a → BoundedMax m stay goals n a.values a.steps

abbrev pub AnswersAreLeast : Type 0
AnswersAreLeast = (m : Mdp) (stay goals : List Bool) (n : ℕ) (a : Answer) → IsMdp m → written_until Min m stay goals n ≡ Ok a → BoundedMin m stay goals n a.values a.steps

-- two lists of greatest probabilities, each with some table, agree at every state; so do two of least ones
abbrev pub HasOneGreatest : Type 0
HasOneGreatest =
    (m : Mdp) (stay goals : List Bool) (n : ℕ) (z w : List ℚ) (table other : List (List ℕ)) (s : ℕ)
    → IsMdp m → BoundedMax m stay goals n z table → BoundedMax m stay goals n w other → s < states_of m → value_at z s ≡ value_at w s

abbrev pub HasOneLeast : Type 0
HasOneLeast =
    (m : Mdp) (stay goals : List Bool) (n : ℕ) (z w : List ℚ) (table other : List (List ℕ)) (s : ℕ)
    → IsMdp m → BoundedMin m stay goals n z table → BoundedMin m stay goals n w other → s < states_of m → value_at z s ≡ value_at w s

-- the greatest probabilities within n steps are at most those without end, and at some n they come within 1/k of them
abbrev pub GreatestComeClose : Type 0
GreatestComeClose =
    (m : Mdp) (stay goals : List Bool) (z : List ℚ) (policy : List ℕ) (s : ℕ) → IsMdp m → UntilMax m stay goals z policy → s < states_of m
    → ((n : ℕ) (w : List ℚ) (table : List (List ℕ)) → BoundedMax m stay goals n w table → value_at w s ≤ℚ value_at z s)
    × ((k : ℕ) → 1 ≤ k → (n : ℕ) × ((w : List ℚ) (table : List (List ℕ)) → BoundedMax m stay goals n w table → value_at z s ≤ℚ value_at w s +ℚ part k))

-- and so are the least ones, from some n on
abbrev pub LeastComeClose : Type 0
LeastComeClose =
    (m : Mdp) (stay goals : List Bool) (z : List ℚ) (policy : List ℕ) (s : ℕ) → IsMdp m → UntilMin m stay goals z policy → s < states_of m
    → ((n : ℕ) (w : List ℚ) (table : List (List ℕ)) → BoundedMin m stay goals n w table → value_at w s ≤ℚ value_at z s)
    × ((k : ℕ) → 1 ≤ k → (n : ℕ) × ((d : ℕ) (w : List ℚ) (table : List (List ℕ)) → n ≤ d → BoundedMin m stay goals d w table → value_at z s ≤ℚ value_at w s +ℚ part k))

-- ---- total rewards

abbrev pub TotalsAreGreatest : Type 0
TotalsAreGreatest = (m : Mdp) (r n : ℕ) (a : Answer) → IsMdp m → r < length m.names → written_total Max m r n ≡ Ok a → TotalMax m r n a.values a.steps

abbrev pub TotalsAreLeast : Type 0
TotalsAreLeast = (m : Mdp) (r n : ℕ) (a : Answer) → IsMdp m → r < length m.names → written_total Min m r n ≡ Ok a → TotalMin m r n a.values a.steps

abbrev pub HasOneGreatestTotal : Type 0
HasOneGreatestTotal =
    (m : Mdp) (r n : ℕ) (z w : List ℚ) (table other : List (List ℕ)) (s : ℕ)
    → IsMdp m → TotalMax m r n z table → TotalMax m r n w other → s < states_of m → value_at z s ≡ value_at w s

abbrev pub HasOneLeastTotal : Type 0
HasOneLeastTotal =
    (m : Mdp) (r n : ℕ) (z w : List ℚ) (table other : List (List ℕ)) (s : ℕ)
    → IsMdp m → TotalMin m r n z table → TotalMin m r n w other → s < states_of m → value_at z s ≡ value_at w s

-- ---- exact values between lower and upper ones

-- x lies between two values that may be missing
abbrev pub Lies : Option ℚ → Option ℚ → ℚ → Type 0
Lies lower upper x = Claimed lower (λ y. y ≤ℚ x) × Claimed upper (λ y. x ≤ℚ y)

abbrev pub GreatestLies : Type 0
GreatestLies =
    (m : Mdp) (stay goals : List Bool) (n : ℕ) (z : List ℚ) (lower upper : List (Option ℚ)) (table other : List (List ℕ)) (s : ℕ)
    → IsMdp m → BoundedMax m stay goals n z table → MaxBetween m (until stay goals) n lower upper other → s < states_of m
    → Lies (reward_at lower s) (reward_at upper s) (value_at z s)

abbrev pub LeastLies : Type 0
LeastLies =
    (m : Mdp) (stay goals : List Bool) (n : ℕ) (z : List ℚ) (lower upper : List (Option ℚ)) (table other : List (List ℕ)) (s : ℕ)
    → IsMdp m → BoundedMin m stay goals n z table → MinBetween m (until stay goals) n lower upper other → s < states_of m
    → Lies (reward_at lower s) (reward_at upper s) (value_at z s)

abbrev pub GreatestTotalLies : Type 0
GreatestTotalLies =
    (m : Mdp) (r n : ℕ) (z : List ℚ) (lower upper : List (Option ℚ)) (table other : List (List ℕ)) (s : ℕ)
    → IsMdp m → TotalMax m r n z table → MaxBetween m (total r) n lower upper other → s < states_of m
    → Lies (reward_at lower s) (reward_at upper s) (value_at z s)

abbrev pub LeastTotalLies : Type 0
LeastTotalLies =
    (m : Mdp) (r n : ℕ) (z : List ℚ) (lower upper : List (Option ℚ)) (table other : List (List ℕ)) (s : ℕ)
    → IsMdp m → TotalMin m r n z table → MinBetween m (total r) n lower upper other → s < states_of m
    → Lies (reward_at lower s) (reward_at upper s) (value_at z s)
