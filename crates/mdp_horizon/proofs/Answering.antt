-- What the values and the table of written backward induction mean, that they are the only ones, and that they lie between bounds.
use Rattle.std.proofs.Common.{◌≡◌, ℕ, ◌<◌, Bool, List, length, Option, Ok, Result, Err, IfOk, subst}
use Rattle.mdp_math.specs.Rational.{ℚ}
use Rattle.mdp_spec.specs.{Mdp.{Mdp}, Row.{IsMdp}}
use Rattle.mdp_rows.specs.{declared.dir.Dir.{Dir}, declared.dir.Dir.TheVariants.{Max, Min}}
use Rattle.mdp_horizon.specs.{Objective.{Objective}, Objective.Objective.{until, total}, Bounds.{BoundedMax, BoundedMin, TotalMax, TotalMin}}
use Rattle.mdp_horizon.specs.Between.{MaxBetween, MinBetween}
use Rattle.mdp_horizon.specs.Laws.{AnswersAreGreatest, AnswersAreLeast, HasOneGreatest, HasOneLeast, TotalsAreGreatest, TotalsAreLeast, HasOneGreatestTotal, HasOneLeastTotal}
use Rattle.mdp_horizon.specs.Laws.{GreatestLies, LeastLies, GreatestTotalLies, LeastTotalLies}
use Rattle.mdp_horizon.specs.{Written.{Answer, Place, written_values, written_until, written_total}, Answer.{Answers, plain}}
use Rattle.mdp_horizon.specs.{declared.bounded.Bounded.{Bounded}, Errors.{HorizonError}}
use Rattle.mdp_horizon.proofs.{Backward.{IsBest, HasBounds, best_of_halves, best-one, best-bounded}, Exact.{written_is_exact}}

-- ---- any objective

best_of_written : (dir : Dir) (m : Mdp) (o : Objective) (n : ℕ) (a : Answer) → IsMdp m → written_values dir m o n ≡ Ok a → IsBest dir m o n a.values a.steps
best_of_written dir m o n a known made = let halves = written_is_exact dir m o known n a made in best_of_halves dir m o known n a.values a.steps halves.0 halves.1

max_bounds : (m : Mdp) (o : Objective) (n : ℕ) (lower upper : List (Option ℚ)) (table : List (List ℕ)) → MaxBetween m o n lower upper table → HasBounds Max m o n upper lower table
max_bounds m o n lower upper table b = record { takes = b.takes; no_better = b.above; reached = b.reached }

min_bounds : (m : Mdp) (o : Objective) (n : ℕ) (lower upper : List (Option ℚ)) (table : List (List ℕ)) → MinBetween m o n lower upper table → HasBounds Min m o n lower upper table
min_bounds m o n lower upper table b = record { takes = b.takes; no_better = b.below; reached = b.reached }

-- ---- a bounded until

until_max_is : (m : Mdp) (stay goals : List Bool) (n : ℕ) (z : List ℚ) (table : List (List ℕ)) → BoundedMax m stay goals n z table → IsBest Max m (until stay goals) n z table
until_max_is m stay goals n z table b = record { takes = b.takes; no_better = b.above; reached = b.reached }

until_min_is : (m : Mdp) (stay goals : List Bool) (n : ℕ) (z : List ℚ) (table : List (List ℕ)) → BoundedMin m stay goals n z table → IsBest Min m (until stay goals) n z table
until_min_is m stay goals n z table b = record { takes = b.takes; no_better = b.below; reached = b.reached }

pub answers_are_greatest : AnswersAreGreatest
answers_are_greatest m stay goals n a known made =
    let b = best_of_written Max m (until stay goals) n a known made in record { takes = b.takes; above = b.no_better; reached = b.reached }

pub answers_are_least : AnswersAreLeast
answers_are_least m stay goals n a known made =
    let b = best_of_written Min m (until stay goals) n a known made in record { takes = b.takes; below = b.no_better; reached = b.reached }

pub bounded_max_unique : HasOneGreatest
bounded_max_unique m stay goals n z w table other s known p q h =
    best-one Max m (until stay goals) known n z table (until_max_is m stay goals n z table p) s h w other (until_max_is m stay goals n w other q)

pub bounded_min_unique : HasOneLeast
bounded_min_unique m stay goals n z w table other s known p q h =
    best-one Min m (until stay goals) known n z table (until_min_is m stay goals n z table p) s h w other (until_min_is m stay goals n w other q)

pub greatest_lies : GreatestLies
greatest_lies m stay goals n z lower upper table other s known p q h =
    let b = best-bounded Max m (until stay goals) known n z table (until_max_is m stay goals n z table p) s h upper lower other (max_bounds m (until stay goals) n lower upper other q) in (b.1, b.0)

pub least_lies : LeastLies
least_lies m stay goals n z lower upper table other s known p q h =
    best-bounded Min m (until stay goals) known n z table (until_min_is m stay goals n z table p) s h lower upper other (min_bounds m (until stay goals) n lower upper other q)

-- ---- a total reward

total_max_is : (m : Mdp) (r n : ℕ) (z : List ℚ) (table : List (List ℕ)) → TotalMax m r n z table → IsBest Max m (total r) n z table
total_max_is m r n z table b = record { takes = b.takes; no_better = b.above; reached = b.reached }

total_min_is : (m : Mdp) (r n : ℕ) (z : List ℚ) (table : List (List ℕ)) → TotalMin m r n z table → IsBest Min m (total r) n z table
total_min_is m r n z table b = record { takes = b.takes; no_better = b.below; reached = b.reached }

pub totals_are_greatest : TotalsAreGreatest
totals_are_greatest m r n a known named made =
    let b = best_of_written Max m (total r) n a known made in record { named = named; takes = b.takes; above = b.no_better; reached = b.reached }

pub totals_are_least : TotalsAreLeast
totals_are_least m r n a known named made =
    let b = best_of_written Min m (total r) n a known made in record { named = named; takes = b.takes; below = b.no_better; reached = b.reached }

pub total_max_unique : HasOneGreatestTotal
total_max_unique m r n z w table other s known p q h =
    best-one Max m (total r) known n z table (total_max_is m r n z table p) s h w other (total_max_is m r n w other q)

pub total_min_unique : HasOneLeastTotal
total_min_unique m r n z w table other s known p q h =
    best-one Min m (total r) known n z table (total_min_is m r n z table p) s h w other (total_min_is m r n w other q)

pub greatest_total_lies : GreatestTotalLies
greatest_total_lies m r n z lower upper table other s known p q h =
    let b = best-bounded Max m (total r) known n z table (total_max_is m r n z table p) s h upper lower other (max_bounds m (total r) n lower upper other q) in (b.1, b.0)

pub least_total_lies : LeastTotalLies
least_total_lies m r n z lower upper table other s known p q h =
    best-bounded Min m (total r) known n z table (total_min_is m r n z table p) s h lower upper other (min_bounds m (total r) n lower upper other q)

-- ---- what the code answers

-- what holds of each answer of a computation holds of the code's answer to it
answered : (result : Result Bounded HorizonError) (r : Result Answer Place) (F : Answer → Type 0) → Answers plain result r
    → ((a : Answer) → r ≡ Ok a → F a) → IfOk result (λ found. F (plain found))
answered (Ok found) r F is each = each (plain found) is
answered (Err e) r F is each = tt

module _ (m : Mdp) (known_ : IsMdp m) (n : ℕ) (dir : Dir) (result : Result Bounded HorizonError) where
  pub until_max : (stay goals : List Bool) → Answers plain result (written_until dir m stay goals n) → dir ≡ Max
      → IfOk result (λ found. BoundedMax m stay goals n (plain found).values (plain found).steps)
  until_max stay goals is e =
      answered result (written_until Max m stay goals n) (λ a. BoundedMax m stay goals n a.values a.steps)
      (subst (λ (dir : Dir). Answers plain result (written_until dir m stay goals n)) e is) (λ a made. answers_are_greatest m stay goals n a known_ made)

  pub until_min : (stay goals : List Bool) → Answers plain result (written_until dir m stay goals n) → dir ≡ Min
      → IfOk result (λ found. BoundedMin m stay goals n (plain found).values (plain found).steps)
  until_min stay goals is e =
      answered result (written_until Min m stay goals n) (λ a. BoundedMin m stay goals n a.values a.steps)
      (subst (λ (dir : Dir). Answers plain result (written_until dir m stay goals n)) e is) (λ a made. answers_are_least m stay goals n a known_ made)

  pub total_max : (r : ℕ) → r < length m.names → Answers plain result (written_total dir m r n) → dir ≡ Max
      → IfOk result (λ found. TotalMax m r n (plain found).values (plain found).steps)
  total_max r named is e =
      answered result (written_total Max m r n) (λ a. TotalMax m r n a.values a.steps)
      (subst (λ (dir : Dir). Answers plain result (written_total dir m r n)) e is) (λ a made. totals_are_greatest m r n a known_ named made)

  pub total_min : (r : ℕ) → r < length m.names → Answers plain result (written_total dir m r n) → dir ≡ Min
      → IfOk result (λ found. TotalMin m r n (plain found).values (plain found).steps)
  total_min r named is e =
      answered result (written_total Min m r n) (λ a. TotalMin m r n a.values a.steps)
      (subst (λ (dir : Dir). Answers plain result (written_total dir m r n)) e is) (λ a made. totals_are_least m r n a known_ named made)
