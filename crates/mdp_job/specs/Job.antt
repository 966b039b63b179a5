-- The jobs, as contracts see them, and the words that name the files of each.
use Rattle.std.specs.Prelude.{ℕ, Bool, List, Option, Some, None, option_map, is_some, Result, Ok, Err}
use Rattle.mdp_math.specs.Rational.{ℚ}
use Rattle.mdp_rows.specs.{declared.dir.Dir.{Dir}, declared.rule.RowRule.{RowRule}}
use Rattle.mdp_job.specs.{declared.job.Query.{Query}, declared.job.Task.{Task}, declared.job.PairTask.{PairTask}, declared.job.Job.{Job}}
use Rattle.mdp_job.specs.{declared.files.Files.{Files}, declared.words_error.WordsError.{WordsError}}
use Rattle.mdp_job.specs.declared.job.Query.TheVariants as query
use Rattle.mdp_job.specs.declared.job.Task.TheVariants as task
use Rattle.mdp_job.specs.declared.job.PairTask.TheVariants as pair
use Rattle.mdp_job.specs.declared.job.Job.TheVariants as job

-- what is to be solved: the probability of reaching a label, that of reaching a label by way of another one alone, the reward of a name until a label,
-- or the mean payoff of a name
pub data PlainQuery : Type 0 where
  reach : List ℕ → PlainQuery
  until : List ℕ → List ℕ → PlainQuery
  reward : List ℕ → List ℕ → PlainQuery
  mean : List ℕ → PlainQuery

-- what is asked of a model
pub data PlainTask : Type 0 where
  -- the best values, in the direction, and a policy
  solve : Dir → PlainQuery → PlainTask
  -- a subsystem on which the best probability, in the direction, of reaching a label, on a way that keeps to states of another label, or to any, is at
  -- least a threshold
  witness : Dir → Option (List ℕ) → List ℕ → ℚ → PlainTask
  -- the best probability, in the direction, of reaching a label within so many steps, on a way that keeps to states of another label, or to any
  horizon : Dir → Option (List ℕ) → List ℕ → ℕ → PlainTask
  -- the best total of the rewards of a name, in the direction, within so many steps
  total : Dir → List ℕ → ℕ → PlainTask
  -- the best reward of a name, in the direction, each step discounted by the factor
  discount : Dir → List ℕ → ℚ → PlainTask
  -- bounds of the best values, in the direction, which are looked for with so many digits, and a policy
  bounds : Dir → PlainQuery → ℕ → PlainTask
  -- bounds, of so many digits, of what `horizon`, `total` and `discount` ask for
  bounds_until : Dir → Option (List ℕ) → List ℕ → ℕ → ℕ → PlainTask
  bounds_total : Dir → List ℕ → ℕ → ℕ → PlainTask
  bounds_discount : Dir → List ℕ → ℚ → ℕ → PlainTask
  -- a subsystem as `witness` asks for, shown by bounds
  bounds_witness : Dir → Option (List ℕ) → List ℕ → ℚ → PlainTask
  -- bounds, so many digits near, of what `horizon` and `total` ask for at the one initial state, for each number of steps up to this one
  curve_until : Dir → Option (List ℕ) → List ℕ → ℕ → ℕ → PlainTask
  curve_total : Dir → List ℕ → ℕ → ℕ → PlainTask

-- what is asked of a model and of a second file
pub data PlainPairTask : Type 0 where
  -- whether a certificate holds
  check : PlainPairTask
  -- the probabilities with which a given policy reaches a label, on a way that keeps to states of another label, or to any, and where another choice is
  -- better
  policy : Option (List ℕ) → List ℕ → PlainPairTask
  -- the model in which each state keeps only the choice that a given policy names
  chain : PlainPairTask
  -- whether a certificate of discounted rewards holds
  discount_check : PlainPairTask
  -- whether a certificate of bounds holds
  bounds_check : PlainPairTask

pub data PlainJob : Type 0 where
  -- a task on the model of a file, read under the row rule
  on_model : RowRule → PlainTask → PlainJob
  -- a task on such a model and on a second file
  on_pair : RowRule → PlainPairTask → PlainJob
  -- the query of a layered model that is drawn from a number: with so many layers of so many states
  drill : ℕ → ℕ → ℕ → PlainJob

-- what words ask for: a job, or why they are none
abbrev pub Asked : Type 0
Asked = Result PlainJob WordsError

-- ---- the values of the program's types

abbrev pub plain_query : Query → PlainQuery
plain_query (query.Reach label) = reach label.now
plain_query (query.Until stay label) = until stay.now label.now
plain_query (query.Reward name label) = reward name.now label.now
plain_query (query.Mean name) = mean name.now

abbrev pub plain_task : Task → PlainTask
plain_task (task.Solve dir query) = solve dir (plain_query query)
plain_task (task.Witness dir stay label threshold) = witness dir (option_map (λ name. name.now) stay) label.now threshold
plain_task (task.Horizon dir stay label steps) = horizon dir (option_map (λ name. name.now) stay) label.now steps
plain_task (task.Total dir name steps) = total dir name.now steps
plain_task (task.Discount dir name factor) = discount dir name.now factor
plain_task (task.Bounds dir query digits) = bounds dir (plain_query query) digits
plain_task (task.BoundsUntil dir stay label steps digits) = bounds_until dir (option_map (λ name. name.now) stay) label.now steps digits
plain_task (task.BoundsTotal dir name steps digits) = bounds_total dir name.now steps digits
plain_task (task.BoundsDiscount dir name factor digits) = bounds_discount dir name.now factor digits
plain_task (task.BoundsWitness dir stay label threshold) = bounds_witness dir (option_map (λ name. name.now) stay) label.now threshold
plain_task (task.CurveUntil dir stay label steps digits) = curve_until dir (option_map (λ name. name.now) stay) label.now steps digits
plain_task (task.CurveTotal dir name steps digits) = curve_total dir name.now steps digits

abbrev pub plain_pair : PairTask → PlainPairTask
plain_pair pair.Check = check
plain_pair (pair.Policy stay label) = policy (option_map (λ name. name.now) stay) label.now
plain_pair pair.Chain = chain
plain_pair pair.DiscountCheck = discount_check
plain_pair pair.BoundsCheck = bounds_check

abbrev pub plain_job : Job → PlainJob
plain_job (job.OnModel rule task) = on_model rule (plain_task task)
plain_job (job.OnPair rule task) = on_pair rule (plain_pair task)
plain_job (job.Drill number layers width) = drill number layers width

abbrev pub asked_task : Result Task WordsError → Result PlainTask WordsError
asked_task (Ok task) = Ok (plain_task task)
asked_task (Err e) = Err e

abbrev pub asked : Result Job WordsError → Asked
asked (Ok job) = Ok (plain_job job)
asked (Err e) = Err e

-- ---- the files of a job

-- the places of the words that name the model's file and the second one
abbrev pub files_of : Asked → Files
files_of (Ok (on_model rule task)) = record { model = Some 1; second = None }
files_of (Ok (on_pair rule task)) = record { model = Some 1; second = Some 3 }
files_of (Ok (drill number layers width)) = record { model = None; second = None }
files_of (Err e) = record { model = None; second = None }

abbrev pub reads_model : Asked → Bool
reads_model job = is_some (files_of job).model

abbrev pub reads_second : Asked → Bool
reads_second job = is_some (files_of job).second
