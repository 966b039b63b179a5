-- What the code answers to a path.
use Rattle.std.specs.{Prelude.{◌≡◌, ℕ, ◌-◌, ◌^◌, min, List, Some, Result, Ok, Err, Vec}, Global.{Global}}
use Rattle.mdp_math.specs.Rational.{ℚ}
use Rattle.mdp_rows.specs.declared.preds.Pred.{Pred}
use Rattle.mdp_wide.specs.{declared.too_wide.Part.{Part}, declared.too_wide.TooWide.{TooWide}, Errors.{SolveError}}
use Rattle.mdp_wide.specs.declared.unfinished.Unfinished.TheVariants as error
use Rattle.mdp_policy_iteration.specs.{Iteration.{Step, refused, EndsWith}, Problem.{Problem}, Path.{Round, Found, Refusal, path_step}, Laws.{first}}
use Rattle.mdp_policy_iteration.specs.{Errors.{RoundError, PathError}, Changes.{step_by}, declared.best_policy.Last.{Last}}
use Rattle.mdp_policy_iteration.specs.{declared.solution.Solution.{Solution}, declared.solution.WideAt.{WideAt}}

-- round n of a policy with these values: its changes, of which there are none at its end; the place of the first term past width; or want of memory
abbrev pub Makes : ℕ → List ℕ → List ℚ → Result (Vec Pred Global) RoundError → Step Round Found Refusal → Type 0
Makes n policy values (Ok changes) step = step ≡ step_by n policy values changes.items
Makes n policy values (Err (error.TooWide place)) step = step ≡ refused (record { number = n; policy = policy; place = place })
Makes n policy values (Err error.Memory) step = Unit {0}

-- the error of a round, with the round and its policy
abbrev pub path_error : RoundError → ℕ → Vec ℕ Global → PathError
path_error (error.TooWide place) round policy = error.TooWide (record { round = round; policy = policy; kind = place.kind; node = place.node; choice = place.choice })
path_error error.Memory round policy = error.Memory

-- a round above 2^64 - 1 is given as 2^64 - 1
abbrev pub capped : ℕ → ℕ
capped n = min n (2 ^ 64 - 1)

-- the path ends with this error
abbrev pub IsRefused : Problem → List ℕ → PathError → Type 0
IsRefused p start (error.TooWide w) =
    (n : ℕ) × (w.round ≡ capped n)
    × EndsWith (path_step p) (first start) (Err (record { number = n; policy = w.policy.items; place = record { kind = w.kind; node = w.node; choice = w.choice } }))
IsRefused p start error.Memory = Unit {0}

-- it ends in this round with this policy, of these values
abbrev pub IsLast : Problem → List ℕ → ℕ → List ℕ → List ℚ → Type 0
IsLast p start round policy values =
    (n : ℕ) × (round ≡ capped n) × EndsWith (path_step p) (first start) (Ok (record { number = n; policy = policy; values = values }))

-- the path's end
abbrev pub Ends : Problem → List ℕ → Result Solution PathError → Type 0
Ends p start (Ok found) = IsLast p start found.round found.policy.items found.values.items
Ends p start (Err e) = IsRefused p start e

-- the same of its last policy, whose values stand beside it
abbrev pub EndsWithLast : Problem → List ℕ → List ℚ → Result Last PathError → Type 0
EndsWithLast p start values (Ok last) = IsLast p start last.round last.policy.items values
EndsWithLast p start values (Err e) = IsRefused p start e

-- the same term as one of a part of a query
abbrev pub wide_of_part : Part → WideAt → TooWide
wide_of_part part w = record { part = part; round = w.round; policy = w.policy; kind = w.kind; state = Some w.node; choice = Some w.choice }

abbrev pub error_of_part : Part → PathError → SolveError
error_of_part part (error.TooWide w) = error.TooWide (wide_of_part part w)
error_of_part part error.Memory = error.Memory
