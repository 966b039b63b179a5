-- What the code's contracts say beside the definitions.
use Rattle.std.specs.{Prelude.{◌≡◌, ℕ, ◌<◌, List, length, take, slice_index, Option, Result, Ok, Err, Vec}, Global.{Global}}
use Rattle.mdp_math.specs.Rational.{ℚ}
use Rattle.mdp_spec.specs.{Mdp.{Mdp, states_of, choices_at, value_at}, Tree.{IsPolicy}}
use Rattle.mdp_rows.specs.{declared.dir.Dir.{Dir}, Better.{IsAsGood}}
use Rattle.mdp_wide.specs.{declared.too_wide.Kind.{Kind}, declared.too_wide.Part.TheVariants.{Whole}, Errors.{SolveError}, Term.{shown}}
use Rattle.mdp_wide.specs.declared.unfinished.Unfinished.TheVariants as solve
use Rattle.mdp_policy_iteration.specs.{Iteration.{EndsWith}, Path.{Found, Refusal, path_step}, Laws.{first}, Ends.{capped}, Queries.{term_of}}
use Rattle.mdp_policy_iteration.specs.{declared.solution.Solution.{Solution}, declared.solution.WideAt.{WideAt}}
use Rattle.mdp_discount_rules.specs.Rules.{discounted}
use Rattle.mdp_discount.specs.{Problem.{discount_problem}, Query.{start_of, cut_found, cut_refusal}}

-- what was found in round n
abbrev pub found_of : ℕ → Solution → Found
found_of n found = record { number = n; policy = found.policy.items; values = found.values.items }

-- a term past width in round n of a path, with its policy of so many states
abbrev pub cut_term : ℕ → WideAt → ℕ → Refusal
cut_term states w n = record { number = n; policy = take states w.policy.items; place = record { kind = w.kind; node = w.node; choice = w.choice } }

-- a term past width after the last round
abbrev pub wide_after : ℕ → Vec ℕ Global → Kind → Option ℕ → Option ℕ → SolveError
wide_after round policy kind state choice = solve.TooWide (record { part = Whole; round = round; policy = policy; kind = kind; state = state; choice = choice })

-- a path's end, of the states alone
abbrev pub PathEnds : Dir → Mdp → ℕ → ℚ → Result Solution SolveError → Type 0
PathEnds dir m r f (Ok found) =
    (n : ℕ) × (found.round ≡ capped n) × (end : Found) × EndsWith (path_step (discount_problem dir m r f)) (first (start_of m)) (Ok end)
    × (found_of n found ≡ cut_found (states_of m) end)
PathEnds dir m r f (Err (solve.TooWide w)) =
    (n : ℕ) × (w.round ≡ capped n) × (end : Refusal) × EndsWith (path_step (discount_problem dir m r f)) (first (start_of m)) (Err end)
    × (shown w n ≡ term_of Whole (cut_refusal (states_of m) end))
PathEnds dir m r f (Err solve.Memory) = Unit {0}

-- the values are those of the policy, and as good as each choice
pub record IsFound (dir : Dir) (m : Mdp) (r : ℕ) (f : ℚ) (policy : List ℕ) (v : List ℚ) : Type 0 where
  pub one_each : length v ≡ states_of m
  pub choices : IsPolicy m policy
  pub covers : (s c : ℕ) → s < states_of m → c < length (choices_at m s) → IsAsGood dir (value_at v s) (discounted m r f s c v)
  pub reached : (s : ℕ) → s < states_of m → value_at v s ≡ discounted m r f s (slice_index policy s) v
