-- The rules for a flow, in exact numbers: a flow from the start to the goals along the choices of kept states (Funke, Jantsch and Baier 2020).
-- No kept state lets out more than what comes in, where the start gets 1 from outside; and what comes to the goals is the threshold at least.
use Rattle.std.specs.Prelude.{◌≡◌, ◌==◌, ℕ, ◌<◌, Bool, true, false, List, length, pos, All, if◌then◌else◌}
use Rattle.mdp_math.specs.{Rational.{ℚ, of_int, ◌+ℚ◌, ◌*ℚ◌, ◌≤ℚ◌, ◌<ℚ◌}, Pivot.{entry_at}, Sum.{sum_of}}
use Rattle.mdp_spec.specs.{Mdp.{Entry, Mdp, states_of, choices_at, row_at}, Tree.{is_marked}}
use Rattle.mdp_claims.specs.declared.subsystem.Flow.{Flow}

-- the probability that a row leads to state t, and to a goal
abbrev pub prob_to : List Entry → ℕ → ℚ
prob_to row t = entry_at (λ x. x.target) (λ x. x.prob) row t

abbrev pub prob_to_goals : List Bool → List Entry → ℚ
prob_to_goals goals row = sum_of (λ x. if is_marked goals x.target then x.prob else of_int (pos 0)) row

-- the row that a flow takes
abbrev pub flow_row : Mdp → Flow → List Entry
flow_row m f = row_at m f.state f.choice

-- what leaves state s, what comes to it along the flows, and what comes to the goals
abbrev pub outflow : List Flow → ℕ → ℚ
outflow flows s = entry_at (λ f. f.state) (λ f. f.amount) flows s

abbrev pub inflow : Mdp → List Flow → ℕ → ℚ
inflow m flows s = sum_of (λ f. f.amount *ℚ prob_to (flow_row m f) s) flows

abbrev pub goal_flow : Mdp → List Bool → List Flow → ℚ
goal_flow m goals flows = sum_of (λ f. f.amount *ℚ prob_to_goals goals (flow_row m f)) flows

-- the sum of the flows
abbrev pub flow_total : List Flow → ℚ
flow_total flows = sum_of (λ f. f.amount) flows

-- what comes from outside: 1 at the start; and to the goals 1 where the start is a goal
abbrev pub source : ℕ → ℕ → ℚ
source start s = if s == start then of_int (pos 1) else of_int (pos 0)

abbrev pub goal_source : List Bool → ℕ → ℚ
goal_source goals start = if is_marked goals start then of_int (pos 1) else of_int (pos 0)

-- what comes to the goals in all
abbrev pub flow_value : Mdp → List Bool → List Flow → ℕ → ℚ
flow_value m goals flows start = goal_source goals start +ℚ goal_flow m goals flows

-- a flow takes a choice that a kept state has, and its amount is above 0
pub record IsFlow (m : Mdp) (kept : List Bool) (f : Flow) : Type 0 where
  pub keeps : is_marked kept f.state ≡ true
  pub choice : f.choice < length (choices_at m f.state)
  pub positive : of_int (pos 0) <ℚ f.amount

pub record MeetsFlow (m : Mdp) (goals kept : List Bool) (flows : List Flow) (start : ℕ) (threshold : ℚ) : Type 0 where
  -- no kept state is a goal
  pub no_goal : (s : ℕ) → s < states_of m → is_marked kept s ≡ true → is_marked goals s ≡ false
  pub each : All (IsFlow m kept) flows
  -- what leaves a kept state is at most what comes in
  pub balanced : (s : ℕ) → s < states_of m → is_marked kept s ≡ true → outflow flows s ≤ℚ source start s +ℚ inflow m flows s
  pub reached : threshold ≤ℚ flow_value m goals flows start
