-- The shape of a certificate: kept states that ascend strictly, one entry for each in every other list, and flows that ascend strictly by
-- state and then by choice. All states are those of the model.
use Rattle.std.specs.Prelude.{◌≡◌, ◌==◌, ℕ, ◌<◌, Bool, true, ◌&&◌, ◌||◌, nat_lt, List, length, slice_index_or, All, pos}
use Rattle.mdp_math.specs.Rational.{ℚ, of_int}
use Rattle.mdp_spec.specs.Mdp.{Mdp, states_of}
use Rattle.mdp_claims.specs.declared.subsystem.Flow.{Flow}
use Rattle.mdp_subsystem_rules.specs.Kept.{Ascends}

-- whether a flow stands before another one
abbrev pub is_before : Flow → Flow → Bool
is_before f g = nat_lt f.state g.state || (f.state == g.state && nat_lt f.choice g.choice)

-- what stands past the end of a list of flows
abbrev pub no_flow : Flow
no_flow = record { state = 0; choice = 0; amount = of_int (pos 0) }

abbrev pub FlowsAscend : List Flow → Type 0
FlowsAscend flows = (i j : ℕ) → i < j → j < length flows → is_before (slice_index_or flows i no_flow) (slice_index_or flows j no_flow) ≡ true

pub record IsFlowShape (m : Mdp) (kept : List ℕ) (wide : List Bool) (flows : List Flow) : Type 0 where
  pub kept_ascends : Ascends kept
  pub kept_in_range : All (λ s. s < states_of m) kept
  pub one_wide_each : length wide ≡ length kept
  pub flows_ascend : FlowsAscend flows
  pub flows_in_range : All (λ f. f.state < states_of m) flows

pub record IsFloorShape (m : Mdp) (kept : List ℕ) (wide : List Bool) (values : List ℚ) (ranks : List ℕ) : Type 0 where
  pub kept_ascends : Ascends kept
  pub kept_in_range : All (λ s. s < states_of m) kept
  pub one_wide_each : length wide ≡ length kept
  pub one_value_each : length values ≡ length kept
  pub one_rank_each : length ranks ≡ length kept
