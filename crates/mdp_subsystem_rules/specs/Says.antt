-- What each rule says of a place, in exact numbers: of a state, of a choice c of a state where the rule looks at one, or of no place. A rule that is
-- never asked at such a place says nothing.
use Rattle.std.specs.{Prelude.{◌≡◌, ℕ, ◌<◌, ◌⊎◌, Bool, true, false, List, slice_index, All, Option, Some, None}, List.{Any}}
use Rattle.mdp_math.specs.Rational.{ℚ, ◌+ℚ◌, ◌≤ℚ◌, ◌<ℚ◌}
use Rattle.mdp_spec.specs.{Mdp.{Mdp, states_of, row_at, value_at}, Tree.{is_marked}}
use Rattle.mdp_farkas.specs.{Compare.{0ℚ}, Says.{IsChoice, IsProbability}}
use Rattle.mdp_claims.specs.{declared.subsystem.Flow.{Flow}, declared.rule.Rule.{Rule}}
use Rattle.mdp_claims.specs.declared.rule.Rule.TheVariants.{ChoiceExists, StateIsKept, FlowsBalance, FlowsReachGoals}
use Rattle.mdp_claims.specs.declared.rule.Rule.TheVariants.{Probability, ValueOnEachChoice, RankZero, RankFalls, StartReachesThreshold}
use Rattle.mdp_subsystem_rules.specs.Flow.{outflow, inflow, source, flow_value}
use Rattle.mdp_subsystem_rules.specs.Floor.{counted_value, counted_rank, counted_sum}

-- s is a kept state
abbrev pub IsKept : Mdp → List Bool → ℕ → Type 0
IsKept m kept s = (s < states_of m) × (is_marked kept s ≡ true)

-- ---- a flow

-- P holds of the amount of each flow that takes choice c of state s
abbrev pub EachAmount : List Flow → ℕ → ℕ → (ℚ → Type 0) → Type 0
EachAmount flows s c P = All (λ f. f.state ≡ s → f.choice ≡ c → P f.amount) flows

module _ (m : Mdp) (goals kept : List Bool) (flows : List Flow) (start : ℕ) (threshold : ℚ) where
  -- what the rule says of this state, and of this choice
  abbrev pub FlowSays : Rule → Option ℕ → Option ℕ → Type 0
  FlowSays ChoiceExists (Some s) (Some c) = EachAmount flows s c (λ amount. IsChoice m s c)
  FlowSays StateIsKept (Some s) None = IsKept m kept s → is_marked goals s ≡ false
  FlowSays StateIsKept (Some s) (Some c) = EachAmount flows s c (λ amount. (is_marked kept s ≡ true) × (0ℚ <ℚ amount))
  FlowSays FlowsBalance (Some s) None = IsKept m kept s → outflow flows s ≤ℚ source start s +ℚ inflow m flows s
  FlowSays FlowsReachGoals None None = threshold ≤ℚ flow_value m goals flows start
  FlowSays rule state choice = Unit {0}

-- ---- a floor

module _ (m : Mdp) (goals kept : List Bool) (z : List ℚ) (ranks : List ℕ) (start : ℕ) (threshold : ℚ) where
  -- an entry of the row of choice c at s counts with a smaller rank
  abbrev pub FallsTo : ℕ → ℕ → Type 0
  FallsTo s c = Any (λ y. counted_rank goals kept ranks y.target < slice_index ranks s) (row_at m s c)

  -- what the rule says of this state, and of this choice
  abbrev pub FloorSays : Rule → Option ℕ → Option ℕ → Type 0
  FloorSays Probability (Some s) None = IsKept m kept s → IsProbability (value_at z s)
  FloorSays ValueOnEachChoice (Some s) (Some c) =
      IsKept m kept s → is_marked goals s ≡ false → IsChoice m s c → value_at z s ≤ℚ counted_sum goals kept z (row_at m s c)
  FloorSays RankZero (Some s) None = IsKept m kept s → (is_marked goals s ≡ true) ⊎ (value_at z s ≡ 0ℚ) → slice_index ranks s ≡ 0
  FloorSays RankFalls (Some s) (Some c) = IsKept m kept s → is_marked goals s ≡ false → 0ℚ <ℚ value_at z s → IsChoice m s c → FallsTo s c
  FloorSays StateIsKept (Some s) None = IsKept m kept s → is_marked goals s ≡ false
  FloorSays StartReachesThreshold None None = threshold ≤ℚ counted_value goals kept z start
  FloorSays rule state choice = Unit {0}
