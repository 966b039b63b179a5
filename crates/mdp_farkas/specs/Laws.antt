-- What a no means: a check of the named rule at the named place is false, and so is, in exact numbers, what the rule says of that place; so the rules
-- don't hold in exact numbers.
use Rattle.std.specs.{Prelude.{◌≡◌, ◌↔◌, ℕ, ◌<◌, Bool, true, false, List, ◌∷◌, ◌++◌, length, Option, Some, None, All}, List.{Any}}
use Rattle.mdp_math.specs.Rational.{ℚ, ◌≤ℚ◌}
use Rattle.mdp_spec.specs.{Mdp.{Mdp, states_of, choices_at, choice_at}, Unit.{reward_of}, Rules.{MeetsUpper}}
use Rattle.mdp_farkas.specs.{Compare.{0ℚ}, Verdict.{Check, verdict_of}, Upper.{upper_checks}, Reach.{reach_checks, MeetsReach}}
use Rattle.mdp_farkas.specs.{Reward.{reward_checks, MeetsReward}, Mean.{mean_checks, MeetsMean}, Says.{UpperSays, ReachSays, RewardSays, MeanSays}}
use Rattle.mdp_rows.specs.declared.dir.Dir.{Dir}
use Rattle.mdp_claims.specs.{declared.rule.Rule.{Rule}, declared.verdict.Fault.{Fault}, declared.verdict.Verdict.TheVariants.{No, Wide}}

-- the check is of the rule and at the place that the fault names, and it is false
abbrev pub IsFalse : Fault → Check → Type 0
IsFalse fault c = (c.rule ≡ fault.rule) × (c.state ≡ fault.state) × (c.choice ≡ fault.choice) × (c.holds ≡ Some false)

-- a list of checks has one that meets P, and all before it hold
pub record IsFirst (P : Check → Type 0) (checks : List Check) : Type 0 where
  pub before : List Check
  pub one : Check
  pub behind : List Check
  pub split : checks ≡ before ++ (one ∷ behind)
  pub hold : All (λ c. c.holds ≡ Some true) before
  pub meets : P one

-- a check at a place that has a term past width
abbrev pub IsWideAt : Option ℕ → Option ℕ → Check → Type 0
IsWideAt state choice c = (c.state ≡ state) × (c.choice ≡ choice) × (c.holds ≡ None)

-- where the answer is a term past width, all checks before the one at that place hold; and so do those before the one that a no names
abbrev pub WideIsFirst : Type 0
WideIsFirst = (checks : List Check) (state choice : Option ℕ) → verdict_of checks ≡ Wide state choice → IsFirst (IsWideAt state choice) checks

abbrev pub NoIsFirst : Type 0
NoIsFirst = (checks : List Check) (fault : Fault) → verdict_of checks ≡ No fault → IsFirst (IsFalse fault) checks

-- a list of checks that is answered no has one that is false, of the rule and at the place that are named
abbrev pub NoIsFalse : Type 0
NoIsFalse = (checks : List Check) (fault : Fault) → verdict_of checks ≡ No fault → Any (IsFalse fault) checks

-- where the values meet the rules of an upper bound, the checks end with yes or with a term past width
abbrev pub UpperNeverNo : Type 0
UpperNeverNo = (m : Mdp) (goals : List Bool) (z : List ℚ) (fault : Fault) → MeetsUpper m goals z → verdict_of (upper_checks m goals z) ≡ No fault → ⊥

-- and so where values, policy and ranks meet those of probabilities
abbrev pub ReachNeverNo : Type 0
ReachNeverNo =
    (dir : Dir) (m : Mdp) (goals : List Bool) (z : List ℚ) (policy ranks : List ℕ) (fault : Fault) → MeetsReach dir m goals z policy ranks
    → verdict_of (reach_checks dir m goals z policy ranks) ≡ No fault → ⊥

-- those of rewards until a goal, where no reward is below 0
abbrev pub RewardNeverNo : Type 0
RewardNeverNo =
    (dir : Dir) (m : Mdp) (r : ℕ) (goals : List Bool) (v : List (Option ℚ)) (policy ranks : List ℕ) (fault : Fault)
    → ((s c : ℕ) → s < states_of m → c < length (choices_at m s) → 0ℚ ≤ℚ reward_of (choice_at m s c) r) → MeetsReward dir m r goals v policy ranks
    → verdict_of (reward_checks dir m r goals v policy ranks) ≡ No fault → ⊥

-- and those of mean payoffs
abbrev pub MeanNeverNo : Type 0
MeanNeverNo =
    (dir : Dir) (m : Mdp) (r : ℕ) (g a b : List ℚ) (spread : ℚ) (policy : List ℕ) (fault : Fault) → MeetsMean dir m r g a b spread policy
    → verdict_of (mean_checks dir m r g a b spread policy) ≡ No fault → ⊥

-- ---- in exact numbers

-- the state that a no names is one of the model
abbrev pub IsInModel : Mdp → Fault → Type 0
IsInModel m fault = (s : ℕ) → fault.state ≡ Some s → s < states_of m

-- and what the rule that it names says of that place is false: of an upper bound
abbrev pub UpperNoRefutes : Type 0
UpperNoRefutes =
    (m : Mdp) (goals : List Bool) (z : List ℚ) (fault : Fault) → verdict_of (upper_checks m goals z) ≡ No fault
    → IsInModel m fault × (UpperSays m goals z fault.rule fault.state fault.choice → ⊥)

-- of probabilities
abbrev pub ReachNoRefutes : Type 0
ReachNoRefutes =
    (dir : Dir) (m : Mdp) (goals : List Bool) (z : List ℚ) (policy ranks : List ℕ) (fault : Fault)
    → verdict_of (reach_checks dir m goals z policy ranks) ≡ No fault
    → IsInModel m fault × (ReachSays dir m goals z policy ranks fault.rule fault.state fault.choice → ⊥)

-- of rewards until a goal
abbrev pub RewardNoRefutes : Type 0
RewardNoRefutes =
    (dir : Dir) (m : Mdp) (r : ℕ) (goals : List Bool) (v : List (Option ℚ)) (policy ranks : List ℕ) (fault : Fault)
    → verdict_of (reward_checks dir m r goals v policy ranks) ≡ No fault
    → IsInModel m fault × (RewardSays dir m r goals v policy ranks fault.rule fault.state fault.choice → ⊥)

-- and of mean payoffs
abbrev pub MeanNoRefutes : Type 0
MeanNoRefutes =
    (dir : Dir) (m : Mdp) (r : ℕ) (g a b : List ℚ) (spread : ℚ) (policy : List ℕ) (fault : Fault)
    → verdict_of (mean_checks dir m r g a b spread policy) ≡ No fault
    → IsInModel m fault × (MeanSays dir m r g a b spread policy fault.rule fault.state fault.choice → ⊥)

-- what the rules say of all places is together what they ask in exact numbers: of an upper bound
abbrev pub UpperSaysAll : Type 0
UpperSaysAll = (m : Mdp) (goals : List Bool) (z : List ℚ) → MeetsUpper m goals z ↔ ((rule : Rule) (state choice : Option ℕ) → UpperSays m goals z rule state choice)

-- of probabilities, where the policy has one choice for each state
abbrev pub ReachSaysAll : Type 0
ReachSaysAll =
    (dir : Dir) (m : Mdp) (goals : List Bool) (z : List ℚ) (policy ranks : List ℕ) → length policy ≡ states_of m
    → MeetsReach dir m goals z policy ranks ↔ ((rule : Rule) (state choice : Option ℕ) → ReachSays dir m goals z policy ranks rule state choice)

-- of rewards until a goal, where there is also one value for each state, and a reward of name r
abbrev pub RewardSaysAll : Type 0
RewardSaysAll =
    (dir : Dir) (m : Mdp) (r : ℕ) (goals : List Bool) (v : List (Option ℚ)) (policy ranks : List ℕ) → r < length m.names → length v ≡ states_of m → length policy ≡ states_of m
    → (MeetsReward dir m r goals v policy ranks × ((s c : ℕ) → s < states_of m → c < length (choices_at m s) → 0ℚ ≤ℚ reward_of (choice_at m s c) r))
    ↔ ((rule : Rule) (state choice : Option ℕ) → RewardSays dir m r goals v policy ranks rule state choice)

-- and of mean payoffs
abbrev pub MeanSaysAll : Type 0
MeanSaysAll =
    (dir : Dir) (m : Mdp) (r : ℕ) (g a b : List ℚ) (spread : ℚ) (policy : List ℕ)
    → r < length m.names → length a ≡ states_of m → length b ≡ states_of m → length policy ≡ states_of m
    → MeetsMean dir m r g a b spread policy ↔ ((rule : Rule) (state choice : Option ℕ) → MeanSays dir m r g a b spread policy rule state choice)
