-- What is said of a query, by its fields.
use Rattle.std.specs.Prelude.{ℕ, Bool, List}
use Rattle.mdp_math.specs.Rational.{ℚ}
use Rattle.mdp_spec.specs.{Mdp.{Mdp, states_of}, Bounds.{SubMax, SubMin}, Sub.{sub_of}}
use Rattle.mdp_rows.specs.declared.dir.Dir.{Dir}
use Rattle.mdp_claims.specs.declared.bounds.ReachBoundsCert.{ReachBoundsCert}
use Rattle.mdp_bounds.specs.Reach.{IsReachBounds, IsTrivialReach}
use Rattle.mdp_witness.specs.{Query.{PlainSubsystem}, Shown.{kept_in}}
use Rattle.mdp_subsystem_search.specs.Shown.{ones, named, LieBetween}
use Rattle.mdp_subsystem_search.specs.declared.query.Query.{Query}

-- what is said of its model, of another model with its goals, or of that of kept states
abbrev pub for_query : {A : Type 1} → Query → (Dir → Mdp → List Bool → ℕ → ℚ → A) → A
for_query q said = said q.dir q.model.now q.goals.now q.start q.threshold

abbrev pub for_model : {A : Type 1} → Query → Mdp → (Dir → Mdp → List Bool → ℕ → ℚ → A) → A
for_model q model said = said q.dir model q.goals.now q.start q.threshold

abbrev pub for_kept : {A : Type 1} → Query → List Bool → (Dir → Mdp → List Bool → ℕ → ℚ → A) → A
for_kept q kept said = for_model q (sub_of q.model.now q.goals.now kept) said

-- the states that an exact subsystem keeps come to the threshold
abbrev pub KeepsMax : Query → PlainSubsystem → Type 0
KeepsMax q found = SubMax q.model.now q.goals.now (kept_in q.model.now found) q.start q.threshold

abbrev pub KeepsMin : Query → PlainSubsystem → Type 0
KeepsMin q found = SubMin q.model.now q.goals.now (kept_in q.model.now found) q.start q.threshold

-- the best probabilities of a model, and those of the policy, lie between the values of a certificate
abbrev pub LiesBetween : Query → Mdp → ReachBoundsCert → Type 0
LiesBetween q model cert = LieBetween q.dir model q.goals.now cert.lower.items cert.upper.items cert.choices.items

-- a certificate that says nothing
abbrev pub IsTrivial : Query → Mdp → ReachBoundsCert → Type 0
IsTrivial q model cert = IsTrivialReach model q.goals.now cert.lower.items cert.upper.items cert.choices.items cert.ranks.items

-- lower values that meet the rules on a model, with 1 for each upper value and, for the least probability, no choice named
abbrev pub AreLowerBounds : Query → Mdp → List ℚ → List ℕ → List ℕ → Type 0
AreLowerBounds q model lower choices ranks =
    IsReachBounds q.dir model q.goals.now lower (ones q.model.now) (named q.dir (states_of q.model.now) choices) ranks
