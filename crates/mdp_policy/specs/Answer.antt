-- What the code answers, beside the definitions.
use Rattle.std.specs.Prelude.{◌≡◌, ℕ, Bool, List, Option, Some, Result, Ok, Err}
use Rattle.mdp_spec.specs.{Mdp.{Mdp, states_of}, Tree.{is_marked}}
use Rattle.mdp_wide.specs.{declared.too_wide.Part.TheVariants.{Whole}, declared.too_wide.TooWide.{TooWide}, Errors.{SolveError}}
use Rattle.mdp_wide.specs.declared.unfinished.Unfinished.TheVariants as error
use Rattle.mdp_graph.specs.{Layers.{AreReached}, Reach.{row_step}}
use Rattle.mdp_policy_iteration.specs.{Places.{Place}, Errors.{RoundError}}
use Rattle.mdp_reach.specs.Query.{policy_rows}
use Rattle.mdp_policy.specs.{Way.{way_model, way_policy}, Written.{Answer, written_value}, declared.value.PolicyValue.{PolicyValue}}

abbrev pub plain : PolicyValue → Answer
plain v = record { values = v.values.items; up = v.up; down = v.down }

-- ---- the value of a policy

-- its computation ends so, for reaching a goal
pub record IsValueOf (m : Mdp) (goals : List Bool) (policy : List ℕ) (r : Result Answer Place) : Type 0 where
  -- the states from which the policy can reach a goal
  pub marks : List Bool
  pub reached : AreReached (row_step (policy_rows m policy)) (is_marked goals) (states_of m) marks
  pub is : written_value m goals marks policy ≡ r

-- the same for coming to a goal by way of the states that stay, where these are given
abbrev pub IsAnswerOn : Mdp → Option (List Bool) → List Bool → List ℕ → Result Answer Place → Type 0
IsAnswerOn m stay goals policy r = IsValueOf (way_model m stay goals) goals (way_policy stay goals policy) r

-- the term past width at this place: of the whole model, in round 0, with the policy
pub record IsTermAt (policy : List ℕ) (place : Place) (w : TooWide) : Type 0 where
  pub part : w.part ≡ Whole
  pub round : w.round ≡ 0
  pub policy_is : w.policy.items ≡ policy
  pub kind : w.kind ≡ place.kind
  pub state : w.state ≡ Some place.node
  pub choice : w.choice ≡ Some place.choice

-- what is answered: the value, the first term past width, or want of memory
abbrev pub Gives : Mdp → List Bool → List ℕ → Result PolicyValue SolveError → Type 0
Gives m goals policy (Ok v) = IsValueOf m goals policy (Ok (plain v))
Gives m goals policy (Err (error.TooWide w)) = (place : Place) × IsTermAt policy place w × IsValueOf m goals policy (Err place)
Gives m goals policy (Err error.Memory) = Unit {0}

-- a term past width is named as it stands on the way: by a state and a choice of the model, and with the policy that is read there
abbrev pub GivesOn : Mdp → Option (List Bool) → List Bool → List ℕ → Result PolicyValue SolveError → Type 0
GivesOn m stay goals policy result = Gives (way_model m stay goals) goals (way_policy stay goals policy) result

-- the error of a place as that of a query
abbrev pub Named : List ℕ → RoundError → SolveError → Type 0
Named policy (error.TooWide place) (error.TooWide w) = IsTermAt policy place w
Named policy (error.TooWide place) error.Memory = Unit {0}
Named policy error.Memory (error.TooWide w) = ⊥
Named policy error.Memory error.Memory = Unit {0}
