-- What the code's contracts say beside the definitions.
use Rattle.std.specs.Prelude.{◌≡◌, ℕ, ◌<◌, Bool, true, length}
use Rattle.mdp_spec.specs.Mdp.{State, Choice, Mdp, states_of, choices_at}
use Rattle.mdp_ends.specs.Ends.{count_of, in_part}
use Rattle.mdp_parts.specs.FoundEnds.{AreEndsOf}
use Rattle.mdp_unichain.specs.Part.{members, is_inner}
use Rattle.mdp_gain.specs.{Alone.{choice_alone, state_alone, alone_of}, FoundMembers.{ArePlaces}, declared.alone.OnePart.{OnePart}}

-- what the code holds: one of the maximal end components of its model, with its states and their places, one of the model's reward names, and a model that has
-- more states
pub record IsGiven (x : OnePart) : Type 0 where
  pub ends : AreEndsOf x.model.now x.ends.now
  pub below : x.number < count_of x.ends.now.parts
  pub named : x.name < length x.model.now.names
  pub states : x.states.now ≡ members x.model.now x.ends.now.parts x.number
  pub places : ArePlaces x.model.now x.ends.now.parts x.number x.states.now x.places.now
  pub fewer : length x.states.now < states_of x.model.now

-- a state of the part, and a choice of a state
abbrev pub IsMember : OnePart → ℕ → Type 0
IsMember x s = (s < states_of x.model.now) × (in_part x.ends.now.parts x.number s ≡ true)

abbrev pub HasChoice : OnePart → ℕ → ℕ → Type 0
HasChoice x s c = c < length (choices_at x.model.now s)

-- whether choice c of state s is one of the part
abbrev pub inner_in : OnePart → ℕ → ℕ → Bool
inner_in x s c = is_inner x.model.now x.ends.now.parts x.number s c

-- a choice and a state of the model alone, and that model
abbrev pub choice_in : OnePart → ℕ → ℕ → Choice
choice_in x s c = choice_alone x.model.now x.ends.now.parts x.number x.name x.states.now s c

abbrev pub state_in : OnePart → ℕ → State
state_in x s = state_alone x.model.now x.ends.now.parts x.number x.name x.states.now s

abbrev pub model_in : OnePart → Mdp
model_in x = alone_of x.model.now x.ends.now.parts x.number x.name x.states.now
