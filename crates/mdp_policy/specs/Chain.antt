-- The chain of a policy: the model in which each state keeps only the choice that the policy names (Puterman 1994, section 2.1.6: the Markov
-- chain that a policy and a model make).
use Rattle.std.specs.Prelude.{ℕ, ◌<◌, ◌≤◌, List, [], ◌∷◌, length, slice_index, slice_index_or}
use Rattle.mdp_spec.specs.Mdp.{State, Mdp, no_choice, states_of, choices_at}

-- a state with its choice c alone, which is choice 0 from then on
abbrev pub with_choice : State → ℕ → State
with_choice x c = record x { choices = slice_index_or x.choices c no_choice ∷ [] }

-- each state with the choice at its place
abbrev pub chain_states : List State → List ℕ → List State
chain_states [] policy = []
chain_states (x ∷ states) [] = []
chain_states (x ∷ states) (c ∷ policy) = with_choice x c ∷ chain_states states policy

-- names and labels stay, and so do the labels of each state
unfoldable pub chain_of : Mdp → List ℕ → Mdp
chain_of m policy = record m { states = chain_states m.states policy }

-- a list that is no policy: at some state the choice isn't one of the state's
pub record NamesNoChoice (m : Mdp) (policy : List ℕ) : Type 0 where
  pub state : ℕ
  pub below : state < states_of m
  pub past : length (choices_at m state) ≤ slice_index policy state
