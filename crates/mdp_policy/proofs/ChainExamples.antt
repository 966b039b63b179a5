-- Small chains, computed.
use Rattle.std.proofs.Common.{◌≡◌, ℕ, List, [], ◌∷◌, refl, pos, arith}
use Rattle.std.specs.Prelude.{codes}
use Rattle.mdp_math.specs.Rational.{of_int}
use Rattle.mdp_spec.specs.Mdp.{Entry, Choice, State, Mdp}
use Rattle.mdp_spec.proofs.Small.{entry, half, labelled, one}
use Rattle.mdp_policy.specs.Chain.{chain_of, NamesNoChoice}

abbrev by : List Entry → ℕ → Choice
by row reward = record { row = row; rewards = of_int (pos reward) ∷ [] }

abbrev model_of : List State → Mdp
model_of states = record { names = codes "cost" ∷ []; labels = codes "init" ∷ codes "goal" ∷ []; states = states }

-- state 0 goes to the goal 1 at a cost of 3, or tosses a coin at a cost of 1 until it falls right
abbrev tries : Mdp
tries = model_of (labelled (0 ∷ []) (by (entry 1 one ∷ []) 3 ∷ by (entry 0 half ∷ entry 1 half ∷ []) 1 ∷ []) ∷ labelled (1 ∷ []) (by (entry 1 one ∷ []) 0 ∷ []) ∷ [])

-- the chain of the policy that goes, and that of the policy that tosses: names and labels stay, and the one choice has its rewards
goes : chain_of tries (0 ∷ 0 ∷ []) ≡ model_of (labelled (0 ∷ []) (by (entry 1 one ∷ []) 3 ∷ []) ∷ labelled (1 ∷ []) (by (entry 1 one ∷ []) 0 ∷ []) ∷ [])
unfolding chain_of
goes = refl

tosses : chain_of tries (1 ∷ 0 ∷ []) ≡ model_of (labelled (0 ∷ []) (by (entry 0 half ∷ entry 1 half ∷ []) 1 ∷ []) ∷ labelled (1 ∷ []) (by (entry 1 one ∷ []) 0 ∷ []) ∷ [])
unfolding chain_of
tosses = refl

-- state 0 has no choice 2, and state 1 has no choice 1: lists with such a choice are refused
no_third : NamesNoChoice tries (2 ∷ 0 ∷ [])
no_third = record { state = 0; below = omega arith; past = omega arith }

no_second : NamesNoChoice tries (0 ∷ 1 ∷ [])
no_second = record { state = 1; below = omega arith; past = omega arith }
