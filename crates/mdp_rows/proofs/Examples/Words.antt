-- The numbers, the names and the entries that the examples share.
use Rattle.std.proofs.Common.{ℕ, List, [], ◌∷◌, pos, neg_ℤ}
use Rattle.mdp_math.specs.Rational.{ℚ, ratio}
use Rattle.mdp_spec.specs.Mdp.{State, Mdp}

abbrev pub minus_half : ℚ
minus_half = ratio (neg_ℤ (pos 1)) 2

-- one reward model, `cost`; labels `init` and `goal`
abbrev pub cost : List ℕ
cost = 99 ∷ 111 ∷ 115 ∷ 116 ∷ []

abbrev pub init : List ℕ
init = 105 ∷ 110 ∷ 105 ∷ 116 ∷ []

abbrev pub goal : List ℕ
goal = 103 ∷ 111 ∷ 97 ∷ 108 ∷ []

abbrev pub of_states : List State → Mdp
of_states states = record { names = cost ∷ []; labels = init ∷ goal ∷ []; states = states }
