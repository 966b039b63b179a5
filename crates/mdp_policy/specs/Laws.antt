-- What the meaning of a policy's values fixes, and that their computation has an end.
use Rattle.std.specs.Prelude.{◌≡◌, ℕ, ◌<◌, Bool, List, Option, Result}
use Rattle.mdp_math.specs.Rational.{ℚ}
use Rattle.mdp_spec.specs.{Mdp.{Mdp, states_of, value_at}, Row.{IsMdp}, Tree.{IsPolicy}}
use Rattle.mdp_policy_iteration.specs.Places.{Place}
use Rattle.mdp_policy.specs.{Answer.{IsAnswerOn}, Bounds.{PolicyBound}, Written.{Answer}}

-- two lists of values of one policy agree at every state
abbrev pub HasOneValue : Type 0
HasOneValue =
    (m : Mdp) (stay : Option (List Bool)) (goals : List Bool) (policy : List ℕ) (z w : List ℚ) (s : ℕ)
    → PolicyBound m stay goals z policy → PolicyBound m stay goals w policy → s < states_of m → value_at z s ≡ value_at w s

-- the computation of the values ends for each model and policy: with an answer, or at a term past width
abbrev pub HasAnEnd : Type 0
HasAnEnd =
    (m : Mdp) (stay : Option (List Bool)) (goals : List Bool) (policy : List ℕ) → IsMdp m → IsPolicy m policy
    → (r : Result Answer Place) × IsAnswerOn m stay goals policy r
