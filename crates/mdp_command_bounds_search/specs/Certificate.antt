-- The certificate of bounds that the command makes of what its search finds.
use Rattle.std.specs.Prelude.{◌≡◌, ℕ, IsTrue, Bool, List, length, Option, Some, None}
use Rattle.mdp_spec.specs.{Bounds.{reward_at}, Labels.{initial_of}, Mdp.{Mdp, states_of, value_at}}
use Rattle.mdp_cert.specs.{Cert.{PlainClaim, are_names}, BoundsCert.{PlainBounds, probabilities, rewards, gains, Certificate, is_body_of}}
use Rattle.mdp_cert.specs.{declared.init.BoundsInit.{BoundsInit}, declared.init.BoundsInit.TheVariants.{Missing, Between}}
use Rattle.mdp_check.specs.{Bounds.{valid_bounds_by}, Check.{reward_place, goal_marks}}

-- a lower and an upper value for each of so many states
abbrev pub HasValues : ℕ → PlainBounds → Type 0
HasValues n (probabilities lower upper choices ranks) = (length lower ≡ n) × (length upper ≡ n)
HasValues n (rewards lower upper choices ranks) = (length lower ≡ n) × (length upper ≡ n)
HasValues n (gains lower upper bound bias choices spread) = (length lower ≡ n) × (length upper ≡ n)

-- the initial state with its lower and its upper value, where there is one; of mean payoffs the gains are the values
abbrev pub init_between : Option ℕ → PlainBounds → BoundsInit
init_between None body = Missing
init_between (Some s) (probabilities lower upper choices ranks) = Between s (Some (value_at lower s)) (Some (value_at upper s))
init_between (Some s) (rewards lower upper choices ranks) = Between s (reward_at lower s) (reward_at upper s)
init_between (Some s) (gains lower upper bound bias choices spread) = Between s (Some (value_at lower s)) (Some (value_at upper s))

-- the certificate of a claim with this body
abbrev pub certificate_of : PlainClaim → Mdp → PlainBounds → Certificate
certificate_of claim m body = record { claim = claim; states = states_of m; init = init_between (initial_of m) body; body = body }

-- a body of the claim's kind, with an entry for each state, that meets the rules of the claim; and the names of the claim are there
pub record AreBounds (claim : PlainClaim) (m : Mdp) (body : PlainBounds) : Type 0 where
  pub names : IsTrue (are_names claim)
  pub entries : IsTrue (is_body_of claim (states_of m) body)
  pub reward : ℕ
  pub named : reward_place m claim ≡ Some reward
  pub goals : List Bool
  pub marked : goal_marks m claim ≡ Some goals
  pub valid : valid_bounds_by m reward goals claim body
