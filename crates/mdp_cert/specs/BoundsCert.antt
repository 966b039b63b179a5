-- What a certificate of bounds says, as a plain record.
use Rattle.std.specs.Prelude.{ℕ, ◌<◌, ◌≤◌, ◌^◌, Bool, true, false, ◌&&◌, IsTrue, List, length, nat_lt, ◌==◌, All, Option, Some, None}
use Rattle.mdp_math.specs.Rational.{ℚ}
use Rattle.mdp_num.specs.Value.{IsNarrow}
use Rattle.mdp_cert.specs.Cert.{PlainClaim, upper, reach, until, reward, mean, witness, are_names, may_be_infinite, IsValueNarrow}
use Rattle.mdp_cert.specs.{declared.init.BoundsInit.{BoundsInit}, declared.init.BoundsInit.TheVariants.{Missing, Between}}
use Rattle.mdp_cert.specs.declared.bounds_body.BoundsBody.{BoundsBody}
use Rattle.mdp_cert.specs.declared.bounds_body.BoundsBody.TheVariants as body

-- one of each per state: lower and upper probabilities, choices and ranks; lower and upper rewards (nothing is infinite), choices and ranks; or
-- lower and upper gains, bounds, biases and choices, with the spread of all states
pub data PlainBounds : Type 0 where
  probabilities : List ℚ → List ℚ → List ℕ → List ℕ → PlainBounds
  rewards : List (Option ℚ) → List (Option ℚ) → List ℕ → List ℕ → PlainBounds
  gains : List ℚ → List ℚ → List ℚ → List ℚ → List ℕ → ℚ → PlainBounds

pub record Certificate : Type 0 where
  pub claim : PlainClaim
  pub states : ℕ
  pub init : BoundsInit
  pub body : PlainBounds

-- ---- the values of the program's types

abbrev pub plain_body : BoundsBody → PlainBounds
plain_body (body.Reach c) = probabilities c.lower.items c.upper.items c.choices.items c.ranks.items
plain_body (body.Reward c) = rewards c.lower.items c.upper.items c.choices.items c.ranks.items
plain_body (body.Mean c) = gains c.lower.items c.upper.items c.bound.items c.bias.items c.choices.items c.spread

-- ---- which certificates have a text

-- whether the claim is one of bounds: of a direction, and of reach, until, reward or mean
abbrev pub is_of_bounds : PlainClaim → Bool
is_of_bounds (upper label) = false
is_of_bounds (reach dir label) = true
is_of_bounds (until dir stay label) = true
is_of_bounds (reward dir name label) = true
is_of_bounds (mean dir name) = true
is_of_bounds (witness dir stay label threshold) = false

-- whether the claim's values may be this one: an infinite one only where it is a reward
abbrev pub may_be : PlainClaim → Option ℚ → Bool
may_be claim None = may_be_infinite claim
may_be claim (Some value) = true

-- the initial state is one of the states, and its values are such as the claim's may be
abbrev pub is_init_of : PlainClaim → ℕ → BoundsInit → Bool
is_init_of claim states Missing = true
is_init_of claim states (Between state low high) = nat_lt state states && may_be claim low && may_be claim high

-- the body is of the claim's kind, with an entry per state
abbrev pub is_body_of : PlainClaim → ℕ → PlainBounds → Bool
is_body_of (reach dir label) states (probabilities low high choices ranks) =
    (length low == states) && (length high == states) && (length choices == states) && (length ranks == states)
is_body_of (until dir stay label) states (probabilities low high choices ranks) =
    (length low == states) && (length high == states) && (length choices == states) && (length ranks == states)
is_body_of (reward dir name label) states (rewards low high choices ranks) =
    (length low == states) && (length high == states) && (length choices == states) && (length ranks == states)
is_body_of (mean dir name) states (gains low high bound bias choices spread) =
    (length low == states) && (length high == states) && (length bound == states) && (length bias == states) && (length choices == states)
is_body_of claim states body = false

-- the fractions are in width, and choices and ranks below 2^32
abbrev pub IsInitInWidth : BoundsInit → Type 0
IsInitInWidth Missing = Unit {0}
IsInitInWidth (Between state low high) = IsValueNarrow low × IsValueNarrow high

abbrev pub IsBodyInWidth : PlainBounds → Type 0
IsBodyInWidth (probabilities low high choices ranks) =
    All IsNarrow low × All IsNarrow high × All (λ c. c < 2 ^ 32) choices × All (λ r. r < 2 ^ 32) ranks
IsBodyInWidth (rewards low high choices ranks) =
    All IsValueNarrow low × All IsValueNarrow high × All (λ c. c < 2 ^ 32) choices × All (λ r. r < 2 ^ 32) ranks
IsBodyInWidth (gains low high bound bias choices spread) =
    All IsNarrow low × All IsNarrow high × All IsNarrow bound × All IsNarrow bias × All (λ c. c < 2 ^ 32) choices × IsNarrow spread

pub record Fits (c : Certificate) : Type 0 where
  pub some : 0 < c.states
  pub limit : c.states ≤ 2 ^ 20
  pub names : IsTrue (are_names c.claim)
  pub inside : IsTrue (is_init_of c.claim c.states c.init)
  pub entries : IsTrue (is_body_of c.claim c.states c.body)
  pub init_width : IsInitInWidth c.init
  pub body_width : IsBodyInWidth c.body
