-- What a certificate says, as a plain record.
use Rattle.std.specs.Prelude.{ℕ, ◌<◌, ◌≤◌, ◌^◌, pos, Bool, true, false, not, ◌||◌, ◌&&◌, IsTrue, List, [], ◌∷◌, length, nat_lt, int_le, ◌==◌, All, Option, Some, None, option_map}
use Rattle.mdp_math.specs.Rational.{ℚ}
use Rattle.mdp_num.specs.Value.{IsNarrow}
use Rattle.mdp_rows.specs.{Name.{is_name}, declared.dir.Dir.{Dir}, declared.dir.Dir.TheVariants.{Max, Min}}
use Rattle.mdp_claims.specs.declared.subsystem.Flow.{Flow}
use Rattle.mdp_cert.specs.{declared.claim.Claim.{Claim}, declared.claim.Claim.TheVariants.{Upper, Reach, Until, Reward, Mean, Witness}, declared.body.Body.{Body}}
use Rattle.mdp_text.specs.{declared.init.Init.{Init}, declared.init.Init.TheVariants.{Missing, Finite, Infinite, Start}, Heads.{IsInitInWidth}}
use Rattle.mdp_cert.specs.declared.body.Body.TheVariants as body

-- a claim and the names in it: a label, the label of the states on the way and a label, a reward model and a label, a reward model, or a label and
-- a threshold, and the label of the states on the way where there is one
pub data PlainClaim : Type 0 where
  upper : List ℕ → PlainClaim
  reach : Dir → List ℕ → PlainClaim
  until : Dir → List ℕ → List ℕ → PlainClaim
  reward : Dir → List ℕ → List ℕ → PlainClaim
  mean : Dir → List ℕ → PlainClaim
  witness : Dir → Option (List ℕ) → List ℕ → ℚ → PlainClaim

-- one of each per state: upper bounds; values, choices and ranks; values (nothing is infinite), choices and ranks; or gains, bounds, biases
-- and choices, with the spread of all states. Of a subsystem one of each per kept state: its number, and whether it is kept for want of width;
-- then the flows, or the kept states' values and ranks
pub data PlainBody : Type 0 where
  bounds : List ℚ → PlainBody
  policy : List ℚ → List ℕ → List ℕ → PlainBody
  rewards : List (Option ℚ) → List ℕ → List ℕ → PlainBody
  gains : List ℚ → List ℚ → List ℚ → List ℕ → ℚ → PlainBody
  flow : List ℕ → List Bool → List Flow → PlainBody
  floor : List ℕ → List Bool → List ℚ → List ℕ → PlainBody

pub record Certificate : Type 0 where
  pub claim : PlainClaim
  pub states : ℕ
  pub init : Init
  pub body : PlainBody

-- what stands in quotes are names
abbrev pub are_names : PlainClaim → Bool
are_names (upper label) = is_name label
are_names (reach dir label) = is_name label
are_names (until dir stay label) = is_name stay && is_name label
are_names (reward dir name label) = is_name name && is_name label
are_names (mean dir name) = is_name name
are_names (witness dir None label threshold) = is_name label
are_names (witness dir (Some stay) label threshold) = is_name stay && is_name label

-- whether the values of the claim may be infinite
abbrev pub may_be_infinite : PlainClaim → Bool
may_be_infinite (upper label) = false
may_be_infinite (reach dir label) = false
may_be_infinite (until dir stay label) = false
may_be_infinite (reward dir name label) = true
may_be_infinite (mean dir name) = false
may_be_infinite (witness dir stay label threshold) = false

-- whether the claim is one of a subsystem, whose line `init` has no value
abbrev pub is_witness : PlainClaim → Bool
is_witness (upper label) = false
is_witness (reach dir label) = false
is_witness (until dir stay label) = false
is_witness (reward dir name label) = false
is_witness (mean dir name) = false
is_witness (witness dir stay label threshold) = true

abbrev pub is_at_least_zero : ℚ → Bool
is_at_least_zero x = int_le (pos 0) x.num

-- ---- the values of the program's types

abbrev pub plain_claim : Claim → PlainClaim
plain_claim (Upper label) = upper label.items
plain_claim (Reach dir label) = reach dir label.items
plain_claim (Until dir stay label) = until dir stay.items label.items
plain_claim (Reward dir name label) = reward dir name.items label.items
plain_claim (Mean dir name) = mean dir name.items
plain_claim (Witness dir stay label threshold) = witness dir (option_map (λ name. name.items) stay) label.items threshold

abbrev pub plain_body : Body → PlainBody
plain_body (body.Upper c) = bounds c.values.items
plain_body (body.Reach c) = policy c.values.items c.choices.items c.ranks.items
plain_body (body.Reward c) = rewards c.values.items c.choices.items c.ranks.items
plain_body (body.Mean c) = gains c.gains.items c.bound.items c.bias.items c.choices.items c.spread
plain_body (body.Flow c) = flow c.kept.items c.wide.items c.flows.items
plain_body (body.Floor c) = floor c.kept.items c.wide.items c.values.items c.ranks.items

-- ---- which certificates have a text

-- a threshold is at least 0
abbrev pub has_threshold : PlainClaim → Bool
has_threshold (upper label) = true
has_threshold (reach dir label) = true
has_threshold (until dir stay label) = true
has_threshold (reward dir name label) = true
has_threshold (mean dir name) = true
has_threshold (witness dir stay label threshold) = is_at_least_zero threshold

-- the initial state is one of the states; it has no value for a subsystem, and an infinite one only where the claim's values may be
abbrev pub is_init_of : PlainClaim → ℕ → Init → Bool
is_init_of claim states Missing = not (is_witness claim)
is_init_of claim states (Finite state value) = not (is_witness claim) && nat_lt state states
is_init_of claim states (Infinite state) = may_be_infinite claim && nat_lt state states
is_init_of claim states (Start state) = is_witness claim && nat_lt state states

-- a number may stand behind this one: numbers ascend
abbrev pub is_next : Option ℕ → ℕ → Bool
is_next None state = true
is_next (Some before) state = nat_lt before state

-- kept states behind this one: they ascend, and are states
abbrev pub are_kept : ℕ → Option ℕ → List ℕ → Bool
are_kept states before [] = true
are_kept states before (state ∷ kept) = is_next before state && nat_lt state states && are_kept states (Some state) kept

-- a flow may stand behind this one: flows ascend by state and choice
abbrev pub is_next_flow : Option Flow → Flow → Bool
is_next_flow None f = true
is_next_flow (Some before) f = nat_lt before.state f.state || ((before.state == f.state) && nat_lt before.choice f.choice)

-- flows behind this one: they ascend, each from a state
abbrev pub are_flows : ℕ → Option Flow → List Flow → Bool
are_flows states before [] = true
are_flows states before (f ∷ flows) = is_next_flow before f && nat_lt f.state states && are_flows states (Some f) flows

-- the body is of the claim's kind, with an entry per state, or one per kept state
abbrev pub is_body_of : PlainClaim → ℕ → PlainBody → Bool
is_body_of (upper label) states (bounds values) = length values == states
is_body_of (reach dir label) states (policy values choices ranks) = (length values == states) && (length choices == states) && (length ranks == states)
is_body_of (until dir stay label) states (policy values choices ranks) = (length values == states) && (length choices == states) && (length ranks == states)
is_body_of (reward dir name label) states (rewards values choices ranks) = (length values == states) && (length choices == states) && (length ranks == states)
is_body_of (mean dir name) states (gains gain bound bias choices spread) =
    (length gain == states) && (length bound == states) && (length bias == states) && (length choices == states)
is_body_of (witness Max stay label threshold) states (flow kept wide flows) = are_kept states None kept && (length wide == length kept) && are_flows states None flows
is_body_of (witness Min stay label threshold) states (floor kept wide values ranks) =
    are_kept states None kept && (length wide == length kept) && (length values == length kept) && (length ranks == length kept)
is_body_of claim states body = false

-- the fractions are in width, and choices and ranks below 2^32
abbrev pub IsClaimInWidth : PlainClaim → Type 0
IsClaimInWidth (upper label) = Unit {0}
IsClaimInWidth (reach dir label) = Unit {0}
IsClaimInWidth (until dir stay label) = Unit {0}
IsClaimInWidth (reward dir name label) = Unit {0}
IsClaimInWidth (mean dir name) = Unit {0}
IsClaimInWidth (witness dir stay label threshold) = IsNarrow threshold

-- a value that is infinite has no width
abbrev pub IsValueNarrow : Option ℚ → Type 0
IsValueNarrow None = Unit {0}
IsValueNarrow (Some value) = IsNarrow value

pub record IsFlowInWidth (f : Flow) : Type 0 where
  pub choice : f.choice < 2 ^ 32
  pub amount : IsNarrow f.amount

abbrev pub IsBodyInWidth : PlainBody → Type 0
IsBodyInWidth (bounds values) = All IsNarrow values
IsBodyInWidth (policy values choices ranks) = All IsNarrow values × All (λ c. c < 2 ^ 32) choices × All (λ r. r < 2 ^ 32) ranks
IsBodyInWidth (rewards values choices ranks) = All IsValueNarrow values × All (λ c. c < 2 ^ 32) choices × All (λ r. r < 2 ^ 32) ranks
IsBodyInWidth (gains gain bound bias choices spread) = All IsNarrow gain × All IsNarrow bound × All IsNarrow bias × All (λ c. c < 2 ^ 32) choices × IsNarrow spread
IsBodyInWidth (flow kept wide flows) = All IsFlowInWidth flows
IsBodyInWidth (floor kept wide values ranks) = All IsNarrow values × All (λ r. r < 2 ^ 32) ranks

pub record Fits (c : Certificate) : Type 0 where
  pub some : 0 < c.states
  pub limit : c.states ≤ 2 ^ 20
  pub names : IsTrue (are_names c.claim)
  pub threshold : IsTrue (has_threshold c.claim)
  pub inside : IsTrue (is_init_of c.claim c.states c.init)
  pub entries : IsTrue (is_body_of c.claim c.states c.body)
  pub claim_width : IsClaimInWidth c.claim
  pub init_width : IsInitInWidth c.init
  pub body_width : IsBodyInWidth c.body
