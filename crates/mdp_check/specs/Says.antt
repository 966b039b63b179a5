-- What rule 1 says, in exact numbers: what the line `init` of a certificate says of the model's initial state, where the model has exactly one.
use Rattle.std.specs.Prelude.{◌≡◌, ℕ, ◌<◌, true, false, List, length, Option, Some, None}
use Rattle.mdp_math.specs.Rational.{ℚ}
use Rattle.mdp_spec.specs.{Mdp.{value_at}, Bounds.{reward_at}}
use Rattle.mdp_cert.specs.Cert.{PlainBody, bounds, policy, rewards, gains}
use Rattle.mdp_text.specs.{declared.init.Init.{Init}, declared.init.Init.TheVariants.{Missing, Finite, Infinite, Start}}
use Rattle.mdp_check.specs.Initial.{is_subsystem}

-- there is a value of state s, and it is x; the same of one that may be infinite
abbrev pub IsValueAt : List ℚ → ℕ → ℚ → Type 0
IsValueAt v s x = (s < length v) × (value_at v s ≡ x)

abbrev pub IsRewardAt : List (Option ℚ) → ℕ → Option ℚ → Type 0
IsRewardAt v s x = (s < length v) × (reward_at v s ≡ x)

-- the value of state s in the body is x, or infinite where there is none; of mean payoffs the gain is the value, and a subsystem has none
abbrev pub HasValue : PlainBody → ℕ → Option ℚ → Type 0
HasValue (bounds z) s (Some x) = IsValueAt z s x
HasValue (policy z choices ranks) s (Some x) = IsValueAt z s x
HasValue (rewards v choices ranks) s x = IsRewardAt v s x
HasValue (gains g bound bias choices spread) s (Some x) = IsValueAt g s x
HasValue body s x = ⊥

-- it is that state with its value; or there is none, which is wrong for a subsystem alone
abbrev pub InitSays : Init → Option ℕ → PlainBody → Type 0
InitSays Missing initial body = (initial ≡ None) × (is_subsystem body ≡ false)
InitSays (Finite s x) initial body = (initial ≡ Some s) × HasValue body s (Some x)
InitSays (Infinite s) initial body = (initial ≡ Some s) × HasValue body s None
InitSays (Start s) initial body = (initial ≡ Some s) × (is_subsystem body ≡ true)
