-- Rule 1: the line `init` of a certificate.
use Rattle.std.specs.Prelude.{ℕ, Bool, true, false, List, length, Option, Some, None, ◌&&◌, nat_lt, if◌then◌else◌}
use Rattle.mdp_math.specs.Rational.{ℚ}
use Rattle.mdp_spec.specs.Bounds.{reward_at}
use Rattle.mdp_cert.specs.{Cert.{PlainBody, bounds, policy, rewards, gains, flow, floor}, Claims.{reward_same}}
use Rattle.mdp_text.specs.{declared.init.Init.{Init}, declared.init.Init.TheVariants.{Missing, Finite, Infinite, Start}}
use Rattle.mdp_claims.specs.{declared.verdict.Verdict.{Verdict}, declared.verdict.Verdict.TheVariants.{Yes}}
use Rattle.mdp_farkas.specs.Initial.{init_fault, is_value, state_check}

-- there is a value of state s, which may be infinite, and it is this one
abbrev pub is_reward : List (Option ℚ) → ℕ → Option ℚ → Bool
is_reward v s x = nat_lt s (length v) && reward_same (reward_at v s) x

-- the state of the line; 0 where it has none
abbrev pub start_of : Init → ℕ
start_of Missing = 0
start_of (Finite s x) = s
start_of (Infinite s) = s
start_of (Start s) = s

-- whether the body is one of a subsystem, which needs an initial state and has no value of it
abbrev pub is_subsystem : PlainBody → Bool
is_subsystem (bounds z) = false
is_subsystem (policy z choices ranks) = false
is_subsystem (rewards v choices ranks) = false
is_subsystem (gains g bound bias choices spread) = false
is_subsystem (flow kept wide flows) = true
is_subsystem (floor kept wide values ranks) = true

-- the value of state s in the body is this one, or infinite where there is none; of mean payoffs the gain is the value
abbrev pub has_value : PlainBody → ℕ → Option ℚ → Bool
has_value (bounds z) s (Some x) = is_value z s x
has_value (policy z choices ranks) s (Some x) = is_value z s x
has_value (rewards v choices ranks) s x = is_reward v s x
has_value (gains g bound bias choices spread) s (Some x) = is_value g s x
has_value (flow kept wide flows) s (Some x) = false
has_value (floor kept wide values ranks) s (Some x) = false
has_value body s None = false

-- the line names the model's one initial state and has its value; it names none where there isn't exactly one. For a subsystem there is exactly one, and the
-- line has no value
abbrev pub init_check : Init → Option ℕ → PlainBody → Verdict
init_check Missing None body = if is_subsystem body then init_fault None else Yes
init_check Missing (Some t) body = init_fault None
init_check (Finite s x) initial body = state_check s initial (has_value body s (Some x))
init_check (Infinite s) initial body = state_check s initial (has_value body s None)
init_check (Start s) initial body = state_check s initial (is_subsystem body)
