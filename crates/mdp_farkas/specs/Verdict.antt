-- A verdict: what a list of checks, walked in order, says.
use Rattle.std.specs.{Prelude.{◌≡◌, ℕ, Bool, true, false, List, [], ◌∷◌, length, map, Option, Some, None, Result, Ok, Err}, List.{range_with_len}}
use Rattle.std.specs.Option.{IsSome}
use Rattle.mdp_math.specs.Result.{◌>>=◌}
use Rattle.mdp_spec.specs.Mdp.{Mdp, choices_at}
use Rattle.mdp_claims.specs.{declared.rule.Rule.{Rule}, declared.verdict.Verdict.{Verdict}, declared.verdict.Verdict.TheVariants.{Yes, No, Wide}}
use Rattle.mdp_claims.specs.{declared.verdict.Objection.{Objection}, declared.verdict.Objection.TheVariants.{Broken, PastWidth}}

-- a check of a rule at a place: whether it holds, or nothing where one of its written terms is past width
pub record Check : Type 0 where
  pub rule : Rule
  pub state : Option ℕ
  pub choice : Option ℕ
  pub holds : Option Bool

-- a check at a state, and one at a choice of a state
abbrev pub at_state : Rule → ℕ → Option Bool → Check
at_state rule s holds = record { rule = rule; state = Some s; choice = None; holds = holds }

abbrev pub at_choice : Rule → ℕ → ℕ → Option Bool → Check
at_choice rule s c holds = record { rule = rule; state = Some s; choice = Some c; holds = holds }

-- one check for each choice of state s
abbrev pub at_choices : Mdp → ℕ → (ℕ → Check) → List Check
at_choices m s check = map check (range_with_len 0 (length (choices_at m s)))

-- what stands against a check
abbrev pub objection : Check → Option Bool → Result (Unit {0}) Objection
objection c None = Err (PastWidth c.state c.choice)
objection c (Some false) = Err (Broken (record { rule = c.rule; state = c.state; choice = c.choice }))
objection c (Some true) = Ok tt

-- the first that stands against one of these checks
abbrev pub objection_to : List Check → Result (Unit {0}) Objection
objection_to [] = Ok tt
objection_to (c ∷ cs) = objection c c.holds >>= λ ok. objection_to cs

-- yes where nothing stands against them
abbrev pub verdict : Result (Unit {0}) Objection → Verdict
verdict (Ok ok) = Yes
verdict (Err (Broken fault)) = No fault
verdict (Err (PastWidth state choice)) = Wide state choice

-- yes where all checks hold; else the first that is false or has a term past width
abbrev pub verdict_of : List Check → Verdict
verdict_of cs = verdict (objection_to cs)

-- no written term of the check is past width
abbrev pub InWidth : Check → Type 0
InWidth c = IsSome c.holds

abbrev pub IsYes : Verdict → Type 0
IsYes v = v ≡ Yes

-- P, where the verdict is yes
abbrev pub IfYes : Verdict → Type 0 → Type 0
IfYes Yes P = P
IfYes (No fault) P = Unit {0}
IfYes (Wide state choice) P = Unit {0}
