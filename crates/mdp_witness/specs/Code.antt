-- What the code answers.
use Rattle.std.specs.Prelude.{◌≡◌, ℕ, Result, Ok, Err}
use Rattle.mdp_math.specs.Rational.{ℚ}
use Rattle.mdp_wide.specs.declared.too_wide.Part.TheVariants as part
use Rattle.mdp_wide.specs.{Errors.{SolveError}, Term.{shown}}
use Rattle.mdp_wide.specs.declared.unfinished.Unfinished.TheVariants as solve
use Rattle.mdp_policy_iteration.specs.Ends.{capped}
use Rattle.mdp_claims.specs.{declared.subsystem.FlowCert.{FlowCert}, declared.subsystem.FloorCert.{FloorCert}}
use Rattle.mdp_witness.specs.{Query.{PlainSubsystem, flow, floor, Refusal, below, too_wide}, declared.subsystem.Subsystem.{Subsystem}}
use Rattle.mdp_witness.specs.declared.subsystem.WitnessError.{WitnessError}
use Rattle.mdp_witness.specs.declared.subsystem.Subsystem.TheVariants as subsystem
use Rattle.mdp_witness.specs.declared.subsystem.WitnessError.TheVariants as refused

abbrev pub plain_flow : FlowCert → PlainSubsystem
plain_flow cert = flow cert.kept.items cert.wide.items cert.flows.items

abbrev pub plain_floor : FloorCert → PlainSubsystem
plain_floor cert = floor cert.kept.items cert.wide.items cert.values.items cert.ranks.items

abbrev pub plain : Subsystem → PlainSubsystem
plain (subsystem.Max cert) = plain_flow cert
plain (subsystem.Min cert) = plain_floor cert

-- P of the best probability, where it is below the threshold
abbrev pub IfBelow : WitnessError → (ℚ → Type 0) → Type 0
IfBelow (refused.Below v) P = P v
IfBelow (refused.TooWide w) P = Unit {0}
IfBelow refused.Memory P = Unit {0}

-- an error of a query
abbrev pub of_solve : SolveError → WitnessError
of_solve (solve.TooWide w) = refused.TooWide w
of_solve solve.Memory = refused.Memory

-- what the code answers to a query that ends so: a subsystem, seen by a view; the best probability; a term past width, a round above 2^64 - 1 given as
-- 2^64 - 1; or want of memory, of which nothing is said
abbrev pub Answers : {A : Type 0} → (A → PlainSubsystem) → (Result PlainSubsystem Refusal → Type 0) → Result A WitnessError → Type 0
Answers view Ends (Ok found) = Ends (Ok (view found))
Answers view Ends (Err (refused.Below v)) = Ends (Err (below v))
Answers view Ends (Err (refused.TooWide w)) = (n : ℕ) × (w.round ≡ capped n) × Ends (Err (too_wide (shown w n)))
Answers view Ends (Err refused.Memory) = Unit {0}

-- the error of the query of the first set's subsystem
abbrev pub in_floor : SolveError → WitnessError
in_floor (solve.TooWide w) = refused.TooWide (record { part = part.Floor; round = w.round; policy = w.policy; kind = w.kind; state = w.state; choice = w.choice })
in_floor solve.Memory = refused.Memory
