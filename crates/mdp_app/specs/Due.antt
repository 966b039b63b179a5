-- What is due to the words, to the bytes of the model and to those of the second file. Each command is a case of `IsTaskDue` or of `IsPairDue`.
use Rattle.std.specs.Prelude.{◌≡◌, ℕ, List, Some, None, Ok, Err, IsOk}
use Rattle.mdp_spec.specs.Mdp.{Mdp}
use Rattle.mdp_job.specs.Job.{PlainTask, solve, witness, horizon, total, discount, bounds, bounds_until, bounds_total, bounds_discount, bounds_witness, curve_until, curve_total}
use Rattle.mdp_job.specs.{Job.{PlainPairTask, check, policy, chain, discount_check, bounds_check, on_model, on_pair, drill, Asked}, Refusal.{no_job}}
use Rattle.mdp_command.specs.{Files.{model_due, IsDueToModel, IsDueToPair}, Said.{Said}, CheckDue.{IsCheckDue}}
use Rattle.mdp_command.specs.declared.kind.CertificateKind.TheVariants.{Discounted, Bounds}
use Rattle.mdp_command_solve.specs.{Due.{IsQueryDue}, DrillDue.{IsDrillDue}, WitnessDue.{IsWitnessDue}, DiscountDue.{IsDiscountDue}}
use Rattle.mdp_command_horizon.specs.{BoundsDue.{IsUntilBoundsDue, IsTotalBoundsDue}, CurveDue.{IsUntilCurveDue, IsTotalCurveDue}, Due.{IsHorizonDue, IsTotalDue}}
use Rattle.mdp_command_policy.specs.{Due.{IsPolicyDue}, ChainDue.{IsChainDue}}
use Rattle.mdp_command_bounds_search.specs.{DiscountDue.{IsDiscountBoundsDue}, Due.{IsBoundsDue}, WitnessDue.{claim_by, IsBoundsWitnessDue}}

-- this is due to what is asked of a model
abbrev pub IsTaskDue : PlainTask → Mdp → Said → Type 0
IsTaskDue (solve dir query) = IsQueryDue dir query
IsTaskDue (witness dir stay label threshold) = IsWitnessDue dir stay label threshold
IsTaskDue (horizon dir stay label steps) = IsHorizonDue dir stay label steps
IsTaskDue (total dir name steps) = IsTotalDue dir name steps
IsTaskDue (discount dir name factor) = IsDiscountDue dir name factor
IsTaskDue (bounds dir query digits) = IsBoundsDue dir query
IsTaskDue (bounds_until dir stay label steps digits) = IsUntilBoundsDue dir stay label steps digits
IsTaskDue (bounds_total dir name steps digits) = IsTotalBoundsDue dir name steps digits
IsTaskDue (bounds_discount dir name factor digits) = IsDiscountBoundsDue dir name factor
IsTaskDue (bounds_witness dir stay label threshold) = IsBoundsWitnessDue (claim_by dir stay label threshold)
IsTaskDue (curve_until dir stay label steps digits) = IsUntilCurveDue dir stay label steps digits
IsTaskDue (curve_total dir name steps digits) = IsTotalCurveDue dir name steps digits

-- this is due to what is asked of a model and of the bytes of a second file
abbrev pub IsPairDue : PlainPairTask → Mdp → List ℕ → Said → Type 0
IsPairDue check = IsCheckDue None
IsPairDue (policy stay label) = IsPolicyDue stay label
IsPairDue chain = IsChainDue
IsPairDue discount_check = IsCheckDue (Some Discounted)
IsPairDue bounds_check = IsCheckDue (Some Bounds)

-- this is due to what the words ask for, to the model's bytes and to those of the second file: the model is judged first
abbrev pub IsDue : Asked → List ℕ → List ℕ → Said → Type 0
IsDue (Ok (on_model rule task)) model second said = IsDueToModel (IsTaskDue task) (model_due rule model) said
IsDue (Ok (on_pair rule task)) model second said = IsDueToPair (IsPairDue task) rule model second said
IsDue (Ok (drill number layers width)) model second said = IsDrillDue number layers width said
IsDue (Err e) model second said = said ≡ Err (no_job e)

-- the model's bytes read as a model under the job's row rule
abbrev pub IsModelRead : Asked → List ℕ → Type 0
IsModelRead (Ok (on_model rule task)) model = IsOk (model_due rule model)
IsModelRead (Ok (on_pair rule task)) model = IsOk (model_due rule model)
IsModelRead (Ok (drill number layers width)) model = ⊥
IsModelRead (Err e) model = ⊥
