-- What is shown of the work of each command.
use Rattle.std.specs.Prelude.{ℕ, List, Some, None, Ok, Err}
use Rattle.mdp_spec.specs.Mdp.{Mdp}
use Rattle.mdp_job.specs.Job.{PlainTask, solve, witness, horizon, total, discount, bounds, bounds_until, bounds_total, bounds_discount, bounds_witness, curve_until, curve_total}
use Rattle.mdp_job.specs.Job.{PlainPairTask, check, policy, chain, discount_check, bounds_check, on_model, on_pair, drill, Asked}
use Rattle.mdp_command.specs.{CheckShown.{IsCheckPrinted}, Shown.{IsShownOf, AreShownOf}, declared.kind.CertificateKind.TheVariants.{Discounted, Bounds}}
use Rattle.mdp_command_solve.specs.{Solved.{IsPrinted}, Drilled.{IsDrilled}, WitnessShown.{IsWitnessPrinted}, DiscountShown.{IsDiscountPrinted}}
use Rattle.mdp_command_horizon.specs.{BoundsPrinted.{AreUntilBoundsPrinted, AreTotalBoundsPrinted}, CurvePrinted.{IsUntilCurvePrinted, IsTotalCurvePrinted}, Printed.{IsHorizonPrinted, IsTotalPrinted}}
use Rattle.mdp_command_policy.specs.{Shown.{IsPolicyPrinted}, ChainShown.{IsChainPrinted}}
use Rattle.mdp_command_bounds_search.specs.{DiscountShown.{IsDiscountBoundsPrinted}, Shown.{IsBoundsPrinted}, WitnessDue.{claim_by}, WitnessShown.{IsBoundsWitnessPrinted}}

-- the text is printed for a model of which this is asked
abbrev pub IsTaskPrinted : PlainTask → Mdp → List ℕ → Type 0
IsTaskPrinted (solve dir query) = IsPrinted dir query
IsTaskPrinted (witness dir stay label threshold) = IsWitnessPrinted dir stay label threshold
IsTaskPrinted (horizon dir stay label steps) = IsHorizonPrinted dir stay label steps
IsTaskPrinted (total dir name steps) = IsTotalPrinted dir name steps
IsTaskPrinted (discount dir name factor) = IsDiscountPrinted dir name factor
IsTaskPrinted (bounds dir query digits) = IsBoundsPrinted dir query digits
IsTaskPrinted (bounds_until dir stay label steps digits) = AreUntilBoundsPrinted dir stay label steps digits
IsTaskPrinted (bounds_total dir name steps digits) = AreTotalBoundsPrinted dir name steps digits
IsTaskPrinted (bounds_discount dir name factor digits) = IsDiscountBoundsPrinted dir name factor digits
IsTaskPrinted (bounds_witness dir stay label threshold) = IsBoundsWitnessPrinted (claim_by dir stay label threshold)
IsTaskPrinted (curve_until dir stay label steps digits) = IsUntilCurvePrinted dir stay label steps digits
IsTaskPrinted (curve_total dir name steps digits) = IsTotalCurvePrinted dir name steps digits

-- the text is printed for a model and the bytes of a second file, of which this is asked
abbrev pub IsPairPrinted : PlainPairTask → Mdp → List ℕ → List ℕ → Type 0
IsPairPrinted check = IsCheckPrinted None
IsPairPrinted (policy stay label) = IsPolicyPrinted stay label
IsPairPrinted chain = IsChainPrinted
IsPairPrinted discount_check = IsCheckPrinted (Some Discounted)
IsPairPrinted bounds_check = IsCheckPrinted (Some Bounds)

-- what is shown of the model's bytes, of those of the second file and of the text, where the work was done
abbrev pub IsShown : Asked → List ℕ → List ℕ → List ℕ → Type 0
IsShown (Ok (on_model rule task)) model second text = IsShownOf (IsTaskPrinted task) rule model text
IsShown (Ok (on_pair rule task)) model second text = AreShownOf (IsPairPrinted task) rule model second text
IsShown (Ok (drill number layers width)) model second text = IsDrilled number layers width text
IsShown (Err e) model second text = ⊥
