-- What is accepted and true of a model that bytes read as is a true claim of these bytes.
use Rattle.std.proofs.Common.{◌≡◌, ℕ, ◌≤◌, List, length, Ok}
use Rattle.mdp_spec.specs.Mdp.{Mdp}
use Rattle.mdp_rows.specs.declared.rule.RowRule.{RowRule}
use Rattle.mdp_command.specs.{Files.{most_bytes}, Accepted.{Checker, IsTrueClaimBy}, Shown.{IsShownOf}}

abbrev pub true_claim_of : (checker : Checker) (IsPrinted : Mdp → List ℕ → Type 0) (rule : RowRule) (bytes text : List ℕ) (shown : IsShownOf IsPrinted rule bytes text)
    (cert : checker.meaning.Certificate) → length text ≤ most_bytes → checker.outcome text ≡ Ok cert → checker.IsAccepted shown.model cert → checker.meaning.IsBound shown.model cert
    → IsTrueClaimBy checker rule bytes text
true_claim_of checker IsPrinted rule bytes text shown cert short read holds bound = record {
  accepted = record { short_model = shown.short; short_cert = short; model = shown.model; reads = shown.reads; cert = cert; text = read; holds = holds };
  bound = bound;
}
