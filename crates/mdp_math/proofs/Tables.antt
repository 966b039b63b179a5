-- Worked examples as a table: in each row stands what is computed, and then what it is.
use Rattle.std.proofs.Common.{◌≡◌, List}
use Rattle.std.specs.Prelude.{map}

abbrev pub AreEqual : {A : Type 0} → List (A × A) → Type 0
AreEqual {A} rows = map (λ (row : A × A). row.0) rows ≡ map (λ (row : A × A). row.1) rows
