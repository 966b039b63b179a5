-- Which states have which labels.
use Rattle.std.specs.Prelude.{ℕ, List}

-- the names in order of first sight, and per state the places of its labels, ascending
pub record Labelling : Type 0 where
  pub names : List (List ℕ)
  pub of_state : List (List ℕ)
