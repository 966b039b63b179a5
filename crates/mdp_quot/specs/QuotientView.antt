-- The quotient in the code, without where its slices lie.
use Rattle.std.specs.Prelude.{ℕ, List, map}
use Rattle.mdp_spec.specs.{Mdp.{Entry}, Row.{entries}}
use Rattle.mdp_rows.specs.declared.row.Row.{Row}
use Rattle.mdp_quot.specs.Quotient as spec
use Rattle.mdp_quot.specs.declared.node.Node.{Node}

abbrev pub row_in : Row → List Entry
row_in r = entries r.targets.now r.probs.now

abbrev pub rows_in : Node → List (List Entry)
rows_in x = map row_in x.rows.now

abbrev pub quotient_in : List ℕ → List Node → spec.Quotient
quotient_in node_of nodes = record { nodes = node_of; components = map (λ x. x.component) nodes; exits = map (λ x. x.exits.now) nodes; rows = map rows_in nodes }
