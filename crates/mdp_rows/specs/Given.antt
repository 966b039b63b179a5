-- The entries that were given, as a row.
use Rattle.std.specs.Prelude.{List, map, filter, not}
use Rattle.mdp_spec.specs.Mdp.{Entry}
use Rattle.mdp_rows.specs.{Draft.{is_zero}, declared.given.Given.{Given}}

abbrev pub entry_of : Given → Entry
entry_of g = record { target = g.target; prob = g.value }

abbrev pub row_of : List Given → List Entry
row_of row = map entry_of row

-- the entries whose values aren't 0
abbrev pub kept_given : List Given → List Given
kept_given row = filter (λ g. not (is_zero g.value)) row
