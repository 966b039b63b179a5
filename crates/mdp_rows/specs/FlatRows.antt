-- The rows that flat vectors hold.
use Rattle.std.specs.Prelude.{◌≡◌, ◌<◌, ◌^◌, List, length, All}
use Rattle.mdp_spec.specs.{Mdp.{Entry}, Row.{entries, IsDistribution}}
use Rattle.mdp_rows.specs.{Pieces.{pieces, ArePlaces}, declared.rows.Rows.TheInside.{Inside}}

abbrev pub all_entries : Inside → List Entry
all_entries r = entries r.targets.items r.probs.items

unfoldable pub rows_in : Inside → List (List Entry)
rows_in r = pieces (all_entries r) r.starts.items

pub record AreRows (r : Inside) : Type 0 where
  pub same_length : length r.targets.items ≡ length r.probs.items
  pub places : ArePlaces r.starts.items (length r.targets.items)
  pub few_rows : length r.starts.items < 2 ^ 32
  pub few_entries : length r.targets.items < 2 ^ 32
  pub distributions : All IsDistribution (rows_in r)
