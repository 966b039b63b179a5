-- The word that names each kind of refusal.
use Rattle.std.specs.Prelude.{ℕ, List, codes}
use Rattle.mdp_drn.specs.declared.error.DrnKind.{DrnKind}
use Rattle.mdp_drn.specs.declared.error.DrnKind.TheVariants as drn

unfoldable pub drn_word : DrnKind → List ℕ
drn_word drn.Header = codes "header"
drn_word drn.Type = codes "type"
drn_word drn.Parametric = codes "parametric"
drn_word drn.Number = codes "number"
drn_word drn.Large = codes "large"
drn_word drn.Order = codes "order"
drn_word drn.Count = codes "count"
drn_word drn.Reward = codes "reward"
drn_word drn.Target = codes "target"
drn_word drn.Twice = codes "twice"
drn_word drn.RowSum = codes "row-sum"
drn_word drn.RowWide = codes "row-wide"
drn_word drn.NoChoice = codes "no-choice"
drn_word drn.Label = codes "label"
drn_word drn.TooMany = codes "too-many"
drn_word drn.Shape = codes "shape"
drn_word drn.Negative = codes "negative"
drn_word drn.LongLine = codes "long-line"
drn_word drn.End = codes "end"
drn_word drn.Choices = codes "choices"
