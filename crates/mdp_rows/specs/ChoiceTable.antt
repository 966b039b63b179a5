-- The choices of all states one after the other, under their reward names.
use Rattle.std.specs.Prelude.{◌≡◌, ℕ, List, length}
use Rattle.mdp_spec.specs.{Mdp.{Choice}, Row.{IsDistribution}}

pub record ChoiceTable : Type 0 where
  pub names : List (List ℕ)
  pub choices : List Choice

-- a choice with this many rewards
pub record IsChoice (names : ℕ) (c : Choice) : Type 0 where
  pub distribution : IsDistribution c.row
  pub rewards : length c.rewards ≡ names
