-- What is shown of the text that answers a bounded until, or a total reward.
use Rattle.std.specs.Prelude.{◌≡◌, ℕ, Bool, List, Option, Some, Ok}
use Rattle.mdp_spec.specs.{Labels.{place_of}, Mdp.{Mdp}}
use Rattle.mdp_rows.specs.{declared.dir.Dir.{Dir}, declared.dir.Dir.TheVariants.{Max, Min}}
use Rattle.mdp_horizon.specs.{Bounds.{BoundedMax, BoundedMin, TotalMax, TotalMin}, Spelling.{until_text, total_text}}
use Rattle.mdp_horizon.specs.Written.{Answer, written_until, written_total}
use Rattle.mdp_command_horizon.specs.Due.{states_with, states_that_stay, stay_word}

-- ---- a bounded until

-- the values are the greatest, or the least, probabilities within so many steps, and the tree that follows the table meets them
abbrev pub IsBest : Dir → Mdp → List Bool → List Bool → ℕ → Answer → Type 0
IsBest Max m stays goals steps a = BoundedMax m stays goals steps a.values a.steps
IsBest Min m stays goals steps a = BoundedMin m stays goals steps a.values a.steps

-- the text of the computed values and table, which are best, by way of the states that stay to the states with the label
pub record IsHorizonPrinted (dir : Dir) (stay : Option (List ℕ)) (label : List ℕ) (steps : ℕ) (m : Mdp) (text : List ℕ) : Type 0 where
  pub stays : List Bool
  pub stays_are : states_that_stay m stay ≡ Ok stays
  pub goals : List Bool
  pub goals_are : states_with m label ≡ Ok goals
  pub answer : Answer
  pub spelled : text ≡ until_text dir (stay_word stay) label m answer
  pub computed : written_until dir m stays goals steps ≡ Ok answer
  pub best : IsBest dir m stays goals steps answer

-- ---- the total reward of a name

-- the values are the greatest, or the least, total rewards in so many steps, and the tree that follows the table earns them
abbrev pub IsBestTotal : Dir → Mdp → ℕ → ℕ → Answer → Type 0
IsBestTotal Max m r steps a = TotalMax m r steps a.values a.steps
IsBestTotal Min m r steps a = TotalMin m r steps a.values a.steps

-- the text of the computed values and table, which are best, for the reward name
pub record IsTotalPrinted (dir : Dir) (name : List ℕ) (steps : ℕ) (m : Mdp) (text : List ℕ) : Type 0 where
  pub place : ℕ
  pub place_is : place_of name m.names ≡ Some place
  pub answer : Answer
  pub spelled : text ≡ total_text dir name m answer
  pub computed : written_total dir m place steps ≡ Ok answer
  pub best : IsBestTotal dir m place steps answer
