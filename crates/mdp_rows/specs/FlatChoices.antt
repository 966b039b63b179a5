-- The choices that flat vectors hold.
use Rattle.std.specs.{Prelude.{◌≡◌, ℕ, ◌*◌, List, [], ◌∷◌, length, map, take, drop}, Global.{Vec}}
use Rattle.mdp_math.specs.Rational.{ℚ}
use Rattle.mdp_spec.specs.Mdp.{Entry, Choice}
use Rattle.mdp_rows.specs.{ChoiceTable.{ChoiceTable}, Name.{AreRewardNames}, declared.choices.Choices.TheInside.{Inside}}

abbrev pub bytes_of : List (Vec ℕ) → List (List ℕ)
bytes_of names = map (λ n. n.items) names

-- each row with the next rewards, so many for each
abbrev pub with_rewards : ℕ → List (List Entry) → List ℚ → List Choice
with_rewards n [] xs = []
with_rewards n (row ∷ rows) xs = record { row = row; rewards = take n xs } ∷ with_rewards n rows (drop n xs)

unfoldable pub table_in : Inside → ChoiceTable
table_in c = record { names = bytes_of c.names.items; choices = with_rewards (length c.names.items) c.rows c.rewards.items }

pub record AreChoices (c : Inside) : Type 0 where
  pub names : AreRewardNames (bytes_of c.names.items)
  pub rewards : length c.rewards.items ≡ length c.rows * length c.names.items
