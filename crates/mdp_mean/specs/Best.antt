-- What the solved end components are: each has its best gain.
use Rattle.std.specs.Prelude.{◌≡◌, ℕ, ◌<◌, List, length, Option, None, pos}
use Rattle.mdp_math.specs.Rational.{of_int}
use Rattle.mdp_spec.specs.Mdp.{Mdp, states_of, value_at}
use Rattle.mdp_rows.specs.declared.dir.Dir.{Dir}
use Rattle.mdp_ends.specs.Ends.{part_of, count_of}
use Rattle.mdp_gain.specs.{Query.{Answer}, Best.{IsBestInner}}
use Rattle.mdp_mean.specs.Inners.{Inners, AreAnswers}

-- what stands for end component i is a best answer
abbrev pub IsBest : Dir → Mdp → List (Option ℕ) → ℕ → ℕ → Inners → Type 0
IsBest dir m parts r i x = (a : Answer) × IsBestInner dir m parts i r a × AreAnswers m parts i a x

pub record AreBest (dir : Dir) (m : Mdp) (parts : List (Option ℕ)) (r : ℕ) (x : Inners) : Type 0 where
  pub gain_each : length x.gains ≡ count_of parts
  pub bias_each : length x.bias ≡ states_of m
  pub choice_each : length x.choices ≡ states_of m
  pub best : (i : ℕ) → i < count_of parts → IsBest dir m parts r i x
  pub no_bias : (s : ℕ) → s < states_of m → part_of parts s ≡ None → value_at x.bias s ≡ of_int (pos 0)
