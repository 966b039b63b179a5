-- Probabilities, rewards, and the rewards of a bracket.
use Rattle.std.specs.{Prelude.{ℕ, Bool, List, [], ◌∷◌, length, map, drop, replicate, pos, Result, Ok, Err, ◌==◌, if◌then◌else◌, codes}, List.{slice_split}}
use Rattle.mdp_math.specs.Rational.{ℚ, of_int, neg_ℚ}
use Rattle.mdp_num.specs.{Numeral.{numeral_of}, declared.errors.NumeralError.{NumeralError}}
use Rattle.mdp_num.specs.declared.errors.NumeralError.TheVariants as numeral
use Rattle.mdp_drn.specs.{declared.error.DrnKind.{DrnKind}, declared.error.DrnKind.TheVariants.{Number, Large, Negative, Reward}}
use Rattle.mdp_drn.specs.{Lines.{begins_with, without_blanks_before, without_blanks_behind}, Outcome.{◌>>=◌}}

abbrev pub kind_of : NumeralError → DrnKind
kind_of numeral.Shape = Number
kind_of numeral.ZeroDen = Number
kind_of numeral.Large = Large

abbrev pub from_numeral : Result ℚ NumeralError → Result ℚ DrnKind
from_numeral (Ok x) = Ok x
from_numeral (Err e) = Err (kind_of e)

-- the value of a transition, which has no sign
unfoldable pub value_of : List ℕ → Result ℚ DrnKind
value_of text = if begins_with (codes "-") text then Err Negative else from_numeral (numeral_of text)

-- a reward: a numeral, or `-` and a numeral, whose value is negated
unfoldable pub reward_of : List ℕ → Result ℚ DrnKind
reward_of text =
    if begins_with (codes "-") text then (from_numeral (numeral_of (drop 1 text)) >>= λ x. Ok (neg_ℚ x))
    else from_numeral (numeral_of text)

-- each reward, judged from left to right
abbrev pub each_reward : List (List ℕ) → Result (List ℚ) DrnKind
each_reward [] = Ok []
each_reward (text ∷ texts) = do
  first ← reward_of text
  others ← each_reward texts
  Ok (first ∷ others)

abbrev pub trimmed : List ℕ → List ℕ
trimmed text = without_blanks_behind (without_blanks_before text)

abbrev pub is_comma : ℕ → Bool
is_comma c = c == 44

-- the rewards in a bracket, one for each reward model; none stand for zeros
unfoldable pub rewards_in : ℕ → List ℕ → Result (List ℚ) DrnKind
rewards_in models inside =
    let texts = map trimmed (slice_split is_comma inside) in
    if length (trimmed inside) == 0 then Ok (replicate models (of_int (pos 0)))
    else (if length texts == models then each_reward texts else Err Reward)
