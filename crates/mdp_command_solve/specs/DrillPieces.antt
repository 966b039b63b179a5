-- The pieces of the line of a drill, each of which one function appends.
use Rattle.std.specs.Prelude.{ℕ, List, ◌++◌, decimal, codes}
use Rattle.mdp_math.specs.Rational.{ℚ}
use Rattle.mdp_num.specs.Value.{spelling}

abbrev pub drill_words : ℕ → ℕ → ℕ → List ℕ
drill_words number layers width = codes "drill " ++ decimal number ++ codes " " ++ decimal layers ++ codes " " ++ decimal width

abbrev pub count_words : ℕ → ℕ → List ℕ
count_words states choices = codes " states " ++ decimal states ++ codes " choices " ++ decimal choices

abbrev pub value_words : ℚ → List ℕ
value_words value = codes " value " ++ spelling value ++ codes " yes\n"
