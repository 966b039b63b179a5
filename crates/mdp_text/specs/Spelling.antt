-- How words and lines are spelled.
use Rattle.std.specs.Prelude.{ℕ, suc, List, [], ◌∷◌, ◌++◌, decimal, codes}
use Rattle.mdp_math.specs.Rational.{ℚ}
use Rattle.mdp_num.specs.Value.{spelling}
use Rattle.mdp_rows.specs.{declared.dir.Dir.{Dir}, declared.dir.Dir.TheVariants.{Max, Min}}
use Rattle.mdp_text.specs.{declared.init.Init.{Init}, declared.init.Init.TheVariants.{Missing, Finite, Infinite, Start}}

-- a text with its line feed
abbrev pub line : List ℕ → List ℕ
line text = text ++ 10 ∷ []

-- two words with one blank between
infixr 6 ◌␣◌
abbrev pub ◌␣◌ : List ℕ → List ℕ → List ℕ
a ␣ b = a ++ 32 ∷ b

abbrev pub quoted : List ℕ → List ℕ
quoted name = 34 ∷ (name ++ 34 ∷ [])

abbrev pub dir_text : Dir → List ℕ
dir_text Max = codes "max"
dir_text Min = codes "min"

-- ---- lines that several texts have

abbrev pub states_text : ℕ → List ℕ
states_text states = codes "states" ␣ decimal states

abbrev pub init_text : Init → List ℕ
init_text Missing = codes "init -"
init_text (Finite state value) = codes "init" ␣ decimal state ␣ spelling value
init_text (Infinite state) = codes "init" ␣ decimal state ␣ codes "inf"
init_text (Start state) = codes "init" ␣ decimal state

abbrev pub value_text : ℕ → ℚ → List ℕ
value_text state value = codes "state" ␣ decimal state ␣ spelling value

-- the states from this one on, each with its value
abbrev pub value_lines : ℕ → List ℚ → List ℕ
value_lines state [] = []
value_lines state (value ∷ values) = line (value_text state value) ++ value_lines (suc state) values

abbrev pub end_text : List ℕ
end_text = codes "end"
