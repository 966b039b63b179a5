-- The text of a certificate of bounds.
use Rattle.std.specs.Prelude.{ℕ, List, ◌++◌, decimal, codes}
use Rattle.mdp_text.specs.Spelling.{line, ◌␣◌, states_text}
use Rattle.mdp_cert.specs.{declared.version.Version.TheVariants.{Two}, Claims.{fraction_value, reward_value, reward_text}}
use Rattle.mdp_cert.specs.{Spelling.{claim_text, closed_lines, spread_text}, declared.init.BoundsInit.{BoundsInit}}
use Rattle.mdp_cert.specs.{declared.init.BoundsInit.TheVariants.{Missing, Between}, BoundsCert.{PlainBounds, probabilities, rewards, gains, Certificate}}
use Rattle.mdp_cert.specs.Entries.{ranked_columns, ranked_of, gains_columns, gains_of}

abbrev pub version_text : List ℕ
version_text = codes "mdp-bounds 1"

-- the initial state with its lower and its upper value, or `-`
abbrev pub init_text : BoundsInit → List ℕ
init_text Missing = codes "init -"
init_text (Between state lower upper) = codes "init" ␣ decimal state ␣ reward_text lower ␣ reward_text upper

-- the lines before those of the body
abbrev pub head_text : Certificate → List ℕ
head_text c = line version_text ++ (line (claim_text c.claim) ++ (line (states_text c.states) ++ line (init_text c.init)))

-- the lines of the longest runs and the line `end`, behind that of the spread for mean payoffs
abbrev pub body_text : PlainBounds → List ℕ
body_text (probabilities lower upper choices ranks) = closed_lines Two (ranked_columns fraction_value) (ranked_of lower upper choices ranks)
body_text (rewards lower upper choices ranks) = closed_lines Two (ranked_columns reward_value) (ranked_of lower upper choices ranks)
body_text (gains lower upper bound bias choices spread) = line (spread_text spread) ++ closed_lines Two gains_columns (gains_of lower upper bound bias choices)

unfoldable pub text_of : Certificate → List ℕ
text_of c = head_text c ++ body_text c.body
