-- The text of a certificate of bounds of the discounted reward.
use Rattle.std.specs.Prelude.{ℕ, List, ◌++◌, length, decimal, codes, Option, Some, None}
use Rattle.mdp_text.specs.Spelling.{line, ◌␣◌, states_text}
use Rattle.mdp_cert.specs.{declared.version.Version.TheVariants.{Two}, Claims.{reward_text}, Spelling.{closed_lines}}
use Rattle.mdp_discount_text.specs.{Spelling.{claim_text, remainder_text}, Entries.{lower_text, between_columns, entries_of}}
use Rattle.mdp_discount_rules.specs.{BoundsCert.{Certificate}, declared.bounds_init.InitialBounds.{InitialBounds}}

abbrev pub version_text : List ℕ
version_text = codes "mdp-bounds 1"

-- the initial state with its lower and its upper value, or `-`
abbrev pub init_text : Option InitialBounds → List ℕ
init_text None = codes "init -"
init_text (Some init) = codes "init" ␣ decimal init.state ␣ lower_text init.lower ␣ reward_text init.upper

-- the lines before those of the states
abbrev pub head_text : Certificate → List ℕ
head_text c =
    line version_text
    ++ (line (claim_text c.dir c.name c.factor) ++ (line (states_text (length c.lower)) ++ (line (init_text c.init) ++ line (remainder_text c.remainder))))

-- behind them the lines of the longest runs, and the line `end`
unfoldable pub text_of : Certificate → List ℕ
text_of c = head_text c ++ closed_lines Two between_columns (entries_of c.lower c.upper c.choices)
