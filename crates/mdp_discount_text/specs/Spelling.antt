-- The text of a certificate of the discounted reward.
use Rattle.std.specs.Prelude.{ℕ, List, ◌++◌, length, codes}
use Rattle.mdp_math.specs.Rational.{ℚ}
use Rattle.mdp_num.specs.Value.{spelling}
use Rattle.mdp_rows.specs.declared.dir.Dir.{Dir}
use Rattle.mdp_text.specs.Spelling.{line, ◌␣◌, quoted, dir_text, states_text, init_text}
use Rattle.mdp_cert.specs.{declared.version.Version.TheVariants.{One}, Spelling.{closed_lines}, Pairs.{pairs}}
use Rattle.mdp_discount_text.specs.Entries.{priced_columns}
use Rattle.mdp_discount_rules.specs.Cert.{Certificate}

abbrev pub version_text : List ℕ
version_text = codes "mdp-discount 1"

abbrev pub claim_text : Dir → List ℕ → ℚ → List ℕ
claim_text dir name f = codes "claim" ␣ dir_text dir ␣ codes "discount" ␣ quoted name ␣ spelling f

abbrev pub remainder_text : ℚ → List ℕ
remainder_text remainder = codes "remainder" ␣ spelling remainder

-- the lines before those of the states
abbrev pub head_text : Certificate → List ℕ
head_text c =
    line version_text
    ++ (line (claim_text c.dir c.name c.factor) ++ (line (states_text (length c.values)) ++ (line (init_text c.init) ++ line (remainder_text c.remainder))))

-- behind them a line for each state, and the line `end`
unfoldable pub text_of : Certificate → List ℕ
text_of c = head_text c ++ closed_lines One priced_columns (pairs c.values c.choices)
