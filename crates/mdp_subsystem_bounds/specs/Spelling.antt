-- The text of a certificate of bounds of a subsystem.
use Rattle.std.specs.Prelude.{ℕ, List, ◌++◌, decimal, codes}
use Rattle.mdp_text.specs.Spelling.{line, ◌␣◌, states_text}
use Rattle.mdp_rows.specs.{declared.dir.Dir.{Dir}, declared.dir.Dir.TheVariants.{Max, Min}}
use Rattle.mdp_cert.specs.{declared.version.Version.TheVariants.{Two}, BoundsSpelling.{version_text}, Spelling.{claim_text, closed_lines}}
use Rattle.mdp_subsystem_bounds.specs.{Cert.{Lists, Certificate, states_in, plain_claim}, Entries.{led_columns, led_of, ranked_columns, ranked_of}}

-- the initial state, without a value
abbrev pub start_text : ℕ → List ℕ
start_text start = codes "init" ␣ decimal start

-- the lines before those of the states
abbrev pub head_text : Certificate → List ℕ
head_text c = line version_text ++ (line (claim_text (plain_claim c.claim)) ++ (line (states_text (states_in c)) ++ line (start_text c.start)))

-- those of the states, a line for each longest run with the same words, and the line `end`
abbrev pub lists_text : Dir → Lists → List ℕ
lists_text Max x = closed_lines Two led_columns (led_of x.lower x.choices x.ranks x.marks)
lists_text Min x = closed_lines Two ranked_columns (ranked_of x.lower x.ranks x.marks)

unfoldable pub text_of : Certificate → List ℕ
text_of c = head_text c ++ lists_text c.claim.dir c.lists
