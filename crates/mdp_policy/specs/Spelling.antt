-- The text of a policy's value.
use Rattle.std.specs.Prelude.{ℕ, List, ◌++◌, Option, Some, None, decimal, codes}
use Rattle.mdp_spec.specs.{Mdp.{Mdp, states_of, value_at}, Labels.{initial_of}}
use Rattle.mdp_rows.specs.{declared.dir.Dir.{Dir}, declared.dir.Dir.TheVariants.{Max, Min}}
use Rattle.mdp_text.specs.{Heads.{init_by}, Spelling.{line, ◌␣◌, quoted, dir_text, states_text, init_text, value_lines, end_text}}
use Rattle.mdp_policy.specs.{Written.{Answer}, declared.value.Change.{Change}}

abbrev pub version_text : List ℕ
version_text = codes "mdp-value 1"

-- what was asked: of the policy, how it reaches the states of a label, or how it comes to them by way of those of another one
abbrev pub query_text : Option (List ℕ) → List ℕ → List ℕ
query_text None label = codes "policy" ␣ codes "reach" ␣ quoted label
query_text (Some stay) label = codes "policy" ␣ codes "until" ␣ quoted stay ␣ quoted label

-- the first change that is better, where there is one
abbrev pub change_text : Option Change → List ℕ
change_text None = codes "none"
change_text (Some change) = decimal change.state ␣ decimal change.choice

abbrev pub improve_text : Dir → Option Change → List ℕ
improve_text dir change = codes "improve" ␣ dir_text dir ␣ change_text change

-- the lines before those of the changes
abbrev pub head_text : Option (List ℕ) → List ℕ → Mdp → Answer → List ℕ
head_text stay label m a =
    line version_text ++ (line (query_text stay label) ++ (line (states_text (states_of m)) ++ line (init_text (init_by (initial_of m) (λ s. Some (value_at a.values s))))))

unfoldable pub changes_text : Answer → List ℕ
changes_text a = line (improve_text Max a.up) ++ line (improve_text Min a.down)

unfoldable pub value_text : Option (List ℕ) → List ℕ → Mdp → Answer → List ℕ
value_text stay label m a = head_text stay label m a ++ (changes_text a ++ (value_lines 0 a.values ++ line end_text))
