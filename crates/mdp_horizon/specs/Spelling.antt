-- The text of an answer.
use Rattle.std.specs.{Prelude.{ℕ, suc, List, [], ◌∷◌, ◌++◌, length, Some, decimal, codes}, List.{flat_map}}
use Rattle.mdp_spec.specs.{Mdp.{Mdp, states_of, value_at}, Labels.{initial_of}}
use Rattle.mdp_rows.specs.declared.dir.Dir.{Dir}
use Rattle.mdp_text.specs.{Heads.{init_by}, Spelling.{line, ◌␣◌, quoted, dir_text, states_text, init_text, value_lines, end_text}}
use Rattle.mdp_horizon.specs.Written.{Answer}

abbrev pub version_text : List ℕ
version_text = codes "mdp-horizon 1"

-- what was asked, within so many steps: to come from states of A to states of B, or to earn by the reward name
abbrev pub until_claim : Dir → List ℕ → List ℕ → ℕ → List ℕ
until_claim dir stay label steps = codes "claim" ␣ dir_text dir ␣ codes "until" ␣ quoted stay ␣ quoted label ␣ decimal steps

abbrev pub total_claim : Dir → List ℕ → ℕ → List ℕ
total_claim dir name steps = codes "claim" ␣ dir_text dir ␣ codes "reward" ␣ quoted name ␣ decimal steps

-- each choice behind one blank
abbrev pub choice_words : List ℕ → List ℕ
choice_words choices = flat_map (λ c. 32 ∷ decimal c) choices

abbrev pub step_text : ℕ → List ℕ → List ℕ
step_text left choices = codes "step" ++ choice_words (left ∷ choices)

-- the steps from the first one on, each with the number of steps that are left
abbrev pub step_lines : List (List ℕ) → List ℕ
step_lines [] = []
step_lines (choices ∷ steps) = line (step_text (suc (length steps)) choices) ++ step_lines steps

-- the number of states, the initial state, a line for each state and a line for each step
abbrev pub answer_lines : Mdp → Answer → List ℕ
answer_lines m a =
    line (states_text (states_of m))
    ++ (line (init_text (init_by (initial_of m) (λ s. Some (value_at a.values s)))) ++ (value_lines 0 a.values ++ (step_lines a.steps ++ line end_text)))

-- the answer to a claim
abbrev pub answer_text : List ℕ → Mdp → Answer → List ℕ
answer_text claim m a = line version_text ++ (line claim ++ answer_lines m a)

unfoldable pub until_text : Dir → List ℕ → List ℕ → Mdp → Answer → List ℕ
until_text dir stay label m a = answer_text (until_claim dir stay label (length a.steps)) m a

unfoldable pub total_text : Dir → List ℕ → Mdp → Answer → List ℕ
total_text dir name m a = answer_text (total_claim dir name (length a.steps)) m a
